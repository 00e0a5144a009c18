-- What the code looks at, from one to the next, and how it hands out the group that it finds.
use Rattle.std.specs.Prelude.{ℕ, ◌≡◌, cond, List, [], length, take, Option, Some, None}
use Rattle.kit.specs.Loops.{first_or}
use Rattle.handle.specs.declared.Handle.{Handle}
use Rattle.store.specs.Graph.{Graph}
use Rattle.sides.specs.Sides.{right_of}
use Rattle.groups.specs.Groups.{group_of, groups_of, numbers}
use Rattle.choosing.specs.Scan.{must_collapse}

-- u's group among the right neighbours of v, if it must be collapsed, else no members; and the first such group of v
abbrev pub tried : Graph → List ℕ → Handle → Handle → List Handle
tried g protected v u = cond (must_collapse g protected (group_of g (right_of g v) u)) (group_of g (right_of g v) u) []

abbrev pub first_group : Graph → List ℕ → Handle → List Handle
first_group g protected v = first_or [] (must_collapse g protected) (groups_of g v)

-- the members stand at the front of a lent array, and n is how many
pub record Front (ms : List Handle) (l : List ℕ) (n : ℕ) : Type 0 where
  pub size : n ≡ length ms
  pub here : take n l ≡ numbers ms

-- the size of a group that was handed out; 0 where none was
abbrev pub size_of : Option ℕ → ℕ
size_of None = 0
size_of (Some n) = n
