-- Which group the driver takes next: 01 "Prefix, groups, collapse", driver.
use Rattle.std.specs.Prelude.{ℕ, Bool, not, ◌&&◌, List, [], ◌∷◌, eqb, leb, length}
use Rattle.kit.specs.Loops.{any, first_or, keep, lines}
use Rattle.handle.specs.declared.Handle.{Handle}
use Rattle.handle.specs.Handle.{id_of, pack}
use Rattle.store.specs.Graph.{Graph}
use Rattle.store.specs.declared.Node.{Node}
use Rattle.store.specs.Views.{unmarked_node}
use Rattle.sides.specs.Sides.{rising}
use Rattle.affix.specs.Prefix.{members_once, group_prefix}
use Rattle.groups.specs.Groups.{groups_of}

-- live nodes by rising id, forward then reverse
abbrev pub both_ways : Node → List Handle
both_ways r = pack r.id 0 ∷ pack r.id 1 ∷ []

abbrev pub scan_order : List Node → List Handle
scan_order nodes = rising (lines both_ways (keep unmarked_node nodes))

-- a protected id bars its node as a member
abbrev pub is_protected : List ℕ → Handle → Bool
is_protected protected m = any (eqb (id_of m)) protected

-- two or more, none twice, none protected, with a prefix
abbrev pub must_collapse : Graph → List ℕ → List Handle → Bool
must_collapse g protected ms =
    leb 2 (length ms) && members_once ms && not (any (is_protected protected) ms) && leb 1 (length (group_prefix g ms))

-- the first of them; no members where none is left
abbrev pub next_group : Graph → List ℕ → List Handle
next_group g protected = first_or [] (must_collapse g protected) (lines (groups_of g) (scan_order g.nodes))
