-- C8's path, a reversed step, a walk; and the numbers in their order.
use Prim.Native.Nat.{ℕ}
use mathlib.Core.Path.{◌≡◌, refl}
use mathlib.Core.List.{List, [], ◌∷◌, map}
use Rattle.kit.specs.Decimal.{decimal}
use Rattle.handle.specs.Handle.{flip}
use Rattle.store.specs.Graph.{Graph, node}
use Rattle.events.specs.Events.{Rules, rule, step}
use Rattle.text.specs.Bytes.{bytes}
use Rattle.text.specs.Fields.{line_number, shape_number, handles_said}
use Rattle.writing.specs.Marks.{walk_text, path_text}
use Rattle.paths.specs.PathText.{paths_text, paths_number, new_path, new_walk}

abbrev old : Graph
old = record { nodes = node 1 0 1 0 ∷ node 2 1 3 0 ∷ node 3 4 3 0 ∷ []; letters = bytes "AACGACT"; links = [] }

abbrev table : Rules
table = record { rules = rule 2 3 0 2 ∷ rule 3 3 2 2 ∷ []; steps = step 4 2 ∷ step 8 1 ∷ step 4 2 ∷ step 10 1 ∷ [] }

rewritten : paths_text old table (bytes "P\tx\t1+,3+\t*\nS\t1\tA\nW\ta\t0\ts\t0\t4\t>1<2\tX:i:1\nP\ty\t3-\t0M") ≡ bytes "P\tx\t1+,2+,5+\t*\nW\ta\t0\ts\t0\t4\t>1<4<2\nP\ty\t5-,2-\t*\n"
unfolding new_path new_walk walk_text path_text decimal flip
rewritten = refl

abbrev number_of : List ℕ → ℕ
number_of text = paths_number old.nodes text

-- other lines are not looked at; pass one before pass two
order : map number_of (bytes "S\nP\tx\t1+\t*" ∷ bytes "P\tx\t7+\t*\nP\tx\t1\t*" ∷ bytes "P\tx\t7+\t*" ∷ bytes "W\ta\t0\ts\t0\t1\t>x" ∷ []) ≡ 0 ∷ 1 ∷ 6 ∷ 2 ∷ []
unfolding line_number shape_number handles_said
order = refl
