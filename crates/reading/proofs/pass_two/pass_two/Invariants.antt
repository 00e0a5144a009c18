use Prim.Native.Nat.{ℕ, ◌-◌, ◌*◌, ◌≤◌}
use mathlib.Core.Path.{◌≡◌}
use mathlib.Core.List.{List}
use lib.ListN.{length, drop}
use Rattle.store.specs.declared.Counts.{Counts}
use Rattle.store.specs.Graph.{Graph}
use Rattle.text.specs.Pieces.{lines_of}
use Rattle.reading.specs.Reading.{Store, store, going, pass, pass_two_line}
use Rattle.reading.specs.Held.{Held}
use Rattle.reading.proofs.Turns.{Turn}
use Rattle.reading.proofs.pass_two.pass_two.Given as goal

-- as in pass one
pub record Inv (text nodes links₀ : List ℕ) (used₀ : Counts) (links : List ℕ) (used : Counts) (at : ℕ) : Type 0 where
  pub bound : at ≤ length text
  pub links_size : length links ≡ length links₀
  pub same_nodes : used.nodes ≡ used₀.nodes
  pub link_room : 3 * used.links ≤ length links
  pub turn : (letters : List ℕ) (l : Store) (g : Graph) → Held l g (store nodes letters links₀) used₀ → Turn l (pass_two_line l) (lines_of (drop at text)) (pass (pass_two_line l) (going g) (lines_of text)) (store nodes letters links) used

abbrev pub invariant-loop-used : goal.invariant-loop-used
invariant-loop-used l = Inv l.text l.nodes l.initial.links l.initial.used l.links l.used l.at

abbrev pub decreases-loop-used : goal.decreases-loop-used
decreases-loop-used l = length l.text - l.at
