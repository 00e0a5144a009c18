use Prim.Native.Nat.{ℕ, ◌-◌, ◌*◌, ◌≤◌}
use mathlib.Core.Path.{◌≡◌}
use mathlib.Core.List.{List}
use lib.ListN.{length, drop}
use Rattle.store.specs.declared.Counts.{Counts}
use Rattle.store.specs.Graph.{Graph}
use Rattle.text.specs.Pieces.{lines_of}
use Rattle.reading.specs.Reading.{Store, store, going, pass, pass_one_line}
use Rattle.reading.specs.Held.{Held}
use Rattle.reading.proofs.Turns.{Turn}
use Rattle.reading.proofs.pass_one.pass_one.Given as goal

-- at the head of the loop: the lines from `at` on lead to where all of them do
pub record Inv (text nodes₀ letters₀ : List ℕ) (used₀ : Counts) (nodes letters : List ℕ) (used : Counts) (at : ℕ) : Type 0 where
  pub bound : at ≤ length text
  pub nodes_size : length nodes ≡ length nodes₀
  pub letters_size : length letters ≡ length letters₀
  pub node_room : 4 * used.nodes ≤ length nodes
  pub letter_room : used.letters ≤ length letters
  pub turn : (links : List ℕ) (l : Store) (g : Graph) → Held l g (store nodes₀ letters₀ links) used₀ → Turn l (pass_one_line l) (lines_of (drop at text)) (pass (pass_one_line l) (going g) (lines_of text)) (store nodes letters links) used

abbrev pub invariant-loop-used : goal.invariant-loop-used
invariant-loop-used l = Inv l.text l.initial.nodes l.initial.letters l.initial.used l.nodes l.letters l.used l.at

abbrev pub decreases-loop-used : goal.decreases-loop-used
decreases-loop-used l = length l.text - l.at
