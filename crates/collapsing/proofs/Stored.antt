-- The four arrays, each with its records in front, are the outcome of a collapse.
use Prim.Native.Nat.{ℕ, ◌*◌}
use mathlib.Core.Path.{◌≡◌}
use mathlib.Core.List.{List, ◌++◌}
use lib.ListN.{length, drop}
use Rattle.kit.specs.Layout.{encode}
use Rattle.handle.specs.declared.Handle.{Handle}
use Rattle.store.specs.declared.Counts.{Counts}
use Rattle.store.specs.Graph.{node_layout, link_layout}
use Rattle.events.specs.declared.Used.{Used}
use Rattle.events.specs.Events.{rule_layout, step_layout}
use Rattle.collapsing.specs.Making.{State}
use Rattle.longer.specs.Longer.{front}
use Rattle.collapsing.specs.Outcome.{Lent, outcome, made, lent, used_of}

pub all_stored_lem : (X : Handle) (S : State) (c : Counts) (l : Lent) (x : Handle) (count n : ℕ) (used : Used) (nodes links rules steps : List ℕ) → x ≡ X → count ≡ length S.graph.nodes → n ≡ length S.graph.links → used ≡ used_of S → nodes ≡ encode node_layout S.graph.nodes ++ drop (4 * count) l.nodes → links ≡ encode link_layout S.graph.links ++ drop (3 * n) l.links → rules ≡ front rule_layout S.events.rules l.rules → steps ≡ front step_layout S.events.steps l.steps → outcome (record { number = 0; shared = x.packed; counts = record { nodes = count; letters = c.letters; links = n }; used = used }) (lent nodes links rules steps) ≡ made X S c l
all_stored_lem X S c l x count n used nodes links rules steps e₁ e₂ e₃ e₄ e₅ e₆ e₇ e₈ = rw (e₅, e₆, e₇, e₈, e₁, e₂, e₃, e₄)
