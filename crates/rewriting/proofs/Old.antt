-- What an old graph and a table that give no number are.
use Prim.Native.Nat.{ℕ}
use mathlib.Core.Path.{◌≡◌, refl}
use mathlib.Core.Bool.{Bool, true, false, cond, not}
use mathlib.Core.List.{List}
use native.Mathlib.Omega.{arith}
use Rattle.kit.proofs.Bools.{and_true_l}
use Rattle.store.specs.declared.Counts.{Counts}
use Rattle.store.specs.Graph.{nodes_of, graph_of}
use Rattle.formed.specs.WellFormed.{well_formed, unmarked, old_formed, ids_once}
use Rattle.formed.proofs.Says.{Room, formed_room}
use Rattle.events.specs.declared.Used.{Used}
use Rattle.events.specs.Events.{rules_of}
use Rattle.events.specs.WellFormed.{table_formed, keys_once}
use Rattle.rewriting.specs.Rewriting.{old_number}

pub old-room : (nodes letters links : List ℕ) (c : Counts) → old_formed nodes letters links c ≡ true → Room nodes letters links c
old-room nodes letters links c t =
    formed_room nodes letters links c (and_true_l (well_formed nodes letters links c) (unmarked (graph_of nodes letters links c)) t)

both-pass : (a b c d : Bool) → ◌≡◌ {A = ℕ} (cond (not a) 13 (cond (not b) 13 (cond (not c) 5 (cond (not d) 5 0)))) 0 → (a ≡ true) × (b ≡ true)
both-pass true true c d e = (refl, refl)
both-pass true false c d e = absurd (omega arith)
both-pass false b c d e = absurd (omega arith)

pub old-zero : (nodes letters links : List ℕ) (c : Counts) (rules steps : List ℕ) (u : Used) → old_number nodes letters links c rules steps u ≡ 0 → (old_formed nodes letters links c ≡ true) × (table_formed rules steps u ≡ true)
old-zero nodes letters links c rules steps u e =
    both-pass (old_formed nodes letters links c) (table_formed rules steps u) (ids_once (nodes_of c.nodes nodes)) (keys_once (rules_of u.rules rules)) e
