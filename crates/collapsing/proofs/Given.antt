-- What graph and events that give no number are.
use Prim.Native.Nat.{ℕ}
use mathlib.Core.Path.{◌≡◌, refl}
use mathlib.Core.Bool.{Bool, true, false, cond, not}
use mathlib.Core.List.{List}
use native.Mathlib.Omega.{arith}
use Rattle.store.specs.declared.Counts.{Counts}
use Rattle.store.specs.Graph.{nodes_of}
use Rattle.formed.specs.WellFormed.{well_formed, ids_once}
use Rattle.events.specs.declared.Used.{Used}
use Rattle.events.specs.Events.{rules_of}
use Rattle.events.specs.WellFormed.{events_formed, keys_once}
use Rattle.collapsing.specs.Outcome.{Lent, state_number}

pub record Sound (l : Lent) (letters : List ℕ) (c : Counts) (u : Used) : Type 0 where
  pub graph : well_formed l.nodes letters l.links c ≡ true
  pub events : events_formed l.rules l.steps u ≡ true
  pub ids : ids_once (nodes_of c.nodes l.nodes) ≡ true
  pub keys : keys_once (rules_of u.rules l.rules) ≡ true

all_pass : (a b c d : Bool) → ◌≡◌ {A = ℕ} (cond (not a) 13 (cond (not b) 13 (cond (not c) 5 (cond (not d) 5 0)))) 0 → (a ≡ true) × (b ≡ true) × (c ≡ true) × (d ≡ true)
all_pass true true true true e = (refl, refl, refl, refl)
all_pass true true true false e = absurd (omega arith)
all_pass true true false d e = absurd (omega arith)
all_pass true false c d e = absurd (omega arith)
all_pass false b c d e = absurd (omega arith)

pub state-zero : (l : Lent) (letters : List ℕ) (c : Counts) (u : Used) → state_number l letters c u ≡ 0 → Sound l letters c u
state-zero l letters c u e =
    let k = all_pass (well_formed l.nodes letters l.links c) (events_formed l.rules l.steps u) (ids_once (nodes_of c.nodes l.nodes)) (keys_once (rules_of u.rules l.rules)) e in
    record { graph = k.0; events = k.1; ids = k.2; keys = k.3 }
