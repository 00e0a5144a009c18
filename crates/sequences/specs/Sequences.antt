-- Collapses one after another: 01 "Prefix, groups, collapse".
use Rattle.std.specs.Prelude.{ℕ, ◌-◌, ◌*◌, Bool, true, ◌&&◌, List, [], ◌∷◌, eqb, length}
use Rattle.kit.specs.Loops.{sum}
use Rattle.handle.specs.declared.Handle.{Handle}
use Rattle.store.specs.Graph.{Graph}
use Rattle.events.specs.Events.{Rules}
use Rattle.collapsing.specs.Making.{State, state, state_after, members_number}

-- a group and the length at which it is collapsed
pub record Collapse : Type 0 where
  pub members : List Handle
  pub p : ℕ

abbrev pub no_events : Rules
no_events = record { rules = []; steps = [] }

-- a graph before any collapse
abbrev pub beginning : Graph → State
beginning g = state g no_events

abbrev pub after_one : State → Collapse → State
after_one s k = state_after k.p s k.members

abbrev pub after_all : State → List Collapse → State
after_all s [] = s
after_all s (k ∷ ks) = after_all (after_one s k) ks

-- each gives none of 8 to 11 where its turn comes
abbrev pub allowed : State → List Collapse → Bool
allowed s [] = true
allowed s (k ∷ ks) = eqb (members_number k.p s.graph k.members) 0 && allowed (after_one s k) ks

-- by how much one lowers the live letters: p times (k minus 1)
abbrev pub lowers : Collapse → ℕ
lowers k = k.p * (length k.members - 1)

abbrev pub lowers_all : List Collapse → ℕ
lowers_all ks = sum lowers ks
