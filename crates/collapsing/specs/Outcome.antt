-- All that a caller of a collapse sees: the answer, and the four lent arrays as it finds them.
use Rattle.std.specs.Prelude.{ℕ, ◌*◌, cond, not, List, [], ◌∷◌, ◌++◌, eqb, length, drop}
use Rattle.kit.specs.Layout.{encode}
use Rattle.handle.specs.declared.Handle.{Handle}
use Rattle.store.specs.declared.Counts.{Counts}
use Rattle.store.specs.Graph.{graph_of, node_layout, link_layout, nodes_of}
use Rattle.formed.specs.WellFormed.{well_formed, ids_once}
use Rattle.events.specs.declared.Used.{Used}
use Rattle.events.specs.Events.{rule_layout, step_layout, rules_of, list_of}
use Rattle.events.specs.WellFormed.{events_formed, keys_once}
use Rattle.merging.specs.Merging.{shared_node}
use Rattle.collapsing.specs.Making.{State, Room, state, state_after, collapse_number}
use Rattle.collapsing.specs.declared.Collapsed.{Collapsed}

-- the arrays that hold graph and events; letters never move
pub record Lent : Type 0 where
  pub nodes : List ℕ
  pub links : List ℕ
  pub rules : List ℕ
  pub steps : List ℕ

abbrev pub lent : List ℕ → List ℕ → List ℕ → List ℕ → Lent
lent nodes links rules steps = record { nodes = nodes; links = links; rules = rules; steps = steps }

abbrev pub room_of : Lent → Room
room_of l =
    record {
      nodes = length l.nodes;
      links = length l.links;
      rules = length l.rules;
      steps = length l.steps;
    }

-- what stands in them, by the counts of what is in use
abbrev pub state_in : Lent → List ℕ → Counts → Used → State
state_in l letters c u = state (graph_of l.nodes letters l.links c) (list_of l.rules l.steps u)

-- a state in them: from the front, then what stood after it
abbrev pub holding : State → Lent → Lent
holding s l =
    lent (encode node_layout s.graph.nodes ++ drop (4 * length s.graph.nodes) l.nodes)
    (encode link_layout s.graph.links ++ drop (3 * length s.graph.links) l.links)
    (encode rule_layout s.events.rules ++ drop (4 * length s.events.rules) l.rules)
    (encode step_layout s.events.steps ++ drop (2 * length s.events.steps) l.steps)

abbrev pub counts_of : State → Counts → Counts
counts_of s c =
    record { nodes = length s.graph.nodes; letters = c.letters; links = length s.graph.links }

abbrev pub used_of : State → Used
used_of s = record { rules = length s.events.rules; steps = length s.events.steps }

pub record Outcome : Type 0 where
  pub answer : Collapsed
  pub arrays : Lent

abbrev pub outcome : Collapsed → Lent → Outcome
outcome answer l = record { answer = answer; arrays = l }

-- a refusal changes no lent number, and gives back the counts
abbrev pub refused : ℕ → Counts → Used → Lent → Outcome
refused number c u l = outcome (record { number = number; shared = 0; counts = c; used = u }) l

abbrev pub made : Handle → State → Counts → Lent → Outcome
made x s c l = outcome (record { number = 0; shared = x.packed; counts = counts_of s c; used = used_of s }) (holding s l)

-- the first of the members
abbrev pub first_of : List Handle → Handle
first_of [] = record { packed = 0 }
first_of (m ∷ ms) = m

-- a collapse of a state that is well formed
abbrev pub group_outcome : Lent → List ℕ → Counts → Used → List Handle → ℕ → Outcome
group_outcome l letters c u ms p =
    let s = state_in l letters c u in
    let number = collapse_number (room_of l) p s ms in
    cond (not (eqb number 0)) (refused number c u l) (made (shared_node p s.graph ms) (state_after p s ms) c l)

-- 13 of graph and events, then 5 of ids and keys, else 0
abbrev pub state_number : Lent → List ℕ → Counts → Used → ℕ
state_number l letters c u =
    cond (not (well_formed l.nodes letters l.links c)) 13
    (cond (not (events_formed l.rules l.steps u)) 13
    (cond (not (ids_once (nodes_of c.nodes l.nodes))) 5
    (cond (not (keys_once (rules_of u.rules l.rules))) 5
    0)))
