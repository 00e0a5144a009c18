-- Walks, and what it is to rewrite one rightly. A walk is a list of oriented nodes with at least one step.
use Rattle.std.specs.Prelude.{◌≤◌, ◌≡◌, Bool, true, false, ◌&&◌, length, None}
use mathlib.Core.List.{List, [], ◌∷◌, Memᴰ}
use Rattle.kit.specs.Loops.{all}
use Rattle.letters.specs.Sequences.{same_spelling}
use Rattle.handle.specs.declared.Handle.{Handle}
use Rattle.handle.specs.Handle.{id_of}
use Rattle.handle.specs.Edge.{edge}
use Rattle.store.specs.Graph.{Graph}
use Rattle.store.specs.Views.{stored, len_of, live_node, live_linked}
use Rattle.formed.specs.WellFormed.{good_graph, ids_once}
use Rattle.events.specs.Events.{Rules, walk_of}
use Rattle.events.specs.declared.Rule.{Rule}
use Rattle.events.specs.declared.Step.{Step}
use Rattle.events.specs.WellFormed.{good_table, keys_once}
use Rattle.spelling.specs.Spelling.{all_stored, first_gap, spell_walk}
use Rattle.rewriting.specs.Rewriting.{transform_walk}
use Rattle.scanning.specs.Rules.{is_old_key}

-- none of 6 and 23 is due for it
pub record Walk (g : Graph) (hs : List Handle) : Type 0 where
  pub some_step : 1 ≤ length hs
  pub over_nodes : all_stored g.nodes hs ≡ true
  pub over_links : first_gap g.links hs ≡ None

-- over live nodes and live links
abbrev pub live_walk : Graph → List Handle → Bool
live_walk g [] = false
live_walk g (h ∷ []) = live_node (id_of h) g.nodes
live_walk g (h ∷ k ∷ hs) = live_node (id_of h) g.nodes && live_linked g (edge h k) && live_walk g (k ∷ hs)

-- the new walk is live and spells the same letters, case aside
abbrev pub rewrites_rightly : Graph → Graph → Rules → List Handle → Bool
rewrites_rightly old new t hs =
    live_walk new (transform_walk old t hs) && same_spelling (spell_walk old hs) (spell_walk new (transform_walk old t hs))

-- inputs that are well formed: graphs and table give no 13, ids and keys no 5
pub record Formed (old new : Graph) (t : Rules) : Type 0 where
  pub old_good : good_graph old ≡ true
  pub new_good : good_graph new ≡ true
  pub table_good : good_table t ≡ true
  pub old_once : ids_once old.nodes ≡ true
  pub new_once : ids_once new.nodes ≡ true
  pub keys_once : keys_once t.rules ≡ true

-- "every key is an old node with its length and every recorded step length is true where the node exists"
pub record TrueTo (old new : Graph) (t : Rules) : Type 0 where
  pub keys_old : all (is_old_key old) t.rules ≡ true
  pub lengths_true : (r : Rule) (s : Step) → Memᴰ r t.rules → Memᴰ s (walk_of t.steps r) → stored (id_of s.node) new.nodes ≡ true → s.len ≡ len_of new (id_of s.node)

-- an old walk of one or two steps that rewrites wrongly
pub record Wrong (old new : Graph) (t : Rules) : Type 0 where
  pub walk : List Handle
  pub short : length walk ≤ 2
  pub is_walk : Walk old walk
  pub wrongly : rewrites_rightly old new t walk ≡ false
