use Prim.Native.Nat.{ℕ}
use mathlib.Core.Path.{◌≡◌, ◌∙◌}
use mathlib.Core.Bool.{cond, not}
use mathlib.Core.List.{[], List}
use Rattle.kit.proofs.Refusals.{passed_is}
use lib.Dec.{eqb}
use Rattle.store.specs.declared.Counts.{Counts}
use Rattle.store.specs.Graph.{nodes_of, graph_of}
use Rattle.events.specs.declared.Used.{Used}
use Rattle.events.specs.Events.{list_of}
use Rattle.rewriting.specs.Rewriting.{old_number}
use Rattle.writing.specs.Outcome.{refused, writing}
use Rattle.paths.specs.PathText.{new_path, new_walk, paths_text, paths_number}
use Rattle.texts.specs.ParseAndTransformPaths.{paths_outcome}
use Rattle.texts.proofs.parse_and_transform_paths.parse_and_transform_paths.Goals as goal

module _ (text nodes letters links : List ℕ) (c : Counts) (rules steps : List ℕ) (u : Used) (room : List ℕ) where
  -- neither letters nor links are read
  rest : old_number nodes letters links c rules steps u ≡ 0 → cond (not (eqb (paths_number (nodes_of c.nodes nodes) text) 0)) (refused (paths_number (nodes_of c.nodes nodes) text) room) (writing (paths_text (graph_of nodes [] [] c) (list_of rules steps u) text) room) ≡ paths_outcome text nodes letters links c rules steps u room
  unfolding paths_outcome new_path new_walk
  rest z = rw z

pub returns-in-Ok : goal.returns-in-Ok
returns-in-Ok c =
    let a = c.args in
    c.print_paths.ensures ∙ rest a.text.now a.nodes.now a.letters.now a.links.now a.c a.rules.now a.steps.now a.u a.out.now (passed_is c.old_number.ensures c.in-Ok.is)
