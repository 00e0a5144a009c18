use Prim.Native.Nat.{ℕ, ◌<◌, ◌^◌}
use mathlib.Core.Path.{◌≡◌, ap, ◌∙◌}
use mathlib.Core.Bool.{true}
use mathlib.Core.List.{[], List}
use lib.ListN.{length}
use Rattle.kit.specs.Loops.{all}
use Rattle.kit.proofs.Bools.{and_true_l, and_true_r}
use Rattle.kit.proofs.Refusals.{passed_is}
use Rattle.handle.specs.Handle.{is_id}
use Rattle.store.specs.declared.Counts.{Counts}
use Rattle.store.specs.Graph.{nodes_of, graph_of}
use Rattle.store.specs.Views.{unmarked_node}
use Rattle.formed.specs.WellFormed.{well_formed, unmarked_link, unmarked}
use Rattle.affix.proofs.LookedUp.{formed_readable}
use Rattle.events.specs.declared.Used.{Used}
use Rattle.events.specs.Events.{list_of}
use Rattle.rewriting.specs.Rewriting.{old_number}
use Rattle.rewriting.proofs.Old.{old-zero}
use Rattle.writing.specs.Outcome.{writing}
use Rattle.writing.specs.TableText.{table_text}
use Rattle.tabling.proofs.Rows.{table-bare}
use Rattle.writing.proofs.Segments.{readable_ids}
use Rattle.tabling.proofs.TableSize.{table_fits_lem}
use Rattle.texts.specs.PrintTransformations.{table_outcome}
use Rattle.texts.proofs.print_transformations.print_transformations.Goals as goal

-- a graph and a table that are not refused
module _ (nodes letters links : List ℕ) (c : Counts) (rules steps : List ℕ) (u : Used) (room : List ℕ) (z : old_number nodes letters links c rules steps u ≡ 0) where
  formed : well_formed nodes letters links c ≡ true
  formed = and_true_l (well_formed nodes letters links c) (unmarked (graph_of nodes letters links c)) (old-zero nodes letters links c rules steps u z).0

  live : all unmarked_node (nodes_of c.nodes nodes) ≡ true
  live =
      and_true_l (all unmarked_node (nodes_of c.nodes nodes)) (all unmarked_link (graph_of nodes letters links c).links)
      (and_true_r (well_formed nodes letters links c) (unmarked (graph_of nodes letters links c)) (old-zero nodes letters links c rules steps u z).0)

  ids : (all (λ r. is_id r.id) (nodes_of c.nodes nodes) ≡ true) × (all unmarked_node (nodes_of c.nodes nodes) ≡ true)
  ids = (readable_ids nodes letters c (formed_readable nodes letters links c formed), live)

  small : length (table_text (graph_of nodes [] [] c) (list_of rules steps u)) < 2 ^ 64
  small = table_fits_lem nodes letters links c formed rules steps u (old-zero nodes letters links c rules steps u z).1 live

  whole : writing (table_text (graph_of nodes letters links c) (list_of rules steps u)) room ≡ table_outcome nodes letters links c rules steps u room
  unfolding table_outcome
  whole = rw z

  -- neither letters nor links are read
  prints : writing (table_text (graph_of nodes [] [] c) (list_of rules steps u)) room ≡ table_outcome nodes letters links c rules steps u room
  prints = ap (λ text. writing text room) (table-bare nodes letters links c (list_of rules steps u)) ∙ whole

pub print_table-requires-clause-nodes_value : goal.print_table-requires-clause-nodes_value
print_table-requires-clause-nodes_value c =
    let a = c.args in
    ids a.nodes.now a.text.now a.links.now a.c a.rules.now a.steps.now a.u a.out.now (passed_is c.old_number.ensures c.in-Ok.is)

pub print_table-requires-clause-u_len_bound : goal.print_table-requires-clause-u_len_bound
print_table-requires-clause-u_len_bound c =
    let a = c.args in
    small a.nodes.now a.text.now a.links.now a.c a.rules.now a.steps.now a.u a.out.now (passed_is c.old_number.ensures c.in-Ok.is)

pub returns-in-Ok : goal.returns-in-Ok
returns-in-Ok c =
    let a = c.args in
    c.print_table.ensures ∙ prints a.nodes.now a.text.now a.links.now a.c a.rules.now a.steps.now a.u a.out.now (passed_is c.old_number.ensures c.in-Ok.is)
