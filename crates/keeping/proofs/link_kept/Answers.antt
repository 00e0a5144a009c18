use mathlib.Core.List.{[]}
use Prim.Native.Nat.{ℕ}
use mathlib.Core.Path.{ap, ap₂, ◌∙◌}
use Rattle.handle.specs.declared.Handle.{Handle}
use Rattle.handle.specs.Handle.{flip}
use Rattle.handle.specs.Edge.{edge}
use Rattle.store.specs.Graph.{handle, graph_of}
use Rattle.store.specs.Views.{live_linked}
use Rattle.events.specs.Events.{list_of}
use Rattle.rewriting.specs.Rewriting.{transform_node}
use Rattle.keeping.specs.Kept.{first_of}
use Rattle.keeping.proofs.LinksKept.{last_step}
use Rattle.keeping.proofs.link_kept.Goals as goal

pub first_step-start-requires : goal.first_step-start-requires
first_step-start-requires c = (c.requires.nodes_in_bounds.0, c.requires.u_value.0, c.requires.u_value.1)

pub first_step-next-requires : goal.first_step-next-requires
first_step-next-requires c = (c.requires.nodes_in_bounds.0, c.requires.u_value.0, c.requires.u_value.1)

pub returns : goal.returns
returns c =
    let a = c.args in
    let old = graph_of a.oldnodes.now [] [] a.c in
    let new = graph_of a.nodes.now [] a.links.now a.d in
    let t = list_of a.rules.now a.steps.now a.u in
    c.live_linked.ensures
    ∙ ap₂ (λ (x y : Handle). live_linked new (edge x y))
    (c.flip-2.ensures ∙ ap (λ (n : ℕ). flip (handle n)) (c.first_step-start.ensures ∙ ap (λ (x : Handle). (first_of (transform_node old t x)).packed) c.flip.ensures) ∙ last_step a.oldnodes.now a.rules.now a.steps.now a.c a.u c.requires.u_value.0 c.requires.u_value.1 a.e.from)
    (ap handle c.first_step-next.ensures)
