use mathlib.Core.List.{[]}
use Prim.Native.Nat.{ℕ}
use mathlib.Core.Path.{ap, ◌∙◌}
use native.Mathlib.Omega.{arith}
use Rattle.kit.specs.Loops.{count}
use Rattle.handle.specs.declared.Edge.{Edge}
use Rattle.handle.specs.Edge.{edge_before}
use Rattle.store.specs.Graph.{ends, links_of, graph_of}
use Rattle.events.specs.Events.{list_of}
use Rattle.scanning.specs.Rules.{verdict}
use Rattle.keeping.proofs.LinksKept.{no_place, place}
use Rattle.keeping.proofs.links_fault.Goals as goal

pub first_lost-k-requires : goal.first_lost-k-requires
first_lost-k-requires c = let both = c.requires in record { nodes_in_bounds = both.nodes_in_bounds; u_value = both.u_value }

pub returns-then-count-k : goal.returns-then-count-k
returns-then-count-k c =
    let a = c.args in
    no_place (graph_of a.oldnodes.now [] [] a.c) (graph_of a.nodes.now [] a.links.now a.d) (list_of a.rules.now a.steps.now a.u) a.c.links a.oldlinks.now c.requires.u_value.2 c.first_lost-k.result c.first_lost-k.ensures c.if-count-k.true

pub returns : goal.returns
returns c =
    let a = c.args in
    let rs = links_of a.c.links a.oldlinks.now in
    ap (λ (k : ℕ). verdict 27 k 0) (c.links_before-place.ensures ∙ ap (λ (x : Edge). count (λ r. edge_before (ends r) x) rs) c.ends_at.ensures)
    ∙ place (graph_of a.oldnodes.now [] [] a.c) (graph_of a.nodes.now [] a.links.now a.d) (list_of a.rules.now a.steps.now a.u) a.c.links a.oldlinks.now c.requires.u_value.2 c.first_lost-k.result c.first_lost-k.ensures (omega arith)
