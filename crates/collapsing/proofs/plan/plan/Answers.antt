use Prim.Native.Nat.{ℕ}
use mathlib.Core.Path.{◌≡◌, sym, subst, ◌∙◌}
use mathlib.Core.List.{List, map}
use native.Mathlib.Omega.{arith}
use lib.ListN.{length, length-map}
use Rattle.kit.proofs.Laws.{length-decode}
use Rattle.store.specs.Graph.{link_layout, nodes_of, links_of}
use Rattle.store.specs.declared.Node.{Node}
use Rattle.store.specs.declared.Link.{Link}
use Rattle.affix.specs.Prefix.{handles_of}
use Rattle.merging.specs.Plan.{dim, planned}
use Rattle.linking.specs.Fit.{Plans}
use Rattle.collapsing.proofs.Planning.{copied, size, planned_in}
use Rattle.collapsing.proofs.plan.plan.Goals as goal

as_many : (nodes : List Node) (n : ℕ) (links : List ℕ) → length (map (dim nodes) (links_of n links)) ≡ n
as_many nodes n links = length-map (links_of n links) (dim nodes) ∙ length-decode link_layout n links

pub plan_links-requires : goal.plan_links-requires
plan_links-requires c =
    let a = c.args in
    let nodes = nodes_of a.c.nodes a.nodes.now in
    let ds = map (dim nodes) (links_of a.c.links a.links.now) in
    let e = copied a.c.links ds a.room.now c.dim_links.new.plan (as_many nodes a.c.links a.links.now) c.dim_links.ensures in
    record { node_count_in_bounds = (c.requires.nodes_in_bounds.0, omega (arith, size a.c.links ds a.room.now c.dim_links.new.plan (as_many nodes a.c.links a.links.now) c.dim_links.ensures c.requires.nodes_in_bounds.2)); plans = subst (λ (ls : List Link). Plans a.p nodes ls (handles_of a.members.now)) (sym e) c.requires.plans }

pub returns : goal.returns
returns c =
    let a = c.args in
    let nodes = nodes_of a.c.nodes a.nodes.now in
    let ds = map (dim nodes) (links_of a.c.links a.links.now) in
    planned_in a.c.links ds a.room.now c.dim_links.new.plan (as_many nodes a.c.links a.links.now) c.dim_links.ensures
    (λ (ls : List Link). planned a.p nodes ls (handles_of a.members.now)) c.plan_links.result c.plan_links.new.links (omega arith) c.plan_links.ensures
