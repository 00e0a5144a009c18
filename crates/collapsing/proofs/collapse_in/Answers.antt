use Prim.Native.Nat.{◌*◌}
use mathlib.Core.Path.{◌≡◌, ap, ◌∙◌}
use mathlib.Core.List.{List, map}
use native.Mathlib.Omega.{arith}
use borrow.Author.Tests.{le-leb}
use lib.ListN.{length, length-map}
use Rattle.kit.proofs.Laws.{length-decode}
use Rattle.store.specs.Graph.{link_layout, nodes_of, links_of}
use Rattle.store.specs.declared.Link.{Link}
use Rattle.affix.specs.Prefix.{handles_of}
use Rattle.events.specs.Events.{list_of}
use Rattle.merging.specs.Plan.{dim, planned}
use Rattle.longer.specs.Longer.{beginning}
use Rattle.collapsing.specs.Put.{state_by}
use Rattle.collapsing.specs.Outcome.{made, lent, first_of}
use Rattle.collapsing.proofs.Planning.{planned-count, planned_full, planned-more}
use Rattle.collapsing.proofs.collapse_in.Goals as goal

pub returns-in_default : goal.returns-in_default
returns-in_default c = rw (c.refuse.ensures, c.number.ensures, planned_full c.plan.ensures c.in_default.is)

pub make-requires : goal.make-requires
make-requires c =
    let a = c.args in
    let nodes = nodes_of a.c.nodes a.nodes.now in
    let ds = map (dim nodes) (links_of a.c.links a.links.now) in
    let f = planned-count c.in-Some.n c.plan.ensures c.in-Some.is in
    let k = planned-more a.p nodes ds (handles_of a.members.now) in
    let d : length ds ≡ a.c.links = length-map (links_of a.c.links a.links.now) (dim nodes) ∙ length-decode link_layout a.c.links a.links.now in
    record { members_in_bounds = (c.requires.members_in_bounds.0, omega (arith, f.many), omega (arith, f.room), omega (arith, f.room, c.plan.auto.room)); storable = c.requires.storable; room_for = c.requires.room_for }

pub returns : goal.returns
returns c =
    let a = c.args in
    let nodes = nodes_of a.c.nodes a.nodes.now in
    let old = links_of a.c.links a.links.now in
    let t = list_of a.rules.now a.steps.now a.u in
    let ms = handles_of a.members.now in
    let rs = planned a.p nodes (map (dim nodes) old) ms in
    let f = planned-count c.in-Some.n c.plan.ensures c.in-Some.is in
    let fits = le-leb (3 * length rs) (length a.room.now) (omega (arith, f.many, f.room)) in
    rw fits (c.make.ensures ∙ ap (λ (ls : List Link). made (beginning a.p nodes (first_of ms)).x (state_by a.p nodes old t ls ms) a.c (lent a.nodes.now a.links.now a.rules.now a.steps.now)) f.here)
