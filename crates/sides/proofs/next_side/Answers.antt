use mathlib.Core.Path.{◌≡◌, sym, ap, ◌∙◌}
use native.Mathlib.Omega.{arith}
use Rattle.kit.proofs.Laws.{left_none}
use Rattle.store.specs.Graph.{link_layout, nodes_of}
use Rattle.store.specs.declared.Link.{Link}
use Rattle.store.specs.Views.{live_link}
use Rattle.sides.specs.Search.{lowest, side_ends}
use Rattle.sides.specs.Sides.{bare}
use Rattle.sides.proofs.Search.{from_slot, next-found, turn-live, turn_dead, turn-same}
use Rattle.sides.proofs.next_side.Goals as goal
use Rattle.sides.proofs.next_side.Goals.{else-found-best-via-then-found-best+else-live_link, else-found-best-via-else-found-best}

pub loop-i-init : goal.loop-i-init
loop-i-init c =
    let a = c.args in
    sym (rw (left_none link_layout a.c.links a.c.links a.links.now (omega arith)))

pub loop-i-preserved-then-live_link : goal.loop-i-preserved-then-live_link
loop-i-preserved-then-live_link c =
    let a = c.args in
    c.lead_side-found.ensures ∙ ap (λ (r : Link). lowest a.above c.loop-i.best (side_ends a.left a.v r)) c.unmarked_at.ensures ∙ turn-live a.left a.v a.above (nodes_of a.c.nodes a.nodes.now) a.c.links a.links.now c.loop-i.i c.loop-i.best (omega arith) (omega arith) c.loop-i.invariant (ap (live_link (nodes_of a.c.nodes a.nodes.now)) (sym c.at.ensures) ∙ sym c.live_link.ensures ∙ c.if-live_link.true)

pub loop-i-preserved : goal.loop-i-preserved
loop-i-preserved c =
    let a = c.args in (elim c.else-found-best.branch [
      | else-found-best-via-then-found-best+else-live_link w ↦ turn_dead a.left a.v a.above (nodes_of a.c.nodes a.nodes.now) a.c.links a.links.now c.loop-i.i c.loop-i.best (omega arith) (omega arith) c.loop-i.invariant (ap (live_link (nodes_of a.c.nodes a.nodes.now)) (sym w.at.ensures) ∙ sym w.live_link.ensures ∙ w.if-live_link.false)
      | else-found-best-via-else-found-best w ↦ turn-same a.left a.v a.above (nodes_of a.c.nodes a.nodes.now) a.c.links a.links.now c.loop-i.i c.loop-i.best (omega arith) (omega arith) c.loop-i.invariant (ap (λ (r : Link). lowest a.above c.loop-i.best (side_ends a.left a.v r)) (sym c.unmarked_at.ensures) ∙ sym c.lead_side-found.ensures ∙ w.if-found-best.false)
    ])

pub returns : goal.returns
returns c =
    let a = c.args in
    let z : c.loop-i.i ≡ 0 = omega arith in
    let g = bare a.nodes.now a.links.now a.c in
    record {
      value =
          c.handle_of.ensures.value
          ∙ c.loop-i.invariant
          ∙ ap (from_slot a.left a.v a.above g.nodes a.c.links a.links.now) z
          ∙ next-found a.left g a.v a.above;
      some = c.handle_of.ensures.some;
    }
