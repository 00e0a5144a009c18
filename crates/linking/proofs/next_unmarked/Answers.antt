use mathlib.Core.Path.{◌≡◌, sym, ap, ◌∙◌}
use native.Mathlib.Omega.{arith}
use borrow.Author.Tests.{eq-eqb, ne_eqb}
use Rattle.kit.proofs.Laws.{left_none}
use lib.Dec.{eqb}
use Rattle.store.specs.Graph.{link_layout}
use Rattle.store.specs.declared.Link.{Link}
use Rattle.sides.specs.Sides.{right_ends}
use Rattle.sides.specs.Search.{lowest}
use Rattle.linking.proofs.Passing.{from_slot, next-found, turn-unmarked, turn-marked}
use Rattle.linking.proofs.next_unmarked.Goals as goal

pub loop-i-init : goal.loop-i-init
loop-i-init c =
    let a = c.args in
    sym (rw (left_none link_layout a.count a.count a.links.now (omega arith)))

pub loop-i-preserved-then-l-eq0 : goal.loop-i-preserved-then-l-eq0
loop-i-preserved-then-l-eq0 c =
    let a = c.args in
    c.lead-best.ensures ∙ ap (λ (r : Link). lowest a.above c.loop-i.best (right_ends a.v r)) c.at-l.ensures ∙ turn-unmarked a.v a.above a.count a.links.now c.loop-i.i c.loop-i.best (omega arith) (omega arith) c.loop-i.invariant (ap (λ (r : Link). eqb r.mark 0) (sym c.at-l.ensures) ∙ eq-eqb _ _ c.if-l-eq0.true)

pub loop-i-preserved : goal.loop-i-preserved
loop-i-preserved c =
    let a = c.args in
    turn-marked a.v a.above a.count a.links.now c.loop-i.i c.loop-i.best (omega arith) (omega arith) c.loop-i.invariant (ap (λ (r : Link). eqb r.mark 0) (sym c.at-l.ensures) ∙ ne_eqb _ _ c.if-l-eq0.false)

pub returns : goal.returns
returns c =
    let a = c.args in
    let z : c.loop-i.i ≡ 0 = omega arith in
    record { value = c.handle_of.ensures.value ∙ c.loop-i.invariant ∙ ap (from_slot a.v a.above a.count a.links.now) z ∙ next-found a.v a.above a.count a.links.now; some = c.handle_of.ensures.some }
