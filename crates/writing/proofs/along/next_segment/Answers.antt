use Prim.Native.Nat.{◌-◌}
use mathlib.Core.Path.{◌≡◌, sym, ap, ◌∙◌}
use native.Mathlib.Omega.{arith}
use borrow.Author.Tests.{eq-eqb, ne_eqb}
use Rattle.kit.proofs.Laws.{left_none}
use lib.Dec.{eqb}
use Rattle.handle.specs.declared.Handle.{Handle}
use Rattle.handle.specs.Handle.{pack}
use Rattle.store.specs.declared.Node.{Node}
use Rattle.store.specs.Graph.{node_layout}
use Rattle.sides.specs.Search.{lower}
use Rattle.writing.proofs.Segments.{from_slot, turn-live, turn_dead, next-found}
use Rattle.store.proofs.Fields.{id_high}
use Rattle.writing.proofs.along.next_segment.Goals as goal

pub loop-i-init : goal.loop-i-init
loop-i-init c =
    let a = c.args in
    sym (rw (left_none node_layout a.count a.count a.nodes.now (omega arith)))

pub forward-h-requires : goal.forward-h-requires
forward-h-requires c = rw c.at-r.ensures (id_high c.args.count (c.loop-i.i - 1) c.args.nodes.now c.requires.nodes_value (omega arith))

pub loop-i-preserved-then-r-eq0 : goal.loop-i-preserved-then-r-eq0
loop-i-preserved-then-r-eq0 c =
    let a = c.args in
    c.lower-best.ensures ∙ ap (λ (h : Handle). lower a.above h.packed c.loop-i.best) (c.forward-h.ensures ∙ ap (λ (r : Node). pack r.id 0) c.at-r.ensures) ∙ turn-live a.above a.count a.nodes.now c.loop-i.i c.loop-i.best (omega arith) (omega arith) c.loop-i.invariant (ap (λ (r : Node). eqb r.mark 0) (sym c.at-r.ensures) ∙ eq-eqb _ _ c.if-r-eq0.true)

pub loop-i-preserved : goal.loop-i-preserved
loop-i-preserved c =
    let a = c.args in
    turn_dead a.above a.count a.nodes.now c.loop-i.i c.loop-i.best (omega arith) (omega arith) c.loop-i.invariant (ap (λ (r : Node). eqb r.mark 0) (sym c.at-r.ensures) ∙ ne_eqb _ _ c.if-r-eq0.false)

pub returns : goal.returns
returns c =
    let a = c.args in
    let z : c.loop-i.i ≡ 0 = omega arith in
    record { value = c.handle_of.ensures.value ∙ c.loop-i.invariant ∙ ap (from_slot a.above a.count a.nodes.now) z ∙ next-found a.above a.count a.nodes.now; some = c.handle_of.ensures.some }
