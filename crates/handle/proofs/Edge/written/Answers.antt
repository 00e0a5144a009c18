use Prim.Native.Nat.{◌≤◌, ◌<◌}
use mathlib.Core.Bool.{true, false}
use mathlib.Core.Path.{◌≡◌, refl, sym, ap, ◌∙◌}
use native.Mathlib.Omega.{arith}
use borrow.Author.Tests.{le-leb, lt-leb}
use lib.Dec.{leb}
use Rattle.handle.specs.Edge.{edge, turned, both_forward, written}
use Rattle.handle.specs.Handle.{id_of}
use Rattle.handle.specs.declared.Edge.{Edge}
use Rattle.handle.proofs.Edge.written.Goals as goal

-- the four ways out
module _ (e t : Edge) (is : t ≡ turned e) where
  forward : both_forward e ≡ true → e ≡ written e
  unfolding written
  forward p = rw p

  forward-turned : both_forward e ≡ false → both_forward t ≡ true → t ≡ written e
  unfolding written
  forward-turned p q = is ∙ rw (p, sym (ap both_forward is) ∙ q)

  lower : both_forward e ≡ false → both_forward t ≡ false → id_of e.from ≤ id_of t.from → e ≡ written e
  unfolding written
  lower p q h = rw (p, sym (ap both_forward is) ∙ q, ap (λ (x : Edge). leb (id_of e.from) (id_of x.from)) (sym is) ∙ le-leb _ _ h)

  higher : both_forward e ≡ false → both_forward t ≡ false → id_of t.from < id_of e.from → t ≡ written e
  unfolding written
  higher p q h = is ∙ rw (p, sym (ap both_forward is) ∙ q, ap (λ (x : Edge). leb (id_of e.from) (id_of x.from)) (sym is) ∙ lt-leb _ _ h)

pub returns-then-both_forward : goal.returns-then-both_forward
returns-then-both_forward c =
    let e = edge c.args.u c.args.v in forward e (turned e) refl (sym c.both_forward.ensures ∙ c.if-both_forward.true)

pub returns-then-both_forward-2 : goal.returns-then-both_forward-2
returns-then-both_forward-2 c =
    let e = edge c.args.u c.args.v in
    forward-turned e c.turned-t.result c.turned-t.ensures (sym c.both_forward.ensures ∙ c.if-both_forward.false) (sym c.both_forward-2.ensures ∙ c.if-both_forward-2.true)

pub returns-then-id : goal.returns-then-id
returns-then-id c =
    let e = edge c.args.u c.args.v in
    lower e c.turned-t.result c.turned-t.ensures (sym c.both_forward.ensures ∙ c.if-both_forward.false) (sym c.both_forward-2.ensures ∙ c.if-both_forward-2.false)
    (omega (arith, c.id.ensures, c.id-2.ensures, c.if-id.true))

pub returns : goal.returns
returns c =
    let e = edge c.args.u c.args.v in
    higher e c.turned-t.result c.turned-t.ensures (sym c.both_forward.ensures ∙ c.if-both_forward.false) (sym c.both_forward-2.ensures ∙ c.if-both_forward-2.false)
    (omega (arith, c.id.ensures, c.id-2.ensures, c.if-id.false))
