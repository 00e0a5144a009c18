use Prim.Native.Nat.{ℕ, suc, ◌+◌, ◌-◌, ◌<◌}
use mathlib.Core.Path.{◌≡◌, sym, ap, ◌∙◌}
use mathlib.Core.List.{List, ◌∷◌}
use native.Mathlib.Omega.{arith}
use Rattle.kit.proofs.Bools.{tests}
use Rattle.handle.specs.declared.Handle.{Handle}
use Rattle.sides.specs.Sides.{bare, nth_of}
use Rattle.sides.specs.Search.{side_of}
use Rattle.sides.proofs.Rising.{rest_all, next-step, next_end}
use Rattle.sides.proofs.Search.{side_sorted}
use Rattle.sides.proofs.Sides.{side_number}
use Rattle.sides.proofs.nth_side.Goals as goal

-- the k-th of what is left once n are passed
here : (n k : ℕ) {hs tail : List Handle} {h : Handle} → n ≡ k → hs ≡ h ∷ tail → nth_of (k - n) hs ≡ h.packed
here n k q e = let z : k - n ≡ 0 = omega arith in rw (e, z)

past : (n k : ℕ) {hs tail : List Handle} {h : Handle} → n < k → hs ≡ h ∷ tail → nth_of (k - n) hs ≡ nth_of (k - (n + 1)) tail
past n k q e = let z : k - n ≡ suc (k - (n + 1)) = omega arith in rw (e, z)

pub loop-u-init : goal.loop-u-init
loop-u-init c =
    let a = c.args in
    let g = bare a.nodes.now a.links.now a.c in
    let z : a.k - 0 ≡ a.k = omega arith in
    (omega arith, rw (rest_all 0 (side_of a.left g a.v) (side_number a.left g a.v c.requires.nodes_value), z))

pub returns-then-n-k-clause-value : goal.returns-then-n-k-clause-value
returns-then-n-k-clause-value c =
    let a = c.args in
    let s = next-step c.loop-u.above c.in-Some.u.packed (side_sorted a.left (bare a.nodes.now a.links.now a.c) a.v) c.in-Some.ensures.value c.in-Some.ensures.some in
    sym (here c.loop-u.n a.k c.if-n-k.true s.rest) ∙ c.loop-u.invariant.1

pub returns-clause-value : goal.returns-clause-value
returns-clause-value c =
    let a = c.args in
    let xs : List Handle = side_of a.left (bare a.nodes.now a.links.now a.c) a.v in
    sym (ap (nth_of (a.k - c.loop-u.n)) (next_end c.loop-u.above xs c.in_default.ensures.value)) ∙ c.loop-u.invariant.1

pub loop-u-preserved : goal.loop-u-preserved
loop-u-preserved c =
    let a = c.args in
    let h : c.loop-u.n < a.k = omega (arith, tests) in
    let s = next-step c.loop-u.above c.in-Some.u.packed (side_sorted a.left (bare a.nodes.now a.links.now a.c) a.v) c.in-Some.ensures.value c.in-Some.ensures.some in
    (omega arith, sym (past c.loop-u.n a.k h s.rest) ∙ c.loop-u.invariant.1)
