use Prim.Native.Nat.{ℕ, ◌+◌, ◌/◌, ◌%◌, ◌≤◌, ◌<◌}
use mathlib.Core.Path.{◌≡◌, refl, ◌∙◌}
use mathlib.Core.List.{List}
use native.Mathlib.Omega.{arith}
use borrow.Author.Rules.{rules}
use lib.ListN.{length, set}
use lib.Seq.{sets}
use Rattle.kit.proofs.Writes.{sets_last}
use Rattle.kit.specs.Decimal.{decimal}
use Rattle.kit.proofs.Decimal.{length-small, length_big, decimal-small, decimal_big, decimal_some}
use Rattle.kit.proofs.put_decimal.Goals as goal

-- a turn's store, and the last one
module _ (out : List ℕ) (at k x : ℕ) (h : at + length (decimal x) ≡ k + 1) where
  stored : 10 ≤ x → sets (set out k (48 + (x % 10))) at (decimal (x / 10)) ≡ sets out at (decimal x)
  stored t =
      let e : k ≡ at + length (decimal (x / 10)) = omega (arith, length_big x t) in
      rw (e, decimal_big x t) (sets_last out at (decimal (x / 10)) (48 + (x % 10)))

  finished : x < 10 → set out k (48 + (x % 10)) ≡ sets out at (decimal x)
  finished t =
      let e : k ≡ at = omega (arith, length-small x t) in
      let m : x % 10 ≡ x = omega arith in
      rw (e, m, decimal-small x t)

pub overflow_sub-k : goal.overflow_sub-k
overflow_sub-k c = omega (arith, decimal_some c.args.n)

pub loop-x-init : goal.loop-x-init
loop-x-init c = let s = decimal_some c.args.n in (refl, omega arith, omega arith, refl)

pub overflow_sub-k-in-loop-x : goal.overflow_sub-k-in-loop-x
overflow_sub-k-in-loop-x c = omega (arith, length_big c.loop-x.x c.loop-x-test.true, decimal_some (c.loop-x.x / 10))

pub loop-x-preserved : goal.loop-x-preserved
loop-x-preserved c =
    let x = c.loop-x.x in
    let b = length_big x c.loop-x-test.true in
    let s = decimal_some (x / 10) in
    (search rules, omega arith, omega arith, stored c.loop-x.out c.args.at c.loop-x.k x c.loop-x.invariant.2 c.loop-x-test.true ∙ c.loop-x.invariant.3)

pub returns : goal.returns
returns c =
    record { place = omega arith; bytes = finished c.loop-x.out c.args.at c.loop-x.k c.loop-x.x c.loop-x.invariant.2 (omega arith) ∙ c.loop-x.invariant.3 }
