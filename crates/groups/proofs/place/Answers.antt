use Prim.Native.Nat.{ℕ, ◌-◌}
use mathlib.Core.Path.{◌≡◌}
use mathlib.Core.Bool.{cond}
use borrow.Author.Tests.{eq-eqb, ne_eqb}
use lib.Dec.{eqb}
use Rattle.groups.proofs.place.Goals as goal

below : (d low high : ℕ) → d ≡ 1 → low - 1 ≡ cond (eqb d 1) (low - 1) high
below d low high e = rw (eq-eqb d 1 e)

next : (d low high : ℕ) → (d ≡ 1 → ⊥) → high ≡ cond (eqb d 1) (low - 1) high
next d low high e = rw (ne_eqb d 1 e)

pub returns-then-direction-eq-REVERSE : goal.returns-then-direction-eq-REVERSE
returns-then-direction-eq-REVERSE c = let a = c.args in below a.direction a.low a.high c.if-direction-eq-REVERSE.true

pub returns : goal.returns
returns c = let a = c.args in next a.direction a.low a.high c.if-direction-eq-REVERSE.false
