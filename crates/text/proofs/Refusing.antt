-- What the first of two answers makes of their numbers.
use Prim.Native.Nat.{ℕ}
use mathlib.Core.Path.{◌≡◌, refl, sym}
use mathlib.Core.Bool.{Bool, true, false, cond}
use borrow.Author.Tests.{eqb-true}
use lib.Dec.{eqb}
use Rattle.std.specs.Prelude.{Result, Ok, Err}
use Rattle.kit.specs.declared.Refusal.{Refusal}
use Rattle.kit.specs.Refusal.{number, number_of}
use Rattle.kit.proofs.Refusals.{number_not_0, refused_is, passed_is}
use Rattle.text.specs.Refusal.{or_number}

-- r is the first answer: it refuses, or it does not
module _ {A : Type 0} {r : Result A Refusal} {n : ℕ} (is : number_of r ≡ n) (m : ℕ) where
  pub or_refused : {e : Refusal} → r ≡ Err e → number e ≡ or_number n m
  or_refused {e} q = rw (refused_is is q, number_not_0 e)

  pub or_passed : {a : A} → r ≡ Ok a → or_number n m ≡ m
  or_passed q = rw (passed_is is q)

-- there is no second
pub or_last : (n : ℕ) → or_number n 0 ≡ n
or_last n = by (eqb n 0) refl
  where
    by : (t : Bool) → eqb n 0 ≡ t → cond t 0 n ≡ n
    by true q = sym (eqb-true n 0 q)
    by false q = refl
