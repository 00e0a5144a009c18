-- A refusal's number is not 0, and what a `?` passes on.
use Prim.Native.Nat.{ℕ}
use mathlib.Core.Bool.{false}
use mathlib.Core.Path.{◌≡◌, refl, sym, ap, ◌∙◌}
use lib.Dec.{eqb}
use Rattle.std.specs.Prelude.{Result, Ok, Err}
use Rattle.kit.specs.declared.Refusal.{Refusal}
use Rattle.kit.specs.declared.Refusal.TheVariants.{Shape, Name, Letter, Overlap, Twice, Absent, Room, Group, Prefix, Neighbours, Ids, Later, Malformed}
use Rattle.kit.specs.Refusal.{number, number_of}

pub number_not_0 : (r : Refusal) → eqb (number r) 0 ≡ false
number_not_0 Shape = refl
number_not_0 Name = refl
number_not_0 Letter = refl
number_not_0 Overlap = refl
number_not_0 Twice = refl
number_not_0 Absent = refl
number_not_0 Room = refl
number_not_0 Group = refl
number_not_0 Prefix = refl
number_not_0 Neighbours = refl
number_not_0 Ids = refl
number_not_0 Later = refl
number_not_0 Malformed = refl

module _ {A : Type 0} {r : Result A Refusal} {n : ℕ} (is : number_of r ≡ n) where
  -- the number of an answer that refuses, and of one that does not
  pub refused_is : {e : Refusal} → r ≡ Err e → n ≡ number e
  refused_is q = sym is ∙ ap number_of q

  pub passed_is : {a : A} → r ≡ Ok a → n ≡ 0
  passed_is q = sym is ∙ ap number_of q
