-- Where the steps of a walk end.
use Prim.Native.Nat.{ℕ, suc, ◌+◌, ◌-◌, ◌≤◌, ◌<◌}
use mathlib.Core.Path.{◌≡◌, ap}
use mathlib.Core.Bool.{true, false}
use mathlib.Core.List.{List, ◌∷◌}
use native.Mathlib.Omega.{arith}
use lib.ListN.{length, take, drop, get_or}
use lib.Seq.{drop-length, take-nil}
use Rattle.kit.proofs.Steps.{left_at}
use Rattle.text.specs.Pieces.{put_first}
use Rattle.text.specs.Steps.{is_arrow, walk_steps}
use Rattle.text.specs.StepEnd.{WalkStep}

-- whatever byte stands before i, its step goes on to r
pub record StepRest (bs : List ℕ) (i r : ℕ) : Type 0 where
  pub low : i ≤ r
  pub high : r ≤ length bs
  pub cut : (b : ℕ) → walk_steps (b ∷ drop i bs) ≡ (b ∷ take (r - i) (drop i bs)) ∷ walk_steps (drop r bs)

module _ (bs : List ℕ) where
  -- a turn of the search: at an arrow, past another byte, at the end
  pub rest_arrow : (i : ℕ) → i < length bs → is_arrow (get_or bs i 0) ≡ true → StepRest bs i i
  rest_arrow i h t =
      let z : i - i ≡ 0 = omega arith in
      record { low = omega arith; high = omega arith; cut = λ b. rw (left_at bs i 0 h, z, t) }

  pub rest_more : (i : ℕ) → i < length bs → is_arrow (get_or bs i 0) ≡ false → (r : ℕ) → StepRest bs (i + 1) r → StepRest bs i r
  rest_more i h t r s =
      let z : r - i ≡ suc (r - (i + 1)) = omega (arith, s.low) in
      record {
        low = omega (arith, s.low);
        high = s.high;
        cut = λ b. rw (left_at bs i 0 h, z, t) (ap (put_first b) (s.cut (get_or bs i 0)));
      }

  pub rest_end : (i : ℕ) → i ≡ length bs → StepRest bs i (length bs)
  rest_end i e = record { low = omega arith; high = omega arith; cut = λ b. rw (e, drop-length bs, take-nil) }

  -- the byte at which the search begins is the step's first
  pub step_whole : (from : ℕ) → from < length bs → (r : ℕ) → StepRest bs (from + 1) r → WalkStep bs from r
  step_whole from h r s =
      let z : r - from ≡ suc (r - (from + 1)) = omega (arith, s.low) in
      record { low = omega (arith, s.low); high = s.high; cut = rw (left_at bs from 0 h, z) (s.cut (get_or bs from 0)) }
