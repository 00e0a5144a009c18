-- The turns of the loops that write: one element after another, and one step of a walk after another.
use Prim.Native.Nat.{ℕ, ◌+◌, ◌≤◌, ◌<◌}
use mathlib.Core.Path.{◌≡◌, refl, sym, ap, ◌∙◌}
use mathlib.Core.List.{List, ◌++◌}
use native.Mathlib.Omega.{arith}
use lib.ListN.{length, drop, get_or, length-append}
use lib.Seq.{sets, length-sets}
use Rattle.kit.specs.Loops.{lines}
use Rattle.kit.specs.Put.{Put}
use Rattle.kit.proofs.Writes.{put-left, sets-front, lines_more, lines_end}
use Rattle.handle.specs.declared.Handle.{Handle}
use Rattle.store.specs.Graph.{handle}
use Rattle.affix.specs.Prefix.{handles_of}
use Rattle.affix.proofs.Runs.{left-handle, no_handle}

-- what f gives for the first i steps of a walk stands at the front of the room, which goes on at `at`
pub record Writing (f : Handle → List ℕ) (walk out₀ out : List ℕ) (at i : ℕ) : Type 0 where
  pub same : length out ≡ length out₀
  pub along : i ≤ length walk
  pub room : at + length (lines f (drop i (handles_of walk))) ≤ length out
  pub left : sets out at (lines f (drop i (handles_of walk))) ≡ sets out₀ 0 (lines f (handles_of walk))

pub writing_none : (f : Handle → List ℕ) (walk out : List ℕ) → length (lines f (handles_of walk)) ≤ length out → Writing f walk out out 0 0
writing_none f walk out h = record { same = refl; along = omega arith; room = omega arith; left = refl }

module _ {f : Handle → List ℕ} {walk out₀ out : List ℕ} {at i : ℕ} (w : Writing f walk out₀ out at i) where
  module _ (h : i < length walk) where
    this : lines f (drop i (handles_of walk)) ≡ f (handle (get_or walk i 0)) ++ lines f (drop (i + 1) (handles_of walk))
    this = lines_more f (left-handle walk i h)

    both : length (lines f (drop i (handles_of walk))) ≡ length (f (handle (get_or walk i 0))) + length (lines f (drop (i + 1) (handles_of walk)))
    both = ap length this ∙ length-append (f (handle (get_or walk i 0))) (lines f (drop (i + 1) (handles_of walk)))

    pub writing-room : at + length (f (handle (get_or walk i 0))) ≤ length out
    writing-room = omega (arith, w.room, both)

    pub writing-next : {m : List ℕ} {next : ℕ} → Put out at (f (handle (get_or walk i 0))) m next → Writing f walk out₀ m next (i + 1)
    writing-next {m} {next} p =
        let l : length m ≡ length out = ap length p.bytes ∙ length-sets out at (f (handle (get_or walk i 0))) in
        record {
          same = l ∙ w.same;
          along = omega arith;
          room = omega (arith, w.room, both, p.place);
          left = put-left (lines f (drop (i + 1) (handles_of walk))) p ∙ sym (ap (sets out at) this) ∙ w.left;
        }

  pub writing-all : length walk ≤ i → length (lines f (handles_of walk)) ≤ length out₀ → out ≡ lines f (handles_of walk) ++ drop (length (lines f (handles_of walk))) out₀
  writing-all h k =
      sym (ap (sets out at) (lines_end f (no_handle walk i h))) ∙ w.left ∙ sets-front out₀ (lines f (handles_of walk)) k
