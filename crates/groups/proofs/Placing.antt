-- One pass over a group's members in the order met: the reversed ones go down from where the forward ones start.
use Prim.Native.Nat.{ℕ, suc, ◌+◌, ◌-◌, ◌≤◌, ◌<◌}
use mathlib.Core.Path.{◌≡◌, refl, sym, ap, ap₂, ◌∙◌}
use mathlib.Core.Bool.{Bool, true, false, cond, not}
use mathlib.Core.List.{List, [], ◌∷◌, reverse, reverse-cons, map-append}
use native.Mathlib.Omega.{arith}
use lib.Dec.{eqb}
use lib.ListN.{length, set, length-append, length-reverse, length-map}
use lib.Seq.{sets}
use Rattle.kit.specs.Loops.{keep}
use Rattle.kit.proofs.Bools.{tests}
use Rattle.kit.proofs.Writes.{sets-append, sets_last, set_past}
use Rattle.handle.specs.declared.Handle.{Handle}
use Rattle.handle.specs.Handle.{dir_of}
use Rattle.groups.specs.Groups.{is_reverse, arranged, numbers}

abbrev pub forward : Handle → Bool
forward h = not (is_reverse h)

abbrev pub downs : List Handle → List Handle
downs ms = keep is_reverse ms

abbrev pub ups : List Handle → List Handle
ups ms = keep forward ms

split_by : (b : Bool) (h : Handle) (a c : List Handle) (n : ℕ) → length a + length c ≡ n → length (cond b (h ∷ a) a) + length (cond (not b) (h ∷ c) c) ≡ suc n
split_by true h a c n e = omega arith
split_by false h a c n e = omega arith

-- each member is one or the other
pub length-split : (ms : List Handle) → length (downs ms) + length (ups ms) ≡ length ms
length-split [] = omega arith
length-split (h ∷ ms) = split_by (is_reverse h) h (downs ms) (ups ms) (length ms) (length-split ms)

length-down : (ms : List Handle) → length (numbers (reverse ms)) ≡ length ms
length-down ms = length-map (reverse ms) (λ h. h.packed) ∙ length-reverse ms

pub length-arranged : (ms : List Handle) → length (arranged ms) ≡ length ms
length-arranged ms = simp (length-append, length-reverse) (length-split ms)

pub length-written : (ms : List Handle) → length (numbers (arranged ms)) ≡ length ms
length-written ms = length-map (arranged ms) (λ h. h.packed) ∙ length-arranged ms

-- what is left to write of a group whose reversed ones go down to `base` and whose forward ones go up from `high`
abbrev pub placed : List ℕ → ℕ → ℕ → List Handle → List ℕ
placed l base high ms = sets (sets l base (numbers (reverse (downs ms)))) high (numbers (ups ms))

pub placed-all : (l : List ℕ) (base : ℕ) (ms : List Handle) → placed l base (base + length (downs ms)) ms ≡ sets l base (numbers (arranged ms))
placed-all l base ms =
    let down = numbers (reverse (downs ms)) in
    let e : base + length (downs ms) ≡ base + length down = omega (arith, length-down (downs ms)) in
    ap (λ (k : ℕ). sets (sets l base down) k (numbers (ups ms))) e
    ∙ sym (sets-append l base down (numbers (ups ms)))
    ∙ ap (sets l base) (sym (map-append (λ (h : Handle). h.packed) (reverse (downs ms)) (ups ms)))

-- one member w placed, whose direction is d, and then the rest
pub record Placed (l : List ℕ) (base low high : ℕ) (w : Handle) (rest : List Handle) (b : Bool) (d : ℕ) : Type 0 where
  pub room : d ≤ low
  pub bit : d ≤ 1
  pub below : low - d ≡ base + length (downs rest)
  pub above : high + (1 - d) + length (ups rest) ≡ high + length (cond (not b) (w ∷ ups rest) (ups rest))
  pub between : low - d ≤ high + (1 - d)
  pub inside : cond b (low - 1) high < high + length (cond (not b) (w ∷ ups rest) (ups rest))
  pub todo : placed (set l (cond b (low - 1) high) w.packed) base (high + (1 - d)) rest ≡ sets (sets l base (numbers (reverse (cond b (w ∷ downs rest) (downs rest))))) high (numbers (cond (not b) (w ∷ ups rest) (ups rest)))

module _ (l : List ℕ) (base low high : ℕ) (w : Handle) (rest : List Handle) (order : low ≤ high) where
  abbrev down : List ℕ
  down = numbers (reverse (downs rest))

  abbrev up : List ℕ
  up = numbers (ups rest)

  placed-down : (d : ℕ) → d ≡ 1 → low ≡ base + suc (length (downs rest)) → Placed l base low high w rest true d
  placed-down d e at_low =
      let i : low - 1 ≡ base + length down = omega (arith, length-down (downs rest)) in
      let k : high + (1 - d) ≡ high = omega arith in
      record {
        room = omega arith;
        bit = omega arith;
        below = omega arith;
        above = omega arith;
        between = omega arith;
        inside = omega arith;
        todo = ap₂ (λ (x y : ℕ). sets (sets (set l x w.packed) base down) y up) i k
            ∙ ap (λ (x : List ℕ). sets x high up)
            (sets_last l base down w.packed
            ∙ ap (sets l base) (sym (ap numbers (reverse-cons w (downs rest)) ∙ map-append (λ (h : Handle). h.packed) (reverse (downs rest)) (w ∷ []))));
      }

  placed-up : (d : ℕ) → d ≡ 0 → low ≡ base + length (downs rest) → Placed l base low high w rest false d
  placed-up d e at_low =
      let k : high + (1 - d) ≡ suc high = omega arith in
      record {
        room = omega arith;
        bit = omega arith;
        below = omega arith;
        above = omega arith;
        between = omega arith;
        inside = omega arith;
        todo = ap (λ (y : ℕ). sets (sets (set l high w.packed) base down) y up) k
            ∙ ap (λ (x : List ℕ). sets x (suc high) up) (set_past l base down high w.packed (omega (arith, length-down (downs rest))));
      }

  pub placed_one : low ≡ base + length (downs (w ∷ rest)) → Placed l base low high w rest (is_reverse w) (dir_of w)
  placed_one at_low = by (is_reverse w) (dir_of w) refl (omega arith) at_low
    where
      by : (b : Bool) (d : ℕ) → eqb d 1 ≡ b → d < 2 → low ≡ base + length (cond b (w ∷ downs rest) (downs rest)) → Placed l base low high w rest b d
      by true d e k q = placed-down d (omega (arith, tests)) q
      by false d e k q = placed-up d (omega (arith, tests)) q
