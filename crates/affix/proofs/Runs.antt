-- The shared prefix's length, member by member, and the turns of the loops that measure it.
use Prim.Native.Nat.{ℕ, ◌+◌, ◌≤◌, ◌<◌}
use mathlib.Core.Path.{◌≡◌, refl, sym, ap, ◌∙◌}
use mathlib.Core.Bool.{Bool, true, false, cond, ◌&&◌, and-false}
use mathlib.Core.List.{List, [], ◌∷◌, map, tail}
use native.Mathlib.Omega.{arith}
use lib.ListN.{length, take, drop, get_or, get_or-map, length-map, length-take, drop_of_length-le}
use lib.Seq.{get_or-take}
use Rattle.kit.proofs.Steps.{left_at}
use Rattle.kit.specs.Loops.{all}
use Rattle.letters.specs.Letters.{same_letter, is_base}
use Rattle.store.specs.Graph.{Graph, handle}
use Rattle.store.specs.Views.{spell}
use Rattle.affix.specs.Prefix.{begins_with, shared, handles_of, group_prefix}
use Rattle.affix.specs.Reading.{agree}
use Rattle.affix.proofs.Prefix.{prefix_take}

-- what is left from place i on, in a turn of a loop: of a list's first n, of the members
pub left_of-first : (n : ℕ) (l : List ℕ) (i : ℕ) → n ≤ length l → i < n → drop i (take n l) ≡ get_or l i 0 ∷ drop (i + 1) (take n l)
left_of-first n l i h k =
    left_at (take n l) i 0 (omega (arith, length-take n l)) ∙ rw (get_or-take n l i 0 k)

pub left-handle : (ns : List ℕ) (i : ℕ) → i < length ns → drop i (handles_of ns) ≡ handle (get_or ns i 0) ∷ drop (i + 1) (handles_of ns)
left-handle ns i h =
    left_at (handles_of ns) i (handle 0) (omega (arith, length-map ns handle)) ∙ rw (get_or-map handle ns i 0)

pub no_handle : (ns : List ℕ) (i : ℕ) → length ns ≤ i → drop i (handles_of ns) ≡ []
no_handle ns i h = drop_of_length-le (handles_of ns) {i = i} (omega (arith, length-map ns handle))

-- a run is no longer than what it is a run of
pub shared-fits : (s : List ℕ) (ss : List (List ℕ)) → length (shared s ss) ≤ length s
shared-fits s ss = omega (arith, ap length (prefix_take s ss), length-take (length (shared s ss)) s)

agree_none : (s : List ℕ) → agree s [] ≡ 0
agree_none [] = refl
agree_none (a ∷ s) = refl

-- one member more cuts the run to what that member has the same of
pub shared-cut : (s t : List ℕ) (ss : List (List ℕ)) → length (shared s (t ∷ ss)) ≡ agree (take (length (shared s ss)) s) t
shared-cut [] t ss = refl
shared-cut (a ∷ s) [] ss = rw (and-false (is_base a)) (sym (agree_none (take (length (shared (a ∷ s) ss)) (a ∷ s))))
shared-cut (a ∷ s) (b ∷ t) ss = by (is_base a) (same_letter a b) (all (begins_with a) ss) refl (shared-cut s t (map tail ss))
  where
    by : (x y z : Bool) → same_letter a b ≡ y → length (shared s (t ∷ map tail ss)) ≡ agree (take (length (shared s (map tail ss))) s) t → length (cond (x && (y && z)) (a ∷ shared s (t ∷ map tail ss)) []) ≡ agree (take (length (cond (x && z) (a ∷ shared s (map tail ss)) [])) (a ∷ s)) (b ∷ t)
    by true true true e h = rw e (omega arith)
    by true true false e h = refl
    by true false true e h = rw e
    by true false false e h = refl
    by false y z e h = refl

-- a run of bases
pub bases_more : {a : ℕ} {s rest : List ℕ} → s ≡ a ∷ rest → is_base a ≡ true → length (shared s []) ≡ 1 + length (shared rest [])
bases_more e t = rw (e, t) (omega arith)

pub bases_stop : {a : ℕ} {s rest : List ℕ} → s ≡ a ∷ rest → is_base a ≡ false → length (shared s []) ≡ 0
bases_stop e t = rw (e, t)

pub bases_end : {s : List ℕ} → s ≡ [] → length (shared s []) ≡ 0
bases_end e = rw e

-- a run of the same letters, over the first n of s
module _ (n : ℕ) (s t : List ℕ) (i : ℕ) where
  pub agree_end : n ≤ i → agree (drop i (take n s)) (drop i t) ≡ 0
  agree_end h = rw (drop_of_length-le (take n s) {i = i} (omega (arith, length-take n s)))

  pub agree_short : length t ≤ i → agree (drop i (take n s)) (drop i t) ≡ 0
  agree_short h = rw (drop_of_length-le t {i = i} h) (agree_none (drop i (take n s)))

  module _ (h : n ≤ length s) (k : i < n) (m : i < length t) where
    pub agree-more : same_letter (get_or s i 0) (get_or t i 0) ≡ true → agree (drop i (take n s)) (drop i t) ≡ 1 + agree (drop (i + 1) (take n s)) (drop (i + 1) t)
    agree-more e = rw (left_of-first n s i h k, left_at t i 0 m, e)

    pub agree_stop : same_letter (get_or s i 0) (get_or t i 0) ≡ false → agree (drop i (take n s)) (drop i t) ≡ 0
    agree_stop e = rw (left_of-first n s i h k, left_at t i 0 m, e)

-- of a group: the letters are those of its first member
module _ (g : Graph) (ns : List ℕ) (h : 1 ≤ length ns) where
  group_is : group_prefix g (handles_of ns) ≡ shared (spell g (handle (get_or ns 0 0))) (map (spell g) (drop 1 (handles_of ns)))
  group_is = ap (group_prefix g) (left-handle ns 0 h)

  pub group-fits : length (group_prefix g (handles_of ns)) ≤ length (spell g (handle (get_or ns 0 0)))
  group-fits = rw group_is (shared-fits (spell g (handle (get_or ns 0 0))) (map (spell g) (drop 1 (handles_of ns))))

  pub group-take : group_prefix g (handles_of ns) ≡ take (length (group_prefix g (handles_of ns))) (spell g (handle (get_or ns 0 0)))
  group-take = rw group_is (prefix_take (spell g (handle (get_or ns 0 0))) (map (spell g) (drop 1 (handles_of ns))))
