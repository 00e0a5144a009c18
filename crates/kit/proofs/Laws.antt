-- The laws of `decode` and `encode`, once for every layout.
use Prim.Native.Nat.{ℕ, zero, suc, ◌+◌, ◌-◌, ◌*◌, ◌≤◌, ◌<◌}
use mathlib.Core.Path.{◌≡◌, refl, sym, ap, ◌∙◌}
use mathlib.Core.List.{List, [], ◌∷◌, ◌++◌, append_assoc, append-nil}
use native.Mathlib.Nat.{mul-zero, zero-add, le_of_suc-le-suc, not-suc-le-zero, mul-le-mul_left}
use native.Mathlib.Numerals.{add-one}
use native.Mathlib.Omega.{arith}
use lib.ListN.{length, take, drop, get_or, set, length-append, length-drop, take-append-drop, drop_of_length-le}
use lib.Seq.{drop-append-add, drop-drop, drop_at, drop-cons, drop-set-lt, drop-set-add, take-set-le, take_at, sets, sets-eq}
use Rattle.kit.specs.Layout.{Layout, decode, encode}

module _ {A : Type 0} (L : Layout A) where
  -- the record in front sees nothing past its stride
  pub unpack_set_past : (k : ℕ) (l : List ℕ) (v : ℕ) → L.stride ≤ k → L.unpack (set l k v) ≡ L.unpack l
  unpack_set_past k l v h = sym (L.near (set l k v)) ∙ ap L.unpack (take-set-le L.stride l k v h) ∙ L.near l

  pub length-decode : (n : ℕ) (l : List ℕ) → length (decode L n l) ≡ n
  length-decode zero l = refl
  length-decode (suc n) l = ap suc (length-decode n (drop L.stride l))

  pub length-encode : (rs : List A) → length (encode L rs) ≡ L.stride * length rs
  length-encode [] = sym (mul-zero L.stride)
  length-encode (a ∷ rs) =
      omega (arith, length-append (L.pack a) (encode L rs), L.packed a, length-encode rs)

  pub decode-encode : (rs : List A) (r : List ℕ) → decode L (length rs) (encode L rs ++ r) ≡ rs
  decode-encode [] r = refl
  decode-encode (a ∷ rs) r =
      rw (append_assoc (L.pack a) (encode L rs) r, L.unpack_pack a, drop_at (L.pack a) (encode L rs ++ r) L.stride (L.packed a))
      (ap (λ (t : List A). a ∷ t) (decode-encode rs r))

  -- a list that is long enough is its records and then the rest
  pub encode-decode : (n : ℕ) (l : List ℕ) → L.stride * n ≤ length l → encode L (decode L n l) ++ drop (L.stride * n) l ≡ l
  encode-decode zero l h = rw mul-zero
  encode-decode (suc n) l h =
      let h₁ : L.stride ≤ length l = omega arith in
      let h₂ : L.stride * n ≤ length (drop L.stride l) = omega (arith, length-drop L.stride l) in
      let e : L.stride * suc n ≡ L.stride + L.stride * n = omega arith in
      rw (L.pack_unpack l h₁, append_assoc, e, ← drop-drop (L.stride * n) L.stride l, encode-decode n (drop L.stride l) h₂)
      (take-append-drop L.stride l)

  -- the records' numbers are the front of the list
  pub encode-front : (n : ℕ) (l : List ℕ) → L.stride * n ≤ length l → encode L (decode L n l) ≡ take (L.stride * n) l
  encode-front n l h =
      sym (take_at (encode L (decode L n l)) (drop (L.stride * n) l) (L.stride * n) (length-encode (decode L n l) ∙ ap (λ (k : ℕ). L.stride * k) (length-decode n l)))
      ∙ ap (take (L.stride * n)) (encode-decode n l h)

  pub encode-append : (rs ts : List A) → encode L (rs ++ ts) ≡ encode L rs ++ encode L ts
  encode-append [] ts = refl
  encode-append (a ∷ rs) ts = rw (append_assoc, encode-append rs ts)

  encode_snoc : (rs : List A) (a : A) → encode L (rs ++ (a ∷ [])) ≡ encode L rs ++ L.pack a
  encode_snoc rs a = encode-append rs (a ∷ []) ∙ rw (append-nil (L.pack a))

  -- what a list is, from its records and its rest: the way to a mutating contract
  pub by_decode : (n : ℕ) (l rest : List ℕ) (rs : List A) → L.stride * n ≤ length l → decode L n l ≡ rs → drop (L.stride * n) l ≡ rest → l ≡ encode L rs ++ rest
  by_decode n l rest rs h p q = rw (← p, ← q) (sym (encode-decode n l h))

  -- the i-th record stands at stride * i
  pub decode-at : (n i : ℕ) (l : List ℕ) (d : A) → i < n → get_or (decode L n l) i d ≡ L.unpack (drop (L.stride * i) l)
  decode-at zero i l d h = absurd (not-suc-le-zero h)
  decode-at (suc n) zero l d h = rw mul-zero
  decode-at (suc n) (suc i) l d h =
      let e : L.stride * suc i ≡ L.stride + L.stride * i = omega arith in
      rw (e, ← drop-drop (L.stride * i) L.stride l) (decode-at n i (drop L.stride l) d (le_of_suc-le-suc h))

  -- a loop's step: what is left from i on is the i-th record and what is left after it
  pub left_cons : (n i : ℕ) (l : List ℕ) → i < n → drop i (decode L n l) ≡ L.unpack (drop (L.stride * i) l) ∷ drop (i + 1) (decode L n l)
  left_cons n i l h =
      let k : i < length (decode L n l) = rw length-decode h in
      let d : A = L.unpack [] in
      rw (add-one, drop-cons (decode L n l) i d, decode-at n i l d h)

  -- and once all are passed nothing is left
  pub left_none : (n i : ℕ) (l : List ℕ) → n ≤ i → drop i (decode L n l) ≡ []
  left_none n i l h = drop_of_length-le (decode L n l) {i = i} (rw length-decode h)

  -- the first k of n records
  pub decode-take : (k n : ℕ) (l : List ℕ) → k ≤ n → take k (decode L n l) ≡ decode L k l
  decode-take zero n l h = refl
  decode-take (suc k) zero l h = absurd (not-suc-le-zero h)
  decode-take (suc k) (suc n) l h = ap (λ (t : List A). L.unpack l ∷ t) (decode-take k n (drop L.stride l) (le_of_suc-le-suc h))

  -- one record more
  pub decode_snoc : (n : ℕ) (l : List ℕ) → decode L (suc n) l ≡ decode L n l ++ (L.unpack (drop (L.stride * n) l) ∷ [])
  decode_snoc zero l = rw mul-zero
  decode_snoc (suc n) l =
      let e : L.stride * suc n ≡ L.stride + L.stride * n = omega arith in
      rw (e, ← drop-drop (L.stride * n) L.stride l) (ap (λ (t : List A). L.unpack l ∷ t) (decode_snoc n (drop L.stride l)))

  -- a store past the records changes none of them
  pub decode-set_past : (n k : ℕ) (l : List ℕ) (v : ℕ) → L.stride * n ≤ k → decode L n (set l k v) ≡ decode L n l
  decode-set_past zero k l v h = refl
  decode-set_past (suc n) k l v h =
      let h₁ : L.stride ≤ k = omega arith in
      let e : k ≡ L.stride + (k - L.stride) = omega arith in
      let h₂ : L.stride * n ≤ k - L.stride = omega arith in
      rw (unpack_set_past k l v h₁, e, drop-set-add L.stride l (k - L.stride) v, decode-set_past n (k - L.stride) (drop L.stride l) v h₂)

  -- a store to field j of record i changes that record alone
  pub decode-set : (n i j : ℕ) (l : List ℕ) (v : ℕ) → i < n → j < L.stride → decode L n (set l (L.stride * i + j) v) ≡ set (decode L n l) i (L.unpack (set (drop (L.stride * i) l) j v))
  decode-set zero i j l v h k = absurd (not-suc-le-zero h)
  decode-set (suc n) zero j l v h k = rw (mul-zero, zero-add, drop-set-lt L.stride l j v k)
  decode-set (suc n) (suc i) j l v h k =
      let e : L.stride * suc i + j ≡ L.stride + (L.stride * i + j) = omega arith in
      let e₁ : L.stride * suc i ≡ L.stride + L.stride * i = omega arith in
      let h₁ : L.stride ≤ L.stride + (L.stride * i + j) = omega arith in
      rw (
        e,
        e₁,
        unpack_set_past (L.stride + (L.stride * i + j)) l v h₁,
        drop-set-add L.stride l (L.stride * i + j) v,
        decode-set n i j (drop L.stride l) v (le_of_suc-le-suc h) k,
        drop-drop (L.stride * i) L.stride l,
      )

  -- a list that holds a record is its numbers and then the rest
  pub front : (l : List ℕ) → L.stride ≤ length l → l ≡ L.pack (L.unpack l) ++ drop L.stride l
  front l h = rw (L.pack_unpack l h) (sym (take-append-drop L.stride l))

  -- a store to field j of record i, where it changes a record's numbers as f changes the record (by `λ r t. refl` at a layout in hand)
  pub decode-store : (n i j : ℕ) (l : List ℕ) (v : ℕ) (f : A → A) → ((r : A) (t : List ℕ) → L.unpack (set (L.pack r ++ t) j v) ≡ f r) → i < n → j < L.stride → L.stride * n ≤ length l → decode L n (set l (L.stride * i + j) v) ≡ set (decode L n l) i (f (L.unpack (drop (L.stride * i) l)))
  decode-store n i j l v f e h k room =
      let m : L.stride * suc i ≤ L.stride * n = mul-le-mul_left L.stride h in
      let x : List ℕ = drop (L.stride * i) l in
      let g : L.stride ≤ length x = omega (arith, m, length-drop (L.stride * i) l) in
      decode-set n i j l v h k ∙ ap (λ (y : List ℕ). set (decode L n l) i (L.unpack (set y j v))) (front x g) ∙ ap (set (decode L n l) i) (e (L.unpack x) (drop L.stride x))

  -- a record stored after the first n makes one more, and leaves the rest
  pub push : (n : ℕ) (l : List ℕ) (a : A) → L.stride * suc n ≤ length l → sets l (L.stride * n) (L.pack a) ≡ encode L (decode L n l ++ (a ∷ [])) ++ drop (L.stride * suc n) l
  push n l a h =
      let e : L.stride * suc n ≡ L.stride * n + L.stride = omega arith in
      let g : L.stride * n ≤ length l = omega arith in
      let k : L.stride * n + length (L.pack a) ≤ length l = omega (arith, L.packed a) in
      sets-eq (L.pack a) l (L.stride * n) k
      ∙ rw (L.packed a, ← e, ← (encode-front n l g), encode_snoc)

  -- and leaves what stands after the records
  pub rest-set : (n i j : ℕ) (l : List ℕ) (v : ℕ) → i < n → j < L.stride → drop (L.stride * n) (set l (L.stride * i + j) v) ≡ drop (L.stride * n) l
  rest-set n i j l v h k =
      let h₁ : L.stride * i + j < L.stride * n = omega (arith, mul-le-mul_left L.stride h) in
      drop-set-lt (L.stride * n) l (L.stride * i + j) v h₁

  -- what the next operation sees of what the last one left: the records, the rest, the length
  pub then-decode : (n : ℕ) (rs : List A) (r : List ℕ) → length rs ≡ n → decode L n (encode L rs ++ r) ≡ rs
  then-decode n rs r e = rw (← e) (decode-encode rs r)

  pub then-drop : (n k : ℕ) (rs : List A) (l : List ℕ) → length rs ≡ n → n ≤ k → drop (L.stride * k) (encode L rs ++ drop (L.stride * n) l) ≡ drop (L.stride * k) l
  then-drop n k rs l e h =
      let m : L.stride * n ≤ L.stride * k = mul-le-mul_left L.stride h in
      let q : length (encode L rs) ≡ L.stride * n = length-encode rs ∙ ap (λ (x : ℕ). L.stride * x) e in
      let d : L.stride * k ≡ length (encode L rs) + (L.stride * k - L.stride * n) = omega arith in
      let g : L.stride * n + (L.stride * k - L.stride * n) ≡ L.stride * k = omega arith in
      ap (λ (x : ℕ). drop x (encode L rs ++ drop (L.stride * n) l)) d
      ∙ drop-append-add (encode L rs) (drop (L.stride * n) l) (L.stride * k - L.stride * n)
      ∙ drop-drop (L.stride * k - L.stride * n) (L.stride * n) l ∙ ap (λ (x : ℕ). drop x l) g

  pub then-length : (n : ℕ) (rs : List A) (l : List ℕ) → length rs ≡ n → L.stride * n ≤ length l → length (encode L rs ++ drop (L.stride * n) l) ≡ length l
  then-length n rs l e h =
      let q : length (encode L rs) ≡ L.stride * n = length-encode rs ∙ ap (λ (x : ℕ). L.stride * x) e in
      length-append (encode L rs) (drop (L.stride * n) l) ∙ omega (arith, length-drop (L.stride * n) l)

-- lists that are alike from n on are so from m on
pub alike_further : {A : Type 0} (n m : ℕ) (l k : List A) → n ≤ m → drop n l ≡ drop n k → drop m l ≡ drop m k
alike_further n m l k h e =
    let s : n + (m - n) ≡ m = omega arith in
    ap (λ (x : ℕ). drop x l) (sym s) ∙ sym (drop-drop (m - n) n l) ∙ ap (drop (m - n)) e ∙ drop-drop (m - n) n k ∙ ap (λ (x : ℕ). drop x k) s
