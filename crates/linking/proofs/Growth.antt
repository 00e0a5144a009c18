-- No step takes a link away, so links that do not fit now never do; and no step makes an end with id 0.
use Prim.Native.Nat.{ℕ, ◌+◌, ◌≤◌}
use mathlib.Core.Path.{◌≡◌, refl, ap, ◌∙◌}
use mathlib.Core.Bool.{Bool, true, false, cond, ◌||◌}
use mathlib.Core.List.Memᴰ
use mathlib.Core.List.{List, [], ◌∷◌, ◌++◌, map, Memᴰ}
use mathlib.Core.Logic.{⊎_elim}
use native.Mathlib.Omega.{arith}
use borrow.Author.Tests.{le-leb, leb-true}
use lib.Dec.{eqb, leb}
use lib.ListN.{length, length-map, length-append}
use Rattle.kit.specs.Loops.{all, keep, lines}
use Rattle.kit.proofs.Bools.{and_both, and_true_l, and_true_r}
use Rattle.kit.proofs.Meaning.{all_append, all_map, all_mem, all_of}
use Rattle.kit.proofs.Members.{of_keep, of_lines, of_one}
use Rattle.handle.specs.declared.Handle.{Handle}
use Rattle.handle.specs.declared.Edge.{Edge}
use Rattle.handle.specs.Handle.{pack, id_of, flip, same_handle}
use Rattle.handle.specs.Edge.{edge, written}
use Rattle.handle.proofs.Handles.{id-pack, id-flip}
use Rattle.store.specs.Graph.{link, ends}
use Rattle.store.specs.declared.Node.{Node}
use Rattle.store.specs.declared.Link.{Link}
use Rattle.store.specs.Views.{linked}
use Rattle.formed.specs.WellFormed.{unmarked_link}
use Rattle.sides.specs.Sides.{right_ends}
use Rattle.sides.proofs.Rising.{of_rising}
use Rattle.split.specs.Split.{move_ends, move_link, split_links}
use Rattle.split.proofs.Ends.{both-written}
use Rattle.merging.specs.Merging.{is_forward, add_link, add_links, read_as}
use Rattle.merging.specs.Plan.{bury, right_in, suffix_by, later_links, later_links_all, fresh_after, long_by, prefix_if}
use Rattle.linking.specs.Fit.{given_by, later_by, ends_named}

pub one_more : (rs : List Link) (r : Link) → length (rs ++ (r ∷ [])) ≡ length rs + 1
one_more rs r = length-append rs (r ∷ [])

pub split-more : (id fresh : ℕ) (rs : List Link) → length (split_links id fresh rs) ≡ length rs + 1
split-more id fresh rs =
    one_more (map (move_link (pack id 0) (pack fresh 0)) rs) _ ∙ ap (λ (n : ℕ). n + 1) (length-map rs (move_link (pack id 0) (pack fresh 0)))

pub add_more : (e : Edge) (rs : List Link) → length rs ≤ length (add_link e rs)
add_more e rs = by (linked e rs)
  where
    by : (b : Bool) → length rs ≤ length (cond b rs (rs ++ (link (written e) 0 ∷ [])))
    by true = omega arith
    by false = omega (arith, one_more rs (link (written e) 0))

pub adds_more : (x : Handle) (ys : List Handle) (rs : List Link) → length rs ≤ length (add_links x ys rs)
adds_more x [] rs = omega arith
adds_more x (y ∷ ys) rs = omega (arith, add_more (edge x y) rs, adds_more x ys (add_link (edge x y) rs))

pub bury-same : (id : ℕ) (rs : List Link) → length (map (bury id) rs) ≡ length rs
bury-same id rs = length-map rs (bury id)

pub given-more : (long : Bool) (x : Handle) (fresh : ℕ) (rs : List Link) (m : Handle) → length rs ≤ length (given_by long x fresh rs m)
given-more true x fresh rs m = omega (arith, split-more (id_of m) fresh rs, adds_more x (suffix_by fresh m ∷ []) (split_links (id_of m) fresh rs))
given-more false x fresh rs m = adds_more x (map (read_as m x) (right_in rs m)) rs

pub later_more : (long : Bool) (x : Handle) (fresh : ℕ) (rs : List Link) (m : Handle) → length rs ≤ length (later_by long x fresh rs m)
later_more long x fresh rs m =
    omega (arith, given-more long x fresh rs m, bury-same (id_of (prefix_if long fresh m)) (given_by long x fresh rs m))

pub later_all-more : (p : ℕ) (nodes : List Node) (x : Handle) (fresh : ℕ) (rs : List Link) (ms : List Handle) → length rs ≤ length (later_links_all p nodes x fresh rs ms)
later_all-more p nodes x fresh rs [] = omega arith
later_all-more p nodes x fresh rs (m ∷ ms) =
    omega (arith, later_more (long_by p nodes m) x fresh rs m, later_all-more p nodes x (fresh_after p nodes fresh m) (later_links p nodes x fresh rs m) ms)

-- an oriented node whose id is not 0
abbrev pub named : Handle → Bool
named h = leb 1 (id_of h)

named-pack : (i d : ℕ) → d ≤ 1 → 1 ≤ i → named (pack i d) ≡ true
named-pack i d h g = ap (leb 1) (id-pack i d h) ∙ le-leb 1 i g

named-flip : (h : Handle) → named h ≡ true → named (flip h) ≡ true
named-flip h t = ap (leb 1) (id-flip h) ∙ t

named_if : (b : Bool) (u v : Handle) → named u ≡ true → named v ≡ true → named (cond b u v) ≡ true
named_if true u v s t = s
named_if false u v s t = t

named-written : (e : Edge) (k : ℕ) → named e.from ≡ true → named e.to ≡ true → ends_named (link (written e) k) ≡ true
named-written e k s t = both-written (leb 1) e ∙ and_both _ _ s t

named-moved : (v f : Handle) (r : Link) → named f ≡ true → ends_named r ≡ true → ends_named (move_link v f r) ≡ true
named-moved v f r s t =
    named-written (move_ends v f (ends r)) r.mark
    (named_if (same_handle r.from v) f r.from s (and_true_l (named r.from) (named r.to) t))
    (named_if (same_handle r.to (flip v)) (flip f) r.to (named-flip f s) (and_true_r (named r.from) (named r.to) t))

named-split : (id fresh : ℕ) (rs : List Link) → 1 ≤ id → 1 ≤ fresh → all ends_named rs ≡ true → all ends_named (split_links id fresh rs) ≡ true
named-split id fresh rs g h t =
    let f = named-pack fresh 0 (omega arith) h in
    all_append ends_named (map (move_link (pack id 0) (pack fresh 0)) rs) _
    ∙ and_both _ _
    (all_map ends_named (move_link (pack id 0) (pack fresh 0)) rs ∙ all_of _ rs (λ r k. named-moved (pack id 0) (pack fresh 0) r f (all_mem ends_named t k)))
    (and_both _ true (and_both _ _ (named-pack id 0 (omega arith) g) f) refl)

named_add : (e : Edge) (rs : List Link) → named e.from ≡ true → named e.to ≡ true → all ends_named rs ≡ true → all ends_named (add_link e rs) ≡ true
named_add e rs s u t = by (linked e rs)
  where
    by : (b : Bool) → all ends_named (cond b rs (rs ++ (link (written e) 0 ∷ []))) ≡ true
    by true = t
    by false = all_append ends_named rs (link (written e) 0 ∷ []) ∙ and_both _ _ t (and_both _ true (named-written e 0 s u) refl)

named_adds : (x : Handle) (ys : List Handle) (rs : List Link) → named x ≡ true → all named ys ≡ true → all ends_named rs ≡ true → all ends_named (add_links x ys rs) ≡ true
named_adds x [] rs s u t = t
named_adds x (y ∷ ys) rs s u t =
    named_adds x ys (add_link (edge x y) rs) s (and_true_r (named y) (all named ys) u) (named_add (edge x y) rs s (and_true_l (named y) (all named ys) u) t)

named-bury : (id : ℕ) (rs : List Link) → all ends_named rs ≡ true → all ends_named (map (bury id) rs) ≡ true
named-bury id rs t =
    all_map ends_named (bury id) rs ∙ all_of _ rs (λ r k. by r (eqb (id_of r.from) id || eqb (id_of r.to) id) ∙ all_mem ends_named t k)
  where
    by : (r : Link) (b : Bool) → ends_named (cond b (link (ends r) 1) r) ≡ ends_named r
    by r true = refl
    by r false = refl

-- nor is a neighbour such a one
pub named-right : (rs : List Link) (v : Handle) → all ends_named rs ≡ true → {u : Handle} → Memᴰ u (right_in rs v) → named u ≡ true
named-right rs v t {u} k =
    let a = of_lines (right_ends v) (keep unmarked_link rs) (of_rising (lines (right_ends v) (keep unmarked_link rs)) k) in
    let r = a.0 in
    let n : ends_named r ≡ true = all_mem ends_named t (of_keep unmarked_link rs a.1).0 in
    ⊎_elim
    (λ j. ap named (of_one (same_handle r.from v) j).1 ∙ and_true_r (named r.from) (named r.to) n)
    (λ j. ap named (of_one (same_handle (flip r.to) v) j).1 ∙ named-flip r.from (and_true_l (named r.from) (named r.to) n))
    (Memᴰ.append_cases (cond (same_handle r.from v) (r.to ∷ []) []) a.2)

named-given : (long : Bool) (x : Handle) (fresh : ℕ) (rs : List Link) (m : Handle) → named x ≡ true → named m ≡ true → 1 ≤ fresh → all ends_named rs ≡ true → all ends_named (given_by long x fresh rs m) ≡ true
named-given true x fresh rs m s u h t =
    named_adds x (suffix_by fresh m ∷ []) (split_links (id_of m) fresh rs) s
    (and_both _ true (named_if (is_forward m) (pack fresh 0) m (named-pack fresh 0 (omega arith) h) u) refl)
    (named-split (id_of m) fresh rs (leb-true 1 (id_of m) u) h t)
named-given false x fresh rs m s u h t =
    named_adds x (map (read_as m x) (right_in rs m)) rs s
    (all_map named (read_as m x) (right_in rs m)
    ∙ all_of _ (right_in rs m) (λ y k. named_if (same_handle y m) x _ s (named_if (same_handle y (flip m)) (flip x) y (named-flip x s) (named-right rs m t k))))
    t

pub named-later : (long : Bool) (x : Handle) (fresh : ℕ) (rs : List Link) (m : Handle) → 1 ≤ id_of x → 1 ≤ id_of m → 1 ≤ fresh → all ends_named rs ≡ true → all ends_named (later_by long x fresh rs m) ≡ true
named-later long x fresh rs m s u h t =
    named-bury (id_of (prefix_if long fresh m)) (given_by long x fresh rs m) (named-given long x fresh rs m (le-leb 1 (id_of x) s) (le-leb 1 (id_of m) u) h t)

pub named-alone : (long : Bool) (fresh : ℕ) (rs : List Link) (m : Handle) → 1 ≤ id_of m → 1 ≤ fresh → all ends_named rs ≡ true → all ends_named (cond long (split_links (id_of m) fresh rs) rs) ≡ true
named-alone true fresh rs m u h t = named-split (id_of m) fresh rs u h t
named-alone false fresh rs m u h t = t
