-- The links of a collapse, copied or put back one after another.
use Prim.Native.Nat.{ℕ, suc, ◌+◌, ◌*◌, ◌≤◌}
use mathlib.Core.Path.{◌≡◌, refl, sym, ap, ◌∙◌}
use mathlib.Core.Bool.{cond}
use mathlib.Core.List.{List, [], ◌∷◌, ◌++◌, map, append_assoc, append-nil}
use native.Mathlib.Numerals.{add-one, add-two}
use native.Mathlib.Omega.{arith}
use lib.ListN.{length, drop, get_or, set, length-append, take-append-drop}
use lib.Seq.{set-get_or, get_or-set_other}
use Rattle.kit.specs.Layout.{encode}
use Rattle.kit.proofs.Laws.{length-decode, encode-decode, decode-take, push, then-decode, then-drop, alike_further}
use Rattle.handle.specs.declared.Edge.{Edge}
use Rattle.store.specs.Graph.{link, ends, link_layout, links_of}
use Rattle.store.specs.declared.Node.{Node}
use Rattle.store.specs.declared.Link.{Link}
use Rattle.store.specs.Views.{live_link}
use Rattle.merging.specs.Plan.{dim, remark}

-- at the head of a loop that puts links one after another: those before i and what is left are all, and what stands from
-- there on is as it was
pub record Putting (l₀ l : List ℕ) (i : ℕ) (left all : List Link) : Type 0 where
  pub size : length l ≡ length l₀
  pub sofar : links_of i l ++ left ≡ all
  pub rest : drop (3 * i) l ≡ drop (3 * i) l₀

-- one link more
pub put_one : {l₀ l l' : List ℕ} {i : ℕ} {r : Link} {left rs all : List Link} → Putting l₀ l i rs all → rs ≡ r ∷ left → length l' ≡ length l → l' ≡ encode link_layout (links_of i l ++ (r ∷ [])) ++ drop (3 * (i + 1)) l → Putting l₀ l' (i + 1) left all
put_one {l₀} {l} {l'} {i} {r} {left} {rs} {all} p e s q =
    let n : length (links_of i l ++ (r ∷ [])) ≡ i + 1 = length-append (links_of i l) (r ∷ []) ∙ ap (λ (k : ℕ). k + 1) (length-decode link_layout i l) in
    record {
      size = s ∙ p.size;
      sofar = ap (λ (k : List ℕ). links_of (i + 1) k ++ left) q
          ∙ ap (λ (ts : List Link). ts ++ left) (then-decode link_layout (i + 1) (links_of i l ++ (r ∷ [])) _ n)
          ∙ append_assoc (links_of i l) (r ∷ []) left ∙ sym (ap (λ (ts : List Link). links_of i l ++ ts) e) ∙ p.sofar;
      rest = ap (drop (3 * (i + 1))) q ∙ then-drop link_layout (i + 1) (i + 1) (links_of i l ++ (r ∷ [])) l n (omega arith)
          ∙ alike_further (3 * i) (3 * (i + 1)) l l₀ (omega arith) p.rest;
    }

pub all-put : {l₀ l : List ℕ} {i n : ℕ} {rs all : List Link} → Putting l₀ l i rs all → i ≡ n → rs ≡ [] → 3 * n ≤ length l₀ → l ≡ encode link_layout all ++ drop (3 * n) l₀
all-put {l₀} {l} {i} {n} {rs} {all} p k e room =
    let q : links_of i l ≡ all = sym (append-nil (links_of i l)) ∙ sym (ap (λ (ts : List Link). links_of i l ++ ts) e) ∙ p.sofar in
    sym (encode-decode link_layout i l (omega (arith, p.size))) ∙ rw (q, p.rest, k)

-- a copy, marked where it is not live
pub dim-new : (nodes : List Node) {r : Link} {rs ts : List Link} (mark : ℕ) → rs ≡ r ∷ ts → mark ≡ cond (live_link nodes r) 0 1 → map (dim nodes) rs ≡ link (ends r) mark ∷ map (dim nodes) ts
dim-new nodes mark e f = rw (e, f)

-- new ends, stored over a link whose mark w stays
pub ends-stored : (i : ℕ) (l : List ℕ) (e : Edge) (w : ℕ) → w ≡ get_or l (3 * i + 2) 0 → 3 * (i + 1) ≤ length l → set (set l (3 * i) e.from.packed) (3 * i + 1) e.to.packed ≡ encode link_layout (links_of i l ++ (link e w ∷ [])) ++ drop (3 * (i + 1)) l
ends-stored i l e w is room =
    let x = e.from.packed in
    let y = e.to.packed in
    let m = set (set l (3 * i) x) (3 * i + 1) y in
    let k : get_or m (3 * i + 2) 0 ≡ w = get_or-set_other (set l (3 * i) x) (3 * i + 1) (3 * i + 2) y 0 (λ q. omega arith) ∙ get_or-set_other l (3 * i) (3 * i + 2) x 0 (λ q. omega arith) ∙ sym is in
    sym (set-get_or m (3 * i + 2) 0) ∙ ap (set m (3 * i + 2)) k
    ∙ rw (add-one (3 * i), add-two (3 * i), add-one i) (push link_layout i l (link e w) (omega arith))

-- new ends and old marks, a turn of the loop
pub remark-more : {r o : Link} {rs os ts ns : List Link} → os ≡ o ∷ ns → rs ≡ r ∷ ts → remark os rs ≡ link (ends r) o.mark ∷ remark ns ts
remark-more e q = rw (e, q)

pub remark_none : {rs : List Link} (os : List Link) → rs ≡ [] → remark os rs ≡ []
remark_none os e = ap (remark os) e

pub remark-new : {r : Link} {rs ts : List Link} → rs ≡ r ∷ ts → remark [] rs ≡ link (ends r) 0 ∷ remark [] ts
remark-new e = rw e

-- the old links, and then the new ones
pub remark-append : (os rs ts : List Link) → length os ≡ length rs → remark os (rs ++ ts) ≡ remark os rs ++ remark [] ts
remark-append [] [] ts e = refl
remark-append [] (r ∷ rs) ts e = absurd (omega arith)
remark-append (o ∷ os) [] ts e = absurd (omega arith)
remark-append (o ∷ os) (r ∷ rs) ts e = ap (λ (xs : List Link). link (ends r) o.mark ∷ xs) (remark-append os rs ts (omega arith))

pub remark-length : (os rs : List Link) → length (remark os rs) ≡ length rs
remark-length os [] = refl
remark-length [] (r ∷ rs) = ap suc (remark-length [] rs)
remark-length (o ∷ os) (r ∷ rs) = ap suc (remark-length os rs)

-- m is what putting the old links left of l, and k what putting the new ones left of m
pub both-put : (old new : ℕ) (l plan : List ℕ) {m k : List ℕ} → old ≤ new → m ≡ encode link_layout (remark (links_of old l) (links_of old plan)) ++ drop (3 * old) l → k ≡ encode link_layout (links_of old m ++ remark [] (drop old (links_of new plan))) ++ drop (3 * new) m → k ≡ encode link_layout (remark (links_of old l) (links_of new plan)) ++ drop (3 * new) l
both-put old new l plan {m} {k} h e q =
    let rs = remark (links_of old l) (links_of old plan) in
    let n : length rs ≡ old = remark-length (links_of old l) (links_of old plan) ∙ length-decode link_layout old plan in
    let parts : links_of new plan ≡ links_of old plan ++ drop old (links_of new plan) = sym (take-append-drop old (links_of new plan)) ∙ ap (λ (xs : List Link). xs ++ drop old (links_of new plan)) (decode-take link_layout old new plan h) in
    let whole : remark (links_of old l) (links_of new plan) ≡ rs ++ remark [] (drop old (links_of new plan)) =
    ap (remark (links_of old l)) parts ∙ remark-append (links_of old l) (links_of old plan) _ (length-decode link_layout old l ∙ sym (length-decode link_layout old plan)) in
    q ∙ rw (e, then-decode link_layout old rs (drop (3 * old) l) n, then-drop link_layout old new rs l n h, whole)
