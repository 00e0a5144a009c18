-- Live links in written order: the search in no order, and going along them from one to the next.
use Prim.Native.Nat.{ℕ, ◌-◌, ◌≤◌, ◌<◌}
use mathlib.Core.Path.{◌≡◌, refl, sym, ap, subst, ◌∙◌}
use mathlib.Core.Bool.{Bool, true, false, cond, ◌&&◌, ◌||◌}
use mathlib.Core.List.{List, [], ◌∷◌, ◌++◌, Memᴰ}
use native.Mathlib.Omega.{arith}
use borrow.Author.Tests.{ne_eqb, ltb-true}
use lib.Dec.{eqb, ltb}
use lib.ListN.{drop}
use Rattle.kit.specs.Loops.{first_or, keep, lines}
use Rattle.kit.proofs.Bools.{tests, never, or_right, and_true_l, and_true_r, not_true_false}
use Rattle.kit.proofs.Members.{of_keep}
use Rattle.kit.proofs.Writes.{lines_more}
use Rattle.handle.specs.declared.Edge.{Edge}
use Rattle.handle.specs.Handle.{id_of}
use Rattle.handle.specs.Edge.{edge_before, same_ends}
use Rattle.handle.proofs.Edges.{says_before, before_irrefl, before_trans}
use Rattle.store.specs.Graph.{link, ends, links_of}
use Rattle.store.specs.declared.Node.{Node}
use Rattle.store.specs.declared.Link.{Link}
use Rattle.store.specs.Views.{live_node, live_link}
use Rattle.store.proofs.Fields.{link_at, back_link}
use Rattle.formed.specs.WellFormed.{links_once}
use Rattle.writing.specs.GraphText.{link_line}
use Rattle.store.specs.Order.{insert_link, written_order}
use Rattle.writing.specs.Search.{no_ends, next_after, sooner}
use Rattle.writing.proofs.Lists.{keep_all, distinct-drop, distinct-keep}
use Rattle.store.proofs.Order.{Leads, Written, written_nil, written_cons, of_order, order_written}
use Rattle.writing.proofs.Texts.{link-ends}

-- each starts at a node
abbrev pub Started : List Link → Type 0
Started ys = (y : Link) → Memᴰ y ys → 0 < y.from.packed

abbrev after : Edge → Link → Bool
after e r = edge_before e (ends r)

module _ (e : Edge) where
  -- a link that stands before all of a list is sooner than the next of them
  leads_next : (x : Link) (ys : List Link) → Leads x ys → (eqb (next_after e ys).from.packed 0 || edge_before (ends x) (next_after e ys)) ≡ true
  leads_next x [] low = refl
  leads_next x (y ∷ ys) low = by (after e y) (leads_next x ys (λ u m. low u (Memᴰ.tail m)))
    where
      by : (b : Bool) → (eqb (next_after e ys).from.packed 0 || edge_before (ends x) (next_after e ys)) ≡ true → (eqb (ends (cond b y (first_or (link no_ends 0) (after e) ys))).from.packed 0 || edge_before (ends x) (ends (cond b y (first_or (link no_ends 0) (after e) ys)))) ≡ true
      by true h = or_right (eqb y.from.packed 0) (edge_before (ends x) (ends y)) (low y (Memᴰ.head refl))
      by false h = h

  -- one link more
  insert_next : (x : Link) {ys : List Link} → Written ys → Started ys → next_after e (insert_link x ys) ≡ sooner e (ends x) (next_after e ys)
  insert_next x written_nil some = by (after e x)
    where
      by : (b : Bool) → ends (cond b x (link no_ends 0)) ≡ cond (b && true) (ends x) no_ends
      by true = refl
      by false = refl
  insert_next x (written_cons {x = y} {xs = ys} low s) some =
      by (edge_before (ends x) (ends y)) (after e x) (after e y) refl refl refl (insert_next x s (λ u m. some u (Memᴰ.tail m)))
    where
      all_after : edge_before (ends x) (ends y) ≡ true → Leads x (y ∷ ys)
      all_after b u (Memᴰ.head q) = ap (λ (k : Link). edge_before (ends x) (ends k)) q ∙ b
      all_after b u (Memᴰ.tail m) = before_trans (ends x) (ends y) (ends u) b (low u m)

      by : (b px py : Bool) → edge_before (ends x) (ends y) ≡ b → after e x ≡ px → after e y ≡ py → next_after e (insert_link x ys) ≡ sooner e (ends x) (next_after e ys) → next_after e (cond b (x ∷ y ∷ ys) (y ∷ insert_link x ys)) ≡ cond (px && (eqb (next_after e (y ∷ ys)).from.packed 0 || edge_before (ends x) (next_after e (y ∷ ys)))) (ends x) (next_after e (y ∷ ys))
      by true true py b p q go = rw (p, leads_next x (y ∷ ys) (all_after b))
      by true false py b p q go = rw p
      by false px true b p q go = rw (q, ne_eqb y.from.packed 0 (λ z. omega (arith, some y (Memᴰ.head refl))), b) (stays px)
        where
          stays : (t : Bool) → ends y ≡ cond (t && false) (ends x) (ends y)
          stays true = refl
          stays false = refl
      by false px false b p q go = rw q (go ∙ rw p)

-- a live link starts at a node, where no live node has id 0
pub live_started : (nodes : List Node) (rs : List Link) → live_node 0 nodes ≡ false → Started (written_order (keep (live_link nodes) rs))
live_started nodes rs none y m = by (ltb 0 y.from.packed) refl
  where
    by : (b : Bool) → ltb 0 y.from.packed ≡ b → 0 < y.from.packed
    by true t = ltb-true 0 y.from.packed t
    by false t =
        let z : id_of y.from ≡ 0 = omega (arith, tests) in
        let k : live_link nodes y ≡ true = (of_keep (live_link nodes) rs (of_order (keep (live_link nodes) rs) m)).1 in
        let h : live_node (id_of y.from) nodes ≡ true = and_true_r (eqb y.mark 0) (live_node (id_of y.from) nodes) (and_true_l (eqb y.mark 0 && live_node (id_of y.from) nodes) (live_node (id_of y.to) nodes) k) in
        never (sym (sym (ap (λ (i : ℕ). live_node i nodes) z) ∙ h) ∙ none)

pub live_written : (nodes : List Node) (rs : List Link) → links_once rs ≡ true → Written (written_order (keep (live_link nodes) rs))
live_written nodes rs once = order_written (keep (live_link nodes) rs) (distinct-keep (λ r s. same_ends (ends r) (ends s)) (live_link nodes) rs once)

-- what the links from slot i on give
abbrev pub first_from : Edge → List Node → ℕ → List ℕ → ℕ → Edge
first_from e nodes n l i = next_after e (written_order (keep (live_link nodes) (drop i (links_of n l))))

-- a turn of the loop, from slot i to the one before
module _ (e : Edge) (nodes : List Node) (n : ℕ) (l : List ℕ) (none : live_node 0 nodes ≡ false) (once : links_once (links_of n l) ≡ true) (i : ℕ) (best : Edge) (low : 0 < i) (high : i ≤ n) (q : best ≡ first_from e nodes n l i) where
  turn : first_from e nodes n l (i - 1) ≡ cond (live_link nodes (link_at l (i - 1))) (sooner e (ends (link_at l (i - 1))) best) best
  turn = rw (back_link n i l low high, q) (by (live_link nodes (link_at l (i - 1))))
    where
      by : (b : Bool) → next_after e (written_order (cond b (link_at l (i - 1) ∷ keep (live_link nodes) (drop i (links_of n l))) (keep (live_link nodes) (drop i (links_of n l))))) ≡ cond b (sooner e (ends (link_at l (i - 1))) (first_from e nodes n l i)) (first_from e nodes n l i)
      by true = insert_next e (link_at l (i - 1)) (live_written nodes (drop i (links_of n l)) (distinct-drop (λ r s. same_ends (ends r) (ends s)) i (links_of n l) once)) (live_started nodes (drop i (links_of n l)) none)
      by false = refl

  pub link_live : live_link nodes (link_at l (i - 1)) ≡ true → sooner e (ends (link_at l (i - 1))) best ≡ first_from e nodes n l (i - 1)
  link_live t = sym (turn ∙ rw t)

  pub link_dead : live_link nodes (link_at l (i - 1)) ≡ false → best ≡ first_from e nodes n l (i - 1)
  link_dead t = sym (turn ∙ rw t)

  pub link-same : sooner e (ends (link_at l (i - 1))) best ≡ best → best ≡ first_from e nodes n l (i - 1)
  link-same s = sym (turn ∙ by (live_link nodes (link_at l (i - 1))))
    where
      by : (b : Bool) → cond b (sooner e (ends (link_at l (i - 1))) best) best ≡ best
      by true = s
      by false = refl

-- what is left of a list after a link: so a loop goes along it, from one to the next
abbrev pub rest_after : Edge → List Link → List Link
rest_after e xs = keep (after e) xs

pub rest-links : (xs : List Link) → Started xs → rest_after no_ends xs ≡ xs
rest-links xs some =
    keep_all (after no_ends) xs (λ y m. says_before no_ends (ends y) (record { first = omega arith; second = λ z. absurd (omega (arith, some y m)) }))

-- a turn of such a loop found f next
pub record LinkStep (e : Edge) (xs : List Link) (f : Edge) : Type 0 where
  pub this : Link
  pub found : ends this ≡ f
  pub stands : Memᴰ this xs
  pub rest : rest_after e xs ≡ this ∷ rest_after f xs

pub link-step : (e : Edge) {xs : List Link} (f : Edge) → Written xs → f ≡ next_after e xs → 0 < f.from.packed → LinkStep e xs f
link-step e f written_nil q h = absurd (omega (arith, h, ap (λ (x : Edge). x.from.packed) q))
link-step e f (written_cons {x = y} {xs = ys} low s) q h = by (after e y) refl q (link-step e f s)
  where
    by : (b : Bool) → after e y ≡ b → f ≡ ends (cond b y (first_or (link no_ends 0) (after e) ys)) → (f ≡ next_after e ys → 0 < f.from.packed → LinkStep e ys f) → LinkStep e (y ∷ ys) f
    by true t p go =
        let mine : rest_after (ends y) (y ∷ ys) ≡ ys = rw (not_true_false (edge_before (ends y) (ends y)) (before_irrefl (ends y))) (keep_all (after (ends y)) ys low) in
        record {
          this = y;
          found = sym p;
          stands = Memᴰ.head refl;
          rest = subst (λ (k : Edge). rest_after e (y ∷ ys) ≡ y ∷ rest_after k (y ∷ ys)) (sym p) (rw t (ap (λ (l : List Link). y ∷ l) (keep_all (after e) ys (λ u m. before_trans e (ends y) (ends u) t (low u m)) ∙ sym mine)));
        }
    by false t p go =
        let r = go p h in
        let no : edge_before f (ends y) ≡ false = not_true_false (edge_before f (ends y)) (λ z. before_irrefl (ends y) (before_trans (ends y) f (ends y) (rw r.found at (low r.this r.stands)) z)) in
        record {
          this = r.this;
          found = r.found;
          stands = Memᴰ.tail r.stands;
          rest = rw (t, no) r.rest;
        }

-- and its end
pub link_end_lem : (e : Edge) (xs : List Link) → Started xs → no_ends ≡ next_after e xs → rest_after e xs ≡ []
link_end_lem e [] some q = refl
link_end_lem e (y ∷ ys) some q = by (after e y) q (link_end_lem e ys (λ u m. some u (Memᴰ.tail m)))
  where
    by : (b : Bool) → no_ends ≡ ends (cond b y (first_or (link no_ends 0) (after e) ys)) → (no_ends ≡ next_after e ys → rest_after e ys ≡ []) → cond b (y ∷ rest_after e ys) (rest_after e ys) ≡ []
    by true p go = absurd (omega (arith, some y (Memᴰ.head refl), ap (λ (x : Edge). x.from.packed) p))
    by false p go = go p

-- an end with no node is no link's
pub no_link : (e : Edge) (xs : List Link) → Started xs → (next_after e xs).from.packed ≡ 0 → no_ends ≡ next_after e xs
no_link e [] some z = refl
no_link e (y ∷ ys) some z = by (after e y) z (no_link e ys (λ u m. some u (Memᴰ.tail m)))
  where
    by : (b : Bool) → (ends (cond b y (first_or (link no_ends 0) (after e) ys))).from.packed ≡ 0 → ((next_after e ys).from.packed ≡ 0 → no_ends ≡ next_after e ys) → no_ends ≡ ends (cond b y (first_or (link no_ends 0) (after e) ys))
    by true p go = absurd (omega (arith, some y (Memᴰ.head refl), p))
    by false p go = go p

-- the line of the one that was found, and then the lines of those left
pub link_lines_lem : {e : Edge} {xs : List Link} {f : Edge} → LinkStep e xs f → lines link_line (rest_after e xs) ≡ link_line (link f 0) ++ lines link_line (rest_after f xs)
link_lines_lem {e} {xs} {f} s =
    lines_more link_line s.rest ∙ ap (λ (bs : List ℕ). bs ++ lines link_line (rest_after f xs)) (link-ends s.this f (sym s.found))
