-- The neighbours on an oriented node's right, by unmarked links: the search for the next, and that those of m stay as they are
-- while links from x to them are added.
use Prim.Native.Nat.{ℕ, ◌-◌, ◌≤◌, ◌<◌}
use mathlib.Core.Path.{◌≡◌, refl, sym, ap, ◌∙◌}
use mathlib.Core.Bool.{Bool, true, false, cond, not}
use mathlib.Core.List.{List, [], ◌∷◌, ◌++◌, map, append-nil}
use native.Mathlib.Omega.{arith}
use borrow.Author.Tests.{ne_eqb, eqb-false, not-true}
use lib.Dec.{eqb}
use lib.ListN.{length, drop}
use Rattle.kit.specs.Loops.{all, keep, lines}
use Rattle.kit.proofs.Bools.{tests, and_both, and_true_l, and_true_r, not_of}
use Rattle.kit.proofs.Meaning.{keep_append, lines-append}
use Rattle.handle.specs.declared.Handle.{Handle}
use Rattle.handle.specs.declared.Edge.{Edge}
use Rattle.handle.specs.Handle.{id_of, flip, same_handle}
use Rattle.handle.specs.Edge.{edge, written}
use Rattle.handle.proofs.Handles.{id-flip, flip_packed}
use Rattle.store.specs.Graph.{link, ends, handle, links_of}
use Rattle.store.specs.declared.Link.{Link}
use Rattle.store.specs.Views.{linked}
use Rattle.store.proofs.Fields.{link_at, back_link}
use Rattle.formed.specs.WellFormed.{unmarked_link}
use Rattle.sides.specs.Sides.{right_ends, next_above}
use Rattle.sides.specs.Search.{lowest}
use Rattle.sides.proofs.Rising.{Step, rest_above, rising_sorted, rest_all, next-lowest, next-step, next_end}
use Rattle.sides.proofs.Search.{lowest-append}
use Rattle.split.proofs.Ends.{both_ends, both-written}
use Rattle.merging.specs.Merging.{add_link, add_links, read_as}
use Rattle.merging.specs.Plan.{right_in}
use Rattle.linking.specs.Fit.{ends_named}
use Rattle.linking.proofs.Growth.{named-right}

-- what the unmarked links from slot i on give
abbrev pub from_slot : Handle → ℕ → ℕ → List ℕ → ℕ → ℕ
from_slot v above n l i = lowest above 0 (lines (right_ends v) (keep unmarked_link (drop i (links_of n l))))

pub next-found : (v : Handle) (above n : ℕ) (l : List ℕ) → from_slot v above n l 0 ≡ next_above above (right_in (links_of n l) v)
next-found v above n l = sym (next-lowest above (lines (right_ends v) (keep unmarked_link (links_of n l))))

-- a turn of the search, from slot i to the one before
module _ (v : Handle) (above n : ℕ) (l : List ℕ) (i best : ℕ) (low : 0 < i) (high : i ≤ n) (e : best ≡ from_slot v above n l i) where
  pub turn-unmarked : unmarked_link (link_at l (i - 1)) ≡ true → lowest above best (right_ends v (link_at l (i - 1))) ≡ from_slot v above n l (i - 1)
  turn-unmarked t = rw (e, back_link n i l low high, t) (sym (lowest-append above 0 (right_ends v (link_at l (i - 1))) (lines (right_ends v) (keep unmarked_link (drop i (links_of n l))))))

  pub turn-marked : unmarked_link (link_at l (i - 1)) ≡ false → best ≡ from_slot v above n l (i - 1)
  turn-marked t = rw (back_link n i l low high, t) e

module _ (m : Handle) where
  -- a node other than m's
  abbrev other : ℕ → Bool
  other j = not (eqb j (id_of m))

  apart : (h : Handle) → other (id_of h) ≡ true → same_handle h m ≡ false
  apart h t = ne_eqb h.packed m.packed (λ e. eqb-false (id_of h) (id_of m) (not-true _ t) (omega arith))

  none_right : (r : Link) → both_ends other (ends r) ≡ true → right_ends m r ≡ []
  none_right r t =
      rw (
        apart r.from (and_true_l (other (id_of r.from)) (other (id_of r.to)) t),
        apart (flip r.to) (ap other (id-flip r.to) ∙ and_true_r (other (id_of r.from)) (other (id_of r.to)) t),
      )

  -- a link between two other nodes is on no side of m
  right_adds : (e : Edge) (rs : List Link) → both_ends other e ≡ true → right_in (add_link e rs) m ≡ right_in rs m
  right_adds e rs t = by (linked e rs)
    where
      by : (b : Bool) → right_in (cond b rs (rs ++ (link (written e) 0 ∷ []))) m ≡ right_in rs m
      by true = refl
      by false =
          rw (keep_append unmarked_link rs (link (written e) 0 ∷ []), lines-append (right_ends m), none_right (link (written e) 0) (both-written other e ∙ t), append-nil)

  module _ (x : Handle) (away : eqb (id_of x) (id_of m) ≡ false) where
    pub read-other : (y : Handle) → other (id_of (read_as m x y)) ≡ true
    read-other y = by (same_handle y m) (same_handle y (flip m)) refl refl
      where
        by : (a b : Bool) → same_handle y m ≡ a → same_handle y (flip m) ≡ b → other (id_of (cond a x (cond b (flip x) y))) ≡ true
        by true b e f = not_of _ away
        by false true e f = ap other (id-flip x) ∙ not_of _ away
        by false false e f = not_of _ (ne_eqb (id_of y) (id_of m) (λ q. omega (arith, tests, flip_packed m)))

    -- so m's neighbours stay as they are while x is linked to them
    pub right_stays : (y : Handle) (rs : List Link) → right_in (add_link (edge x (read_as m x y)) rs) m ≡ right_in rs m
    right_stays y rs = right_adds (edge x (read_as m x y)) rs (and_both _ _ (not_of _ away) (read-other y))

  -- going along them, from one above 0 to the next
  pub right-all : (rs : List Link) → all ends_named rs ≡ true → rest_above 0 (right_in rs m) ≡ right_in rs m
  right-all rs t = rest_all 0 (right_in rs m) (λ u k. let h = named-right rs m t k in omega (arith, tests))

  pub right-next : (rs : List Link) (above y : ℕ) → y ≡ next_above above (right_in rs m) → 0 < y → Step above (right_in rs m) y
  right-next rs above y e h = next-step above y (rising_sorted (lines (right_ends m) (keep unmarked_link rs))) e h

-- links from x to m's neighbours above a number: what is left to add
abbrev pub to_pass : Handle → Handle → ℕ → List Link → List Link
to_pass m x above rs = add_links x (map (read_as m x) (rest_above above (right_in rs m))) rs

module _ (m x : Handle) (rs : List Link) (above : ℕ) where
  -- one of them is added
  module _ (y : ℕ) (e : y ≡ next_above above (right_in rs m)) (away : eqb (id_of x) (id_of m) ≡ false) (h : 0 < y) where
    abbrev added : List Link
    added = add_link (edge x (read_as m x (handle y))) rs

    pub pass-one : to_pass m x above rs ≡ to_pass m x y added
    pass-one =
        ap (λ (hs : List Handle). add_links x (map (read_as m x) hs) rs) (right-next m rs above y e h).rest
        ∙ ap (λ (hs : List Handle). add_links x (map (read_as m x) (rest_above y hs)) added) (sym (right_stays m x away (handle y) rs))

    pub pass_less : length (rest_above y (right_in added m)) < length (rest_above above (right_in rs m))
    pass_less = rw (right_stays m x away (handle y) rs) (omega (arith, ap length (right-next m rs above y e h).rest))

  -- none is left
  pub pass_end : 0 ≡ next_above above (right_in rs m) → to_pass m x above rs ≡ rs
  pass_end e = ap (λ (hs : List Handle). add_links x (map (read_as m x) hs) rs) (next_end above (right_in rs m) e)
