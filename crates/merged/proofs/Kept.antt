-- A collapse keeps the marks of the links that were, and its own links have none.
use Prim.Native.Nat.{ℕ}
use mathlib.Core.Path.{◌≡◌, refl, sym, ap, ap₂, ◌∙◌}
use mathlib.Core.Bool.{true, false, cond}
use mathlib.Core.List.{List, [], ◌∷◌, ◌++◌, map}
use borrow.Author.Tests.{eqb-true}
use lib.Dec.{eqb}
use Rattle.kit.specs.Loops.{all}
use Rattle.kit.proofs.Bools.{and_both, and_true_l, and_true_r}
use Rattle.kit.proofs.Meaning.{all_append, all_map, all_mem, all_of}
use Rattle.handle.specs.declared.Handle.{Handle}
use Rattle.handle.specs.declared.Edge.{Edge}
use Rattle.handle.specs.Handle.{id_of, pack}
use Rattle.handle.specs.Edge.{edge, written}
use Rattle.store.specs.Graph.{Graph, link, ends}
use Rattle.store.specs.declared.Node.{Node}
use Rattle.store.specs.declared.Link.{Link}
use Rattle.store.specs.Views.{linked}
use Rattle.formed.specs.WellFormed.{unmarked_link}
use Rattle.split.specs.Split.{fresh_id, move_link, split}
use Rattle.merging.specs.Merging.{is_long, cut_at, alone, prefix_of, add_link, add_links, passed, later, later_all, collapsed}
use Rattle.merging.specs.Plan.{dim, remark}

-- slot by slot the old marks, and none on those that are new
pub data Kept : List Link → List Link → Type 0 where
  kept_new : {rs : List Link} → all unmarked_link rs ≡ true → Kept [] rs
  kept_old : {o r : Link} {old rs : List Link} → o.mark ≡ r.mark → Kept old rs → Kept (o ∷ old) (r ∷ rs)

pub kept_same : (rs : List Link) → Kept rs rs
kept_same [] = kept_new refl
kept_same (r ∷ rs) = kept_old refl (kept_same rs)

kept_map : (f : Link → Link) → ((r : Link) → r.mark ≡ (f r).mark) → {old rs : List Link} → Kept old rs → Kept old (map f rs)
kept_map f e (kept_new {rs} t) =
    kept_new (all_map unmarked_link f rs ∙ all_of (λ r. unmarked_link (f r)) rs (λ r m. ap (λ (n : ℕ). eqb n 0) (sym (e r)) ∙ all_mem unmarked_link t m))
kept_map f e (kept_old {r = r} q k) = kept_old (q ∙ e r) (kept_map f e k)

kept_snoc : (r : Link) → unmarked_link r ≡ true → {old rs : List Link} → Kept old rs → Kept old (rs ++ (r ∷ []))
kept_snoc r u (kept_new {rs} t) = kept_new (all_append unmarked_link rs (r ∷ []) ∙ and_both _ _ t (and_both _ true u refl))
kept_snoc r u (kept_old q k) = kept_old q (kept_snoc r u k)

module _ {old : List Link} where
  kept_add : (e : Edge) {rs : List Link} → Kept old rs → Kept old (add_link e rs)
  kept_add e {rs} k =
      elim (linked e rs) as (λ b. Kept old (cond b rs (rs ++ (link (written e) 0 ∷ [])))) [ true ↦ k | false ↦ kept_snoc (link (written e) 0) refl k ]

  kept_adds : (x : Handle) (ys : List Handle) {rs : List Link} → Kept old rs → Kept old (add_links x ys rs)
  kept_adds x [] k = k
  kept_adds x (y ∷ ys) k = kept_adds x ys (kept_add (edge x y) k)

  module _ (p : ℕ) where
    kept-alone : (g : Graph) (m : Handle) → Kept old g.links → Kept old (alone p g m).links
    kept-alone g m k =
        elim (is_long p g m) as (λ b. Kept old (cond b (split (id_of m) (cut_at p g m) g) g).links) [
          | true ↦ kept_snoc (link (edge (pack (id_of m) 0) (pack (fresh_id g) 0)) 0) refl (kept_map (move_link (pack (id_of m) 0) (pack (fresh_id g) 0)) (λ r. refl) k)
          | false ↦ k
        ]

    kept-all : (x : Handle) (ms : List Handle) (g : Graph) → Kept old g.links → Kept old (later_all p x g ms).links
    kept-all x [] g k = k
    kept-all x (m ∷ ms) g k = kept-all x ms (later p x g m) (kept_adds x (passed p x g m) (kept-alone g m k))

pub marks_kept : (p : ℕ) (g : Graph) (ms : List Handle) → Kept g.links (collapsed p g ms).links
marks_kept p g [] = kept_same g.links
marks_kept p g (m ∷ ms) = kept-all p (prefix_of p g m) ms (alone p g m) (kept-alone p g m (kept_same g.links))

-- so where no link has a mark none gets one, and the marks are put back on the links that were made without them
still_unmarked : {old rs : List Link} → Kept old rs → all unmarked_link old ≡ true → all unmarked_link rs ≡ true
still_unmarked (kept_new t) u = t
still_unmarked (kept_old {o} {r} {old} {rs} q k) u =
    and_both _ _ (ap (λ (n : ℕ). eqb n 0) (sym q) ∙ and_true_l (unmarked_link o) (all unmarked_link old) u) (still_unmarked k (and_true_r (unmarked_link o) (all unmarked_link old) u))

pub none_marked : (p : ℕ) (g : Graph) (ms : List Handle) → all unmarked_link g.links ≡ true → all unmarked_link (collapsed p g ms).links ≡ true
none_marked p g ms = still_unmarked (marks_kept p g ms)

module _ (nodes : List Node) where
  new_marks : (rs : List Link) → all unmarked_link rs ≡ true → remark [] (map (dim nodes) rs) ≡ rs
  new_marks [] t = refl
  new_marks (r ∷ rs) t =
      ap₂ (λ (n : ℕ) (l : List Link). link (ends r) n ∷ l) (sym (eqb-true r.mark 0 (and_true_l (unmarked_link r) (all unmarked_link rs) t))) (new_marks rs (and_true_r (unmarked_link r) (all unmarked_link rs) t))

  pub remarks : {old rs : List Link} → Kept old rs → remark old (map (dim nodes) rs) ≡ rs
  remarks (kept_new {rs} t) = new_marks rs t
  remarks (kept_old {r = r} q k) = ap₂ (λ (n : ℕ) (l : List Link). link (ends r) n ∷ l) q (remarks k)
