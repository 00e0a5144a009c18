-- The links that a text says: each stored once in its written form, unmarked, between stored nodes, and no other.
use Prim.Native.Nat.{ℕ}
use mathlib.Core.Path.{◌≡◌, refl, sym, ap, ◌∙◌}
use mathlib.Core.Bool.{Bool, true, false, cond}
use mathlib.Core.List.Memᴰ
use mathlib.Core.List.{List, [], ◌∷◌, ◌++◌, Memᴰ}
use mathlib.Core.Logic.{◌⊎◌, inl, inr, ⊎_elim}
use native.Mathlib.Omega.{arith}
use Rattle.kit.specs.Loops.{all}
use Rattle.kit.proofs.Bools.{never, and_both, not_true_false}
use Rattle.kit.proofs.Lists.{distinct_snoc}
use Rattle.kit.proofs.Meaning.{all_append, any_some, none_mem}
use Rattle.handle.specs.declared.Edge.{Edge}
use Rattle.handle.specs.Handle.{id_of}
use Rattle.handle.specs.Edge.{written, turned, same_ends}
use Rattle.handle.proofs.Handles.{id-flip}
use Rattle.handle.proofs.Edges.{same_ends_lem, same-written, written-written, written_either}
use Rattle.store.specs.Graph.{Graph, link, ends}
use Rattle.store.specs.declared.Node.{Node}
use Rattle.store.specs.declared.Link.{Link}
use Rattle.store.specs.Views.{stored, joins, linked}
use Rattle.formed.specs.WellFormed.{good_link, links_once, unmarked_link}
use Rattle.formed.proofs.Says.{says_link}
use Rattle.text.specs.Fields.{edge_of}
use Rattle.gfa.specs.Narrowings.{links_into}
use Rattle.gfa.proofs.ReadGrowth.{more_link}

-- links that are well formed and unmarked
pub record Plain (nodes : List Node) (rs : List Link) : Type 0 where
  pub good : all (good_link nodes) rs ≡ true
  pub once : links_once rs ≡ true
  pub marks : all unmarked_link rs ≡ true

-- both ends of a line's link are stored
pub record Ended (nodes : List Node) (e : Edge) : Type 0 where
  pub from_stored : stored (id_of e.from) nodes ≡ true
  pub to_stored : stored (id_of e.to) nodes ≡ true

module _ (nodes : List Node) (e : Edge) (h : Ended nodes e) where
  ended-turned : Ended nodes (turned e)
  ended-turned =
      record {
        from_stored = ap (λ (i : ℕ). stored i nodes) (id-flip e.to) ∙ h.to_stored;
        to_stored = ap (λ (i : ℕ). stored i nodes) (id-flip e.from) ∙ h.from_stored;
      }

  ended-written : Ended nodes (written e)
  ended-written = ⊎_elim (λ p. rw p h) (λ p. rw p ended-turned) (written_either e)

  good_new : good_link nodes (link (written e) 0) ≡ true
  good_new =
      says_link nodes (link (written e) 0) (record {
        mark_bit = omega arith;
        as_written = written-written e;
        from_stored = ended-written.from_stored;
        to_stored = ended-written.to_stored;
      })

-- what a stored link's ends are the written form of is linked
joins-written : (e : Edge) (r : Link) → ends r ≡ written e → joins e r ≡ true
joins-written e r p = same-written e (ends r) (sym (written-written e) ∙ ap written (sym p))

module _ (e : Edge) (rs : List Link) where
  abbrev after : Bool → List Link
  after b = cond b rs (rs ++ (link (written e) 0 ∷ []))

  once-new : linked e rs ≡ false → links_once rs ≡ true → links_once (after false) ≡ true
  once-new f t =
      distinct_snoc _ rs (link (written e) 0) t (λ a m.
      not_true_false (same_ends (ends a) (written e)) (λ s.
      never (sym (joins-written e a (same_ends_lem (ends a) (written e) s)) ∙ none_mem (joins e) f m)))

  plain_more : (nodes : List Node) → Ended nodes e → Plain nodes rs → Plain nodes (after (linked e rs))
  plain_more nodes h p = by (linked e rs) refl
    where
      by : (b : Bool) → linked e rs ≡ b → Plain nodes (after b)
      by true q = p
      by false q =
          record {
            good = all_append (good_link nodes) rs (link (written e) 0 ∷ []) ∙ and_both _ _ p.good (and_both _ true (good_new nodes e h) refl);
            once = once-new q p.once;
            marks = all_append unmarked_link rs (link (written e) 0 ∷ []) ∙ and_both _ true p.marks refl;
          }

  -- the link is there; those before it stay; none but it is new
  there : (r : Link) × Memᴰ r (after (linked e rs)) × (joins e r ≡ true)
  there = by (linked e rs) refl
    where
      by : (b : Bool) → linked e rs ≡ b → (r : Link) × Memᴰ r (after b) × (joins e r ≡ true)
      by true q = any_some (joins e) rs q
      by false q = (link (written e) 0, Memᴰ.append_right rs (Memᴰ.head refl), joins-written e (link (written e) 0) refl)

  stays : {r : Link} → Memᴰ r rs → Memᴰ r (after (linked e rs))
  stays {r} m = by (linked e rs)
    where
      by : (b : Bool) → Memᴰ r (after b)
      by true = m
      by false = Memᴰ.append_left (link (written e) 0 ∷ []) m

  whence : {r : Link} → Memᴰ r (after (linked e rs)) → Memᴰ r rs ⊎ (joins e r ≡ true)
  whence {r} m = by (linked e rs) m
    where
      by : (b : Bool) → Memᴰ r (after b) → Memᴰ r rs ⊎ (joins e r ≡ true)
      by true k = inl k
      by false k = ⊎_elim inl (λ j. inr (joins-written e r (ap ends (Memᴰ.eq_of_singleton j)))) (Memᴰ.append_cases rs k)

-- all lines
pub links-plain : (g : Graph) (ks : List (List ℕ)) → ((k : List ℕ) → Memᴰ k ks → Ended g.nodes (edge_of k)) → Plain g.nodes g.links → Plain g.nodes (links_into g ks).links
links-plain g [] h p = p
links-plain g (k ∷ ks) h p =
    links-plain (more_link g k) ks (λ j m. h j (Memᴰ.tail m)) (plain_more (edge_of k) g.links g.nodes (h k (Memᴰ.head refl)) p)

links_stay : (g : Graph) (ks : List (List ℕ)) {r : Link} → Memᴰ r g.links → Memᴰ r (links_into g ks).links
links_stay g [] m = m
links_stay g (k ∷ ks) m = links_stay (more_link g k) ks (stays (edge_of k) g.links m)

pub links_held : {k : List ℕ} (g : Graph) (ks : List (List ℕ)) → Memᴰ k ks → (r : Link) × Memᴰ r (links_into g ks).links × (joins (edge_of k) r ≡ true)
links_held {k} g ks (Memᴰ.head {x} {xs} q) =
    let f = there (edge_of x) g.links in
    (f.0, links_stay (more_link g x) xs f.1, ap (λ (j : List ℕ). joins (edge_of j) f.0) q ∙ f.2)
links_held g ks (Memᴰ.tail {x} {xs} m) = links_held (more_link g x) xs m

pub links_whence : (g : Graph) (ks : List (List ℕ)) {r : Link} → Memᴰ r (links_into g ks).links → Memᴰ r g.links ⊎ ((k : List ℕ) × Memᴰ k ks × (joins (edge_of k) r ≡ true))
links_whence g [] m = inl m
links_whence g (k ∷ ks) {r} m = ⊎_elim first (λ f. inr (f.0, Memᴰ.tail f.1, f.2)) (links_whence (more_link g k) ks m)
  where
    first : Memᴰ r (more_link g k).links → Memᴰ r g.links ⊎ ((j : List ℕ) × Memᴰ j (k ∷ ks) × (joins (edge_of j) r ≡ true))
    first n = ⊎_elim inl (λ t. inr (k, Memᴰ.head refl, t)) (whence (edge_of k) g.links n)
