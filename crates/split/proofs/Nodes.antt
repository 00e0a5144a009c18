-- The nodes before and after a split.
use Prim.Native.Nat.{ℕ, ◌+◌, ◌-◌, ◌≤◌, ◌<◌, max}
use mathlib.Core.Path.{◌≡◌, refl, sym, ap, ap₂, ◌∙◌, fun_ext}
use mathlib.Core.Bool.{Bool, true, false, cond, ◌&&◌, ◌||◌, or-false}
use mathlib.Core.List.Memᴰ
use mathlib.Core.List.{List, [], ◌∷◌, ◌++◌, map, map-append, map-map, Memᴰ}
use native.Mathlib.Omega.{arith}
use borrow.Author.Tests.{eq-eqb, ne_eqb, eqb-true}
use lib.Dec.{eqb}
use lib.ListN.{get_or, set, take, drop}
use lib.Seq.{take-add, drop-drop}
use Rattle.std.specs.Prelude.{Option, Some, None}
use Rattle.kit.specs.Loops.{any}
use Rattle.kit.proofs.Bools.{tests, never, same_test, and_both, and_true_l, and_true_r, not_true_false}
use Rattle.kit.proofs.Meaning.{any_append, any-map, any_mem, any_some, none_mem, none_of, nothing_any, sum-append, distinct-first, distinct-rest}
use Rattle.store.specs.Graph.{node}
use Rattle.store.specs.declared.Node.{Node}
use Rattle.store.specs.Views.{named, find_node, stored, node_named, unmarked_node, live_node, largest, live_len, live_letters, span}
use Rattle.formed.specs.WellFormed.{ids_once}
use Rattle.split.specs.Split.{cut, rest, split_nodes}
use Rattle.kit.proofs.Lists.{any_same, sum-set, distinct_snoc, distinct-map}
use Rattle.split.proofs.Slot.{Slot, slot, cut-set, named-at}

abbrev same_id : Node → Node → Bool
same_id r s = named r.id s

-- no id is above the largest
pub stored-largest : (j : ℕ) (rs : List Node) → stored j rs ≡ true → j ≤ largest rs
stored-largest j [] t = never (sym t)
stored-largest j (r ∷ rs) t = by (named j r) refl t (stored-largest j rs)
  where
    by : (b : Bool) → named j r ≡ b → (b || stored j rs) ≡ true → (stored j rs ≡ true → j ≤ largest rs) → j ≤ largest (r ∷ rs)
    by true e q go = omega (arith, tests)
    by false e q go = omega (arith, go q)

pub mem_largest : {r : Node} {rs : List Node} → Memᴰ r rs → r.id ≤ largest rs
mem_largest {r} {rs} m = stored-largest r.id rs (any_mem (named r.id) m (eq-eqb r.id r.id refl))

pub fresh-new : (rs : List Node) → stored (largest rs + 1) rs ≡ false
fresh-new rs = not_true_false _ (λ t. omega (arith, stored-largest (largest rs + 1) rs t))

-- an id that is stored names a node of the list, which has that id
pub record Names (j : ℕ) (rs : List Node) : Type 0 where
  pub mem : Memᴰ (node_named j rs) rs
  pub has : (node_named j rs).id ≡ j

pub names : (j : ℕ) (rs : List Node) → stored j rs ≡ true → Names j rs
names j [] t = never (sym t)
names j (r ∷ rs) t = by (named j r) refl t (names j rs)
  where
    by : (b : Bool) → named j r ≡ b → (b || stored j rs) ≡ true → (stored j rs ≡ true → Names j rs) → Names j (r ∷ rs)
    by true e q go = record { mem = rw e (Memᴰ.head refl); has = rw e (eqb-true r.id j e) }
    by false e q go = let n = go q in record { mem = rw e (Memᴰ.tail n.mem); has = rw e n.has }

-- and where no id is given twice, every node is the one that its id names
pub only : {r : Node} (rs : List Node) → ids_once rs ≡ true → Memᴰ r rs → node_named r.id rs ≡ r
only {r = r} [] t m = elim m [ ]
only {r} (x ∷ rs) t (Memᴰ.head e) = rw (eq-eqb x.id r.id (ap (λ (n : Node). n.id) (sym e))) (sym e)
only {r} (x ∷ rs) t (Memᴰ.tail m) =
    let n : named x.id r ≡ false = none_mem (named x.id) (distinct-first same_id x rs t) m in
    rw (ne_eqb x.id r.id (λ e. never (sym (eq-eqb r.id x.id (sym e)) ∙ n)))
    (only rs (distinct-rest same_id x rs t) m)

slot_of : (id : ℕ) (rs : List Node) → ids_once rs ≡ true → stored id rs ≡ true → (at : ℕ) × Slot id rs at
slot_of id rs once t = by (find_node id rs) refl
  where
    by : (o : Option ℕ) → find_node id rs ≡ o → (at : ℕ) × Slot id rs at
    by (Some i) e = (i, slot id i rs e once)
    by None e = never (sym t ∙ nothing_any (named id) 0 rs e)

-- a name of a node with letters is stored
pub long-stored : (j : ℕ) (rs : List Node) → 0 < (node_named j rs).len → stored j rs ≡ true
long-stored j [] h = absurd (omega arith)
long-stored j (r ∷ rs) h = by (named j r) h (long-stored j rs)
  where
    by : (b : Bool) → 0 < (cond b r (node_named j rs)).len → (0 < (node_named j rs).len → stored j rs ≡ true) → (b || stored j rs) ≡ true
    by true q go = refl
    by false q go = go q

pub live-named : (j : ℕ) (rs : List Node) → ids_once rs ≡ true → stored j rs ≡ true → live_node j rs ≡ unmarked_node (node_named j rs)
live-named j rs once t = same_test _ _ there back
  where
    there : live_node j rs ≡ true → unmarked_node (node_named j rs) ≡ true
    there q =
        let a = any_some (λ r. named j r && unmarked_node r) rs q in
        let r = a.0 in
        let i : r.id ≡ j = eqb-true _ _ (and_true_l (named j r) (unmarked_node r) a.2) in
        let e : node_named j rs ≡ r = ap (λ (n : ℕ). node_named n rs) (sym i) ∙ only rs once a.1 in
        ap unmarked_node e ∙ and_true_r (named j r) (unmarked_node r) a.2

    back : unmarked_node (node_named j rs) ≡ true → live_node j rs ≡ true
    back q = let n = names j rs t in any_mem (λ r. named j r && unmarked_node r) n.mem (and_both _ _ (eq-eqb _ _ n.has) q)

-- a cut changes no id and no mark
module _ (id k : ℕ) where
  pub cut-id : (r : Node) → (cut id k r).id ≡ r.id
  cut-id r = elim (named id r) as (λ b. (cond b (node r.id r.start k r.mark) r).id ≡ r.id) [ true ↦ refl | false ↦ refl ]

  pub cut_mark : (r : Node) → (cut id k r).mark ≡ r.mark
  cut_mark r = elim (named id r) as (λ b. (cond b (node r.id r.start k r.mark) r).mark ≡ r.mark) [ true ↦ refl | false ↦ refl ]

  -- a test of id and mark, over the nodes after the split
  any-cut : (p : ℕ → ℕ → Bool) (rs ts : List Node) → any (λ r. p r.id r.mark) (map (cut id k) rs ++ ts) ≡ (any (λ r. p r.id r.mark) rs || any (λ r. p r.id r.mark) ts)
  any-cut p rs ts =
      any_append (λ r. p r.id r.mark) (map (cut id k) rs) ts
      ∙ ap (λ (b : Bool). b || any (λ r. p r.id r.mark) ts)
      (any-map (λ r. p r.id r.mark) (cut id k) rs
      ∙ any_same _ _ rs (λ r m. ap₂ p (cut-id r) (cut_mark r)))

  -- what a cut leaves, list by list
  pub map-cut : (h : Node → ℕ) → ((r : Node) → h (cut id k r) ≡ h r) → (rs ts : List Node) → map h (map (cut id k) rs ++ ts) ≡ map h rs ++ map h ts
  map-cut h e rs ts =
      map-append h (map (cut id k) rs) ts
      ∙ ap (λ (l : List ℕ). l ++ map h ts) (map-map h (cut id k) rs ∙ ap (λ (f : Node → ℕ). map f rs) (fun_ext e))

  largest-cut : (rs ts : List Node) → largest (map (cut id k) rs ++ ts) ≡ max (largest rs) (largest ts)
  largest-cut [] ts = omega arith
  largest-cut (r ∷ rs) ts = omega (arith, cut-id r, largest-cut rs ts)

  pub largest-split : (rs : List Node) → largest (split_nodes id k rs) ≡ largest rs + 1
  largest-split rs = omega (arith, largest-cut rs (rest (largest rs + 1) k (node_named id rs) ∷ []))

  -- the node with the id j is cut, or stands after the others
  pub named-cut : (j : ℕ) (rs ts : List Node) → node_named j (map (cut id k) rs ++ ts) ≡ cond (stored j rs) (cut id k (node_named j rs)) (node_named j ts)
  named-cut j [] ts = refl
  named-cut j (r ∷ rs) ts =
      ap (λ (n : ℕ). cond (eqb n j) (cut id k r) (node_named j (map (cut id k) rs ++ ts))) (cut-id r)
      ∙ by (named j r) (named-cut j rs ts)
    where
      by : (b : Bool) → node_named j (map (cut id k) rs ++ ts) ≡ cond (stored j rs) (cut id k (node_named j rs)) (node_named j ts) → cond b (cut id k r) (node_named j (map (cut id k) rs ++ ts)) ≡ cond (b || stored j rs) (cut id k (cond b r (node_named j rs))) (node_named j ts)
      by true e = refl
      by false e = e

  -- where the id is stored once
  module _ (rs : List Node) (once : ids_once rs ≡ true) (is : stored id rs ≡ true) where
    abbrev v : Node
    v = node_named id rs

    abbrev fresh : ℕ
    fresh = largest rs + 1

    pub cut-v : cut id k v ≡ node v.id v.start k v.mark
    cut-v = rw (eq-eqb v.id id (names id rs is).has)

    -- 01: v keeps k letters; the fresh id has the rest; the others are as they were
    pub named-v : node_named id (split_nodes id k rs) ≡ node v.id v.start k v.mark
    named-v = named-cut id rs (rest fresh k v ∷ []) ∙ rw is cut-v

    pub named-fresh : node_named fresh (split_nodes id k rs) ≡ rest fresh k v
    named-fresh = named-cut fresh rs (rest fresh k v ∷ []) ∙ rw (fresh-new rs, eq-eqb fresh fresh refl)

    pub named_other : (j : ℕ) → stored j rs ≡ true → (j ≡ id → ⊥) → node_named j (split_nodes id k rs) ≡ node_named j rs
    named_other j t n =
        let h : (node_named j rs).id ≡ j = (names j rs t).has in
        named-cut j rs (rest fresh k v ∷ [])
        ∙ rw (t, ne_eqb (node_named j rs).id id (λ e. n (sym h ∙ e)))

    -- the ids that are stored, and live, after the split
    pub stored-old : (j : ℕ) → (j ≡ fresh → ⊥) → stored j (split_nodes id k rs) ≡ stored j rs
    stored-old j n = any-cut (λ i m. eqb i j) rs (rest fresh k v ∷ []) ∙ rw (ne_eqb fresh j (λ e. n (sym e))) (or-false _)

    pub stored-fresh : stored fresh (split_nodes id k rs) ≡ true
    stored-fresh = any-cut (λ i m. eqb i fresh) rs (rest fresh k v ∷ []) ∙ rw (fresh-new rs, eq-eqb fresh fresh refl)

    pub live-old : (j : ℕ) → (j ≡ fresh → ⊥) → live_node j (split_nodes id k rs) ≡ live_node j rs
    live-old j n = any-cut (λ i m. eqb i j && eqb m 0) rs (rest fresh k v ∷ []) ∙ rw (ne_eqb fresh j (λ e. n (sym e))) (or-false _)

    pub live-fresh : live_node fresh (split_nodes id k rs) ≡ live_node id rs
    live-fresh =
        let none : live_node fresh rs ≡ false = none_of (λ r. named fresh r && unmarked_node r) rs (λ r m. ap (λ (b : Bool). b && unmarked_node r) (none_mem (named fresh) (fresh-new rs) m)) in
        any-cut (λ i m. eqb i fresh && eqb m 0) rs (rest fresh k v ∷ []) ∙ rw (none, eq-eqb fresh fresh refl) (or-false _ ∙ sym (live-named id rs once is))

    -- no id is given twice
    pub once-split : ids_once (split_nodes id k rs) ≡ true
    once-split =
        distinct_snoc same_id (map (cut id k) rs) (rest fresh k v)
        (distinct-map same_id same_id (cut id k) rs once (λ a b m n e. ap₂ eqb (sym (cut-id b)) (sym (cut-id a)) ∙ e))
        (λ a m. let s = Memᴰ.of_map (cut id k) rs m in ne_eqb fresh a.id (λ e. omega (arith, ap (λ (r : Node). r.id) s.2, cut-id s.0, mem_largest s.1)))

    -- the letters of the live nodes
    parts : k ≤ v.len → live_len (cut id k v) + live_len (rest fresh k v) ≡ live_len v
    parts h =
        ap (λ (r : Node). live_len r + live_len (rest fresh k v)) cut-v
        ∙ elim (unmarked_node v) as (λ b. cond b k 0 + cond b (v.len - k) 0 ≡ cond b v.len 0) [ true ↦ omega arith | false ↦ omega arith ]

    pub letters-split : k ≤ v.len → live_letters (split_nodes id k rs) ≡ live_letters rs
    letters-split h =
        let s = slot_of id rs once is in
        let at : ℕ = s.0 in
        let e : get_or rs at v ≡ v = sym (named-at id at rs v s.1) in
        let c : map (cut id k) rs ≡ set rs at (cut id k v) = cut-set s.1 k v ∙ ap (λ (r : Node). set rs at (cut id k r)) e in
        let m : live_letters (set rs at (cut id k v)) + live_len v ≡ live_letters rs + live_len (cut id k v) =
        ap (λ (r : Node). live_letters (set rs at (cut id k v)) + live_len r) (sym e) ∙ sum-set live_len rs at (cut id k v) v s.1.inside in
        omega (arith, sum-append live_len (map (cut id k) rs) (rest fresh k v ∷ []), ap live_letters c, m, parts h)

-- the letters of a node are those of its two parts, in a row
pub span-split : (letters : List ℕ) (fresh k : ℕ) (r : Node) → k ≤ r.len → span letters r ≡ span letters (node r.id r.start k r.mark) ++ span letters (rest fresh k r)
span-split letters fresh k r h =
    let e : r.len ≡ k + (r.len - k) = omega arith in
    ap (λ (n : ℕ). take n (drop r.start letters)) e
    ∙ take-add k (r.len - k) (drop r.start letters)
    ∙ rw drop-drop
