-- The nodes of a collapse, member by member.
use Prim.Native.Nat.{ℕ, ◌+◌, ◌-◌, ◌*◌, ◌^◌, ◌≤◌, ◌<◌, max}
use mathlib.Core.Path.{◌≡◌, refl, sym, ap, ap₂, ◌∙◌}
use mathlib.Core.Bool.{Bool, true, false, cond}
use mathlib.Core.List.{List, [], ◌∷◌, ◌++◌, map, Memᴰ}
use native.Mathlib.Omega.{arith}
use native.Mathlib.Numerals.{add-one}
use borrow.Author.Tests.{eq-eqb, ne_eqb, lt-ltb, le-ltb}
use lib.Dec.{eqb, ltb}
use lib.ListN.{length, drop, get_or, set, get_or-map, length-set, length-map, length-append, drop_of_length-le}
use lib.Seq.{drop-cons}
use Rattle.kit.specs.Layout.{encode}
use Rattle.kit.specs.Loops.{count, distinct}
use Rattle.std.specs.Prelude.{Some}
use Rattle.kit.proofs.Bools.{never, or_false_l, or_false_r}
use Rattle.kit.proofs.Laws.{length-decode, encode-decode, decode-at, decode-store, by_decode, rest-set, then-decode, then-drop}
use Rattle.kit.proofs.Lists.{map-one, any_same, distinct-map}
use Rattle.kit.proofs.Meaning.{any-map, distinct-first, distinct-rest, none_mem}
use Rattle.handle.specs.declared.Handle.{Handle}
use Rattle.handle.specs.Handle.{max_id, id_of, dir_of}
use Rattle.handle.proofs.Handles.{id-pack}
use Rattle.store.specs.Graph.{node, handle, node_layout, nodes_of, unpack_node}
use Rattle.store.specs.declared.Node.{Node}
use Rattle.store.specs.Views.{named, find_node, stored, node_named, largest}
use Rattle.formed.specs.WellFormed.{ids_once}
use Rattle.split.specs.Split.{cut, split_nodes}
use Rattle.split.proofs.Slot.{Slot, slot}
use Rattle.split.proofs.Nodes.{named_other, stored-old, stored-largest, once-split, largest-split}
use Rattle.merging.specs.Merging.{is_forward, mark_node}
use Rattle.merging.specs.Plan.{long_by, cut_by, prefix_by, alone_nodes, later_nodes}

-- the store of a mark, in the slot that a lookup found
module _ (n id at : ℕ) (l : List ℕ) (f : find_node id (nodes_of n l) ≡ Some at) (once : ids_once (nodes_of n l) ≡ true) (h : at < n) (room : 4 * n ≤ length l) where
  abbrev with_mark : Node → Node
  with_mark r = node r.id r.start r.len 1

  abbrev r : Node
  r = unpack_node (drop (4 * at) l)

  is : get_or (nodes_of n l) at r ≡ r
  is = decode-at node_layout n at l r h

  mark_stored : nodes_of n (set l (4 * at + 3) 1) ≡ map (mark_node id) (nodes_of n l)
  mark_stored =
      let s : Slot id (nodes_of n l) at = slot id at (nodes_of n l) f once in
      let t : named id r ≡ true = ap (named id) (sym is) ∙ s.here r in
      decode-store node_layout n at 3 l 1 with_mark (λ r t. refl) h (omega arith) room
      ∙ sym (map-one (mark_node id) (nodes_of n l) at r s.inside (λ j k o e. rw (s.others j k o e)) ∙ rw (is, t))

  pub mark_there : set l (4 * at + 3) 1 ≡ encode node_layout (map (mark_node id) (nodes_of n l)) ++ drop (4 * n) l
  mark_there =
      by_decode node_layout n (set l (4 * at + 3) 1) _ _ (simp length-set (omega arith)) mark_stored
      (rest-set node_layout n at 3 l 1 h (omega arith))

-- a node that is not stored is marked nowhere
pub mark_none : (id : ℕ) (rs : List Node) → stored id rs ≡ false → map (mark_node id) rs ≡ rs
mark_none id [] t = refl
mark_none id (r ∷ rs) t =
    rw (or_false_l (named id r) (stored id rs) t) (ap (λ (ts : List Node). r ∷ ts) (mark_none id rs (or_false_r (named id r) (stored id rs) t)))

split-length : (id k : ℕ) (rs : List Node) → length (split_nodes id k rs) ≡ length rs + 1
split-length id k rs = length-append (map (cut id k) rs) _ ∙ ap (λ (n : ℕ). n + 1) (length-map rs (cut id k))

-- a member by its length
module _ (p : ℕ) (rs : List Node) (m : Handle) where
  abbrev v : Node
  v = node_named (id_of m) rs

  pub cut-within : p ≤ v.len → cut_by p rs m ≤ v.len
  cut-within h = elim (is_forward m) as (λ b. cond b p (v.len - p) ≤ v.len) [ true ↦ h | false ↦ omega arith ]

  -- its prefix, in each case
  pub prefix_forward : (fresh : ℕ) → dir_of m ≡ 0 → prefix_by p rs fresh m ≡ m
  prefix_forward fresh e = rw (eq-eqb (dir_of m) 0 e) (elim (long_by p rs m) as (λ b. cond b m m ≡ m) [ true ↦ refl | false ↦ refl ])

  module _ (h : v.len ≤ p) where
    pub prefix_short : (fresh : ℕ) → prefix_by p rs fresh m ≡ m
    prefix_short fresh = rw (le-ltb p v.len h)

    alone_short : alone_nodes p rs m ≡ rs
    alone_short = rw (le-ltb p v.len h)

  module _ (h : p < v.len) where
    pub prefix_fresh : (fresh : ℕ) → (dir_of m ≡ 0 → ⊥) → id_of (prefix_by p rs fresh m) ≡ fresh
    prefix_fresh fresh n = rw (lt-ltb p v.len h, ne_eqb (dir_of m) 0 n) (id-pack fresh 1 (omega arith))

    alone-long : alone_nodes p rs m ≡ split_nodes (id_of m) (cut_by p rs m) rs
    alone-long = rw (lt-ltb p v.len h)

    pub alone-more : length (alone_nodes p rs m) ≡ length rs + 1
    alone-more = ap length alone-long ∙ split-length (id_of m) (cut_by p rs m) rs

-- a member that is not long leaves the array as it is
pub alone-kept : (p n : ℕ) (l : List ℕ) (m : Handle) → 4 * n ≤ length l → (node_named (id_of m) (nodes_of n l)).len ≤ p → (n ≡ length (alone_nodes p (nodes_of n l) m)) × (l ≡ encode node_layout (alone_nodes p (nodes_of n l) m) ++ drop (4 * n) l)
alone-kept p n l m room h =
    let e = alone_short p (nodes_of n l) m h in
    (sym (ap length e ∙ length-decode node_layout n l), rw e (sym (encode-decode node_layout n l room)))

-- a long one is split
pub alone-cut : (p n : ℕ) (l : List ℕ) (m : Handle) → p < (node_named (id_of m) (nodes_of n l)).len → {id k : ℕ} {l' : List ℕ} → id ≡ id_of m → k ≡ cut_by p (nodes_of n l) m → l' ≡ encode node_layout (split_nodes id k (nodes_of n l)) ++ drop (4 * (n + 1)) l → (n + 1 ≡ length (alone_nodes p (nodes_of n l) m)) × (l' ≡ encode node_layout (alone_nodes p (nodes_of n l) m) ++ drop (4 * (n + 1)) l)
alone-cut p n l m h i e q = (
  omega (arith, alone-more p (nodes_of n l) m h, length-decode node_layout n l),
  q ∙ rw (i, e, alone-long p (nodes_of n l) m h),
)

-- a mark changes no id, no start and no length
module _ (id : ℕ) where
  mark_keeps : (h : Node → ℕ) → ((r : Node) → h (node r.id r.start r.len 1) ≡ h r) → (r : Node) → h (mark_node id r) ≡ h r
  mark_keeps h e r = elim (named id r) as (λ b. h (cond b (node r.id r.start r.len 1) r) ≡ h r) [ true ↦ e r | false ↦ refl ]

  mark_id : (r : Node) → (mark_node id r).id ≡ r.id
  mark_id = mark_keeps (λ r. r.id) (λ r. refl)

  named_mark : (h : Node → ℕ) → ((r : Node) → h (mark_node id r) ≡ h r) → (j : ℕ) (rs : List Node) → h (node_named j (map (mark_node id) rs)) ≡ h (node_named j rs)
  named_mark h e j [] = refl
  named_mark h e j (r ∷ rs) =
      ap (λ (n : ℕ). h (cond (eqb n j) (mark_node id r) (node_named j (map (mark_node id) rs)))) (mark_id r)
      ∙ by (named j r) (named_mark h e j rs)
    where
      by : (b : Bool) → h (node_named j (map (mark_node id) rs)) ≡ h (node_named j rs) → h (cond b (mark_node id r) (node_named j (map (mark_node id) rs))) ≡ h (cond b r (node_named j rs))
      by true q = e r
      by false q = q

  named_start : (j : ℕ) (rs : List Node) → (node_named j (map (mark_node id) rs)).start ≡ (node_named j rs).start
  named_start = named_mark (λ r. r.start) (mark_keeps (λ r. r.start) (λ r. refl))

  named-len : (j : ℕ) (rs : List Node) → (node_named j (map (mark_node id) rs)).len ≡ (node_named j rs).len
  named-len = named_mark (λ r. r.len) (mark_keeps (λ r. r.len) (λ r. refl))

  mark_stored-same : (j : ℕ) (rs : List Node) → stored j (map (mark_node id) rs) ≡ stored j rs
  mark_stored-same j rs = any-map (named j) (mark_node id) rs ∙ any_same _ _ rs (λ r k. ap (λ (n : ℕ). eqb n j) (mark_id r))

  mark_once : (rs : List Node) → ids_once rs ≡ true → ids_once (map (mark_node id) rs) ≡ true
  mark_once rs once =
      distinct-map (λ r s. named r.id s) (λ r s. named r.id s) (mark_node id) rs once
      (λ a b k m e. ap₂ eqb (sym (mark_id b)) (sym (mark_id a)) ∙ e)

  mark_largest : (rs : List Node) → largest (map (mark_node id) rs) ≡ largest rs
  mark_largest [] = refl
  mark_largest (r ∷ rs) = ap₂ max (mark_id r) (mark_largest rs)

-- a member that is stored, before and after its prefix stands alone
module _ (p : ℕ) (rs : List Node) (m : Handle) where
  abbrev more : ℕ
  more = cond (long_by p rs m) 1 0

  abbrev after : Bool → List Node
  after b = cond b (split_nodes (id_of m) (cut_by p rs m) rs) rs

  alone-length : length (alone_nodes p rs m) ≡ length rs + more
  alone-length = elim (long_by p rs m) as (λ b. length (after b) ≡ length rs + cond b 1 0) [ true ↦ split-length (id_of m) (cut_by p rs m) rs | false ↦ omega arith ]

  module _ (once : ids_once rs ≡ true) (is : stored (id_of m) rs ≡ true) where
    pub alone-once : ids_once (alone_nodes p rs m) ≡ true
    alone-once = elim (long_by p rs m) as (λ b. ids_once (after b) ≡ true) [ true ↦ once-split (id_of m) (cut_by p rs m) rs once is | false ↦ once ]

    alone-largest : largest (alone_nodes p rs m) ≡ largest rs + more
    alone-largest = elim (long_by p rs m) as (λ b. largest (after b) ≡ largest rs + cond b 1 0) [ true ↦ largest-split (id_of m) (cut_by p rs m) rs | false ↦ omega arith ]

    module _ (j : ℕ) (t : stored j rs ≡ true) where
      alone-stored : stored j (alone_nodes p rs m) ≡ true
      alone-stored =
          elim (long_by p rs m) as (λ b. stored j (after b) ≡ true) [
            | true ↦ stored-old (id_of m) (cut_by p rs m) rs once is j (λ e. omega (arith, stored-largest j rs t)) ∙ t
            | false ↦ t
          ]

      alone-other : (j ≡ id_of m → ⊥) → node_named j (alone_nodes p rs m) ≡ node_named j rs
      alone-other n = elim (long_by p rs m) as (λ b. node_named j (after b) ≡ node_named j rs) [ true ↦ named_other (id_of m) (cut_by p rs m) rs once is j t n | false ↦ refl ]

-- an array whose first r nodes are rs, and that goes on as l does
module _ (rs : List Node) (r : ℕ) (l l' : List ℕ) (e : r ≡ length rs) (q : l' ≡ encode node_layout rs ++ drop (4 * r) l) where
  pub holds : nodes_of r l' ≡ rs
  holds = ap (nodes_of r) q ∙ then-decode node_layout r rs (drop (4 * r) l) (sym e)

  pub beyond : drop (4 * r) l' ≡ drop (4 * r) l
  beyond = ap (drop (4 * r)) q ∙ then-drop node_layout r r rs l (sym e) (omega arith)

-- the prefix, once it stands alone, is marked
pub mark_alone : (p n : ℕ) (l : List ℕ) (m : Handle) {fresh id r : ℕ} {l' l'' : List ℕ} → fresh ≡ largest (nodes_of n l) + 1 → id ≡ id_of (prefix_by p (nodes_of n l) fresh m) → r ≡ length (alone_nodes p (nodes_of n l) m) → l' ≡ encode node_layout (alone_nodes p (nodes_of n l) m) ++ drop (4 * r) l → l'' ≡ encode node_layout (map (mark_node id) (nodes_of r l')) ++ drop (4 * r) l' → (r ≡ length (later_nodes p (nodes_of n l) m)) × (l'' ≡ encode node_layout (later_nodes p (nodes_of n l) m) ++ drop (4 * r) l)
mark_alone p n l m {fresh} {id} {r} {l'} {l''} f i e q t =
    let rs = alone_nodes p (nodes_of n l) m in
    let j : id ≡ id_of (prefix_by p (nodes_of n l) (largest (nodes_of n l) + 1) m) = i ∙ ap (λ (x : ℕ). id_of (prefix_by p (nodes_of n l) x m)) f in
    (e ∙ sym (length-map rs _), t ∙ rw (holds rs r l l' e q, beyond rs r l l' e q, j))

-- how many members are long, where none of them has changed its length
long_same : (p : ℕ) (rs ts : List Node) (ms : List Handle) → ((m : Handle) → Memᴰ m ms → (node_named (id_of m) ts).len ≡ (node_named (id_of m) rs).len) → count (long_by p ts) ms ≡ count (long_by p rs) ms
long_same p rs ts [] h = refl
long_same p rs ts (m ∷ ms) h =
    ap₂ (λ (x y : ℕ). cond (ltb p x) 1 0 + y) (h m (Memᴰ.head refl)) (long_same p rs ts ms (λ a k. h a (Memᴰ.tail k)))

-- what the members that are left take for granted: each is stored, on a node of its own whose letters end in range, and
-- there are ids and room for those that are long
pub record Ready (p room : ℕ) (rs : List Node) (ms : List Handle) : Type 0 where
  pub once : ids_once rs ≡ true
  pub apart : distinct (λ u v. eqb (id_of u) (id_of v)) ms ≡ true
  pub there : (m : Handle) → Memᴰ m ms → stored (id_of m) rs ≡ true
  pub ends : (m : Handle) → Memᴰ m ms → (node_named (id_of m) rs).start + (node_named (id_of m) rs).len < 2 ^ 64
  pub fits : largest rs + count (long_by p rs) ms ≤ max_id
  pub space : 4 * (length rs + count (long_by p rs) ms) ≤ room

module _ (p room : ℕ) (rs : List Node) where
  module _ (m : Handle) (ms : List Handle) (r : Ready p room rs (m ∷ ms)) where
    first_there : stored (id_of m) rs ≡ true
    first_there = r.there m (Memᴰ.head refl)

    -- the others are on other nodes
    other : (h : Handle) → Memᴰ h ms → node_named (id_of h) (alone_nodes p rs m) ≡ node_named (id_of h) rs
    other h k =
        alone-other p rs m r.once first_there (id_of h) (r.there h (Memᴰ.tail k))
        (λ e. never (sym (eq-eqb (id_of m) (id_of h) (sym e)) ∙ none_mem (λ v. eqb (id_of m) (id_of v)) (distinct-first (λ u v. eqb (id_of u) (id_of v)) m ms r.apart) k))

    pub ready_alone : Ready p room (alone_nodes p rs m) ms
    ready_alone =
        let same = long_same p rs (alone_nodes p rs m) ms (λ h k. ap (λ (n : Node). n.len) (other h k)) in
        record {
          once = alone-once p rs m r.once first_there;
          apart = distinct-rest (λ u v. eqb (id_of u) (id_of v)) m ms r.apart;
          there = λ h k. alone-stored p rs m r.once first_there (id_of h) (r.there h (Memᴰ.tail k));
          ends = λ h k. rw (other h k) (r.ends h (Memᴰ.tail k));
          fits = omega (arith, r.fits, same, alone-largest p rs m r.once first_there);
          space = omega (arith, r.space, same, alone-length p rs m);
        }

    -- what the function for one member asks
    pub alone_space : 4 * length (alone_nodes p rs m) ≤ room
    alone_space = omega (arith, r.space, alone-length p rs m)

  ready_mark : (id : ℕ) (ms : List Handle) → Ready p room rs ms → Ready p room (map (mark_node id) rs) ms
  ready_mark id ms r =
      let same = long_same p rs (map (mark_node id) rs) ms (λ h k. named-len id (id_of h) rs) in
      record {
        once = mark_once id rs r.once;
        apart = r.apart;
        there = λ h k. mark_stored-same id (id_of h) rs ∙ r.there h k;
        ends = λ h k. rw (named_start id (id_of h) rs, named-len id (id_of h) rs) (r.ends h k);
        fits = omega (arith, r.fits, same, mark_largest id rs);
        space = omega (arith, r.space, same, length-map rs (mark_node id));
      }

pub later_more : (p : ℕ) (rs : List Node) (m : Handle) → length rs ≤ length (later_nodes p rs m)
later_more p rs m = omega (arith, length-map (alone_nodes p rs m) (mark_node (id_of (prefix_by p rs (largest rs + 1) m))), alone-length p rs m)

pub ready_later : (p room : ℕ) (rs : List Node) (m : Handle) (ms : List Handle) → Ready p room rs (m ∷ ms) → Ready p room (later_nodes p rs m) ms
ready_later p room rs m ms r = ready_mark p room (alone_nodes p rs m) _ ms (ready_alone p room rs m ms r)

-- the members, read as the loop reads them
pub left_member : (ns : List ℕ) (i : ℕ) → i < length ns → drop i (map handle ns) ≡ handle (get_or ns i 0) ∷ drop (i + 1) (map handle ns)
left_member ns i h =
    let k : i < length (map handle ns) = omega (arith, length-map ns handle) in
    rw (add-one, drop-cons (map handle ns) i (handle 0) k, get_or-map handle ns i 0)

pub no_member : (ns : List ℕ) (i : ℕ) → length ns ≤ i → drop i (map handle ns) ≡ []
no_member ns i h = drop_of_length-le (map handle ns) {i = i} (omega (arith, length-map ns handle))
