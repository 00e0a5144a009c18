-- Live nodes by rising id: the search in no order, and who is found.
use Prim.Native.Nat.{ℕ, ◌-◌, ◌≤◌, ◌<◌}
use mathlib.Core.Path.{◌≡◌, refl, sym, ap, ◌∙◌}
use mathlib.Core.Bool.{true, false}
use mathlib.Core.List.Memᴰ
use mathlib.Core.List.{List, map, Memᴰ}
use native.Mathlib.Omega.{arith}
use borrow.Author.Tests.{leb-true}
use lib.Dec.{leb, ltb}
use lib.ListN.{take, drop}
use Rattle.kit.specs.Loops.{all, keep}
use Rattle.kit.proofs.Bools.{and_true_l, and_true_r}
use Rattle.kit.proofs.Meaning.{all_mem}
use Rattle.kit.proofs.Members.{of_keep}
use Rattle.handle.specs.declared.Handle.{Handle}
use Rattle.handle.specs.Handle.{max_id, is_id, pack, id_of, dir_of}
use Rattle.handle.proofs.Handles.{id-pack, dir_pack}
use Rattle.store.specs.declared.Counts.{Counts}
use Rattle.store.specs.Graph.{handle, nodes_of}
use Rattle.store.specs.declared.Node.{Node}
use Rattle.store.specs.Views.{unmarked_node}
use Rattle.store.proofs.Fields.{node_at, back_node}
use Rattle.formed.proofs.Says.{good_ids}
use Rattle.sides.specs.Sides.{rising, next_above}
use Rattle.sides.specs.Search.{lower, lowest}
use Rattle.sides.proofs.Rising.{Sorted, rising_sorted, of_rising, next-lowest, rest_above, rest_all, Step}
use Rattle.affix.specs.Reading.{Readable}
use Rattle.writing.specs.GraphText.{live_segments}
use Rattle.writing.specs.TableText.{old_segments}
use Rattle.writing.proofs.Lists.{keep_all}

abbrev forwards : List Node → List Handle
forwards rs = map (λ r. pack r.id 0) rs

-- what the nodes from slot i on give
abbrev pub from_slot : ℕ → ℕ → List ℕ → ℕ → ℕ
from_slot above n l i = lowest above 0 (forwards (keep unmarked_node (drop i (nodes_of n l))))

-- a turn of the loop, from slot i to the one before
module _ (above n : ℕ) (l : List ℕ) (i best : ℕ) (low : 0 < i) (high : i ≤ n) (e : best ≡ from_slot above n l i) where
  pub turn-live : unmarked_node (node_at l (i - 1)) ≡ true → lower above (pack (node_at l (i - 1)).id 0).packed best ≡ from_slot above n l (i - 1)
  turn-live t = rw (e, back_node n i l low high, t)

  pub turn_dead : unmarked_node (node_at l (i - 1)) ≡ false → best ≡ from_slot above n l (i - 1)
  turn_dead t = rw (back_node n i l low high, t) e

pub next-found : (above n : ℕ) (l : List ℕ) → from_slot above n l 0 ≡ next_above above (live_segments (nodes_of n l))
next-found above n l = sym (next-lowest above (forwards (keep unmarked_node (nodes_of n l))))

abbrev pub IdsGood : List Node → Type 0
IdsGood rs = all (λ r. is_id r.id) rs ≡ true

pub readable_ids : (nodes letters : List ℕ) (c : Counts) → Readable nodes letters c → IdsGood (nodes_of c.nodes nodes)
readable_ids nodes letters c ok = good_ids (take c.letters letters) (nodes_of c.nodes nodes) ok.nodes_good

-- who is written: an unmarked node, forward
pub record Segment (rs : List Node) (u : Handle) : Type 0 where
  pub node : Node
  pub stands : Memᴰ node rs
  pub live : unmarked_node node ≡ true
  pub named_so : id_of u ≡ node.id
  pub forward : dir_of u ≡ 0

pub segment_of_lem : (rs : List Node) {u : Handle} → Memᴰ u (live_segments rs) → Segment rs u
segment_of_lem rs {u} m =
    let r = Memᴰ.of_map (λ (r : Node). pack r.id 0) (keep unmarked_node rs) (of_rising (forwards (keep unmarked_node rs)) m) in
    let k = of_keep unmarked_node rs r.1 in
    record {
      node = r.0;
      stands = k.0;
      live = k.1;
      named_so = ap id_of (sym r.2) ∙ id-pack r.0.id 0 (omega arith);
      forward = ap dir_of (sym r.2) ∙ dir_pack r.0.id 0 (omega arith);
    }

pub segments_sorted : (rs : List Node) → Sorted (live_segments rs)
segments_sorted rs = rising_sorted (forwards (keep unmarked_node rs))

module _ (rs : List Node) (ids : IdsGood rs) where
  pub segment_id_lem : {u : Handle} → Memᴰ u (live_segments rs) → (1 ≤ id_of u) × (id_of u ≤ max_id)
  segment_id_lem {u} m =
      let s = segment_of_lem rs m in
      let r = s.node in
      let t : is_id r.id ≡ true = all_mem (λ (x : Node). is_id x.id) ids s.stands in
      let low = leb-true 1 r.id (and_true_l (leb 1 r.id) (leb r.id max_id) t) in
      let high = leb-true r.id max_id (and_true_r (leb 1 r.id) (leb r.id max_id) t) in
      (omega (arith, s.named_so), omega (arith, s.named_so))

  -- so going along them starts at 0
  pub segments-all : rest_above 0 (live_segments rs) ≡ live_segments rs
  segments-all = rest_all 0 (live_segments rs) (λ u m. omega (arith, (segment_id_lem m).0))

-- a turn found a segment
pub step_member : {above n : ℕ} {xs : List Handle} → Step above xs n → Memᴰ (handle n) xs
step_member {above} {n} {xs} s = (of_keep (λ (h : Handle). ltb above h.packed) xs {a = handle n} (rw s.rest (Memᴰ.head refl))).0

-- where no node is marked, these are all
pub live-old : (rs : List Node) → all unmarked_node rs ≡ true → live_segments rs ≡ old_segments rs
live-old rs t = ap (λ (l : List Node). rising (forwards l)) (keep_all unmarked_node rs (λ r m. all_mem unmarked_node t m))
