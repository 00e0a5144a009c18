-- Going along the live nodes and their directions: the laws of the search in no order.
use Prim.Native.Nat.{ℕ, ◌-◌, ◌≤◌, ◌<◌}
use mathlib.Core.Path.{◌≡◌, refl, sym, ap, ◌∙◌}
use mathlib.Core.Bool.{Bool, true, false}
use mathlib.Core.List.Memᴰ
use mathlib.Core.List.{List, Memᴰ}
use mathlib.Core.Logic.{⊎_elim}
use native.Mathlib.Omega.{arith}
use borrow.Author.Tests.{eq-eqb, eqb-true, ltb-true}
use lib.Dec.{eqb, ltb}
use lib.ListN.{take, drop}
use Rattle.kit.specs.Loops.{all, keep, lines}
use Rattle.kit.proofs.Bools.{tests, never, and_true_l, and_true_r, and_both}
use Rattle.kit.proofs.Meaning.{any_mem, any_some}
use Rattle.kit.proofs.Members.{in_keep, of_keep, in_lines, of_lines}
use Rattle.handle.specs.declared.Handle.{Handle}
use Rattle.handle.specs.Handle.{is_id, pack, id_of, dir_of}
use Rattle.handle.proofs.Handles.{handle_eq, id-pack}
use Rattle.store.specs.declared.Counts.{Counts}
use Rattle.store.specs.Graph.{nodes_of}
use Rattle.store.specs.declared.Node.{Node}
use Rattle.store.specs.Views.{named, unmarked_node, live_here, live_node}
use Rattle.store.proofs.Fields.{node_at, back_node}
use Rattle.formed.specs.WellFormed.{well_formed}
use Rattle.formed.proofs.Says.{formed_good, good_ids}
use Rattle.sides.specs.Sides.{next_above}
use Rattle.sides.specs.Search.{lowest}
use Rattle.sides.proofs.Rising.{Sorted, rising_sorted, of_rising, in_rising, next-lowest, rest_above, rest_all}
use Rattle.sides.proofs.Search.{lowest-append}
use Rattle.groups.proofs.Along.{formed_number}
use Rattle.choosing.specs.Scan.{both_ways, scan_order}

-- what the nodes from slot i on give
abbrev pub from_slot : ℕ → ℕ → List ℕ → ℕ → ℕ
from_slot above n l i = lowest above 0 (lines both_ways (keep unmarked_node (drop i (nodes_of n l))))

-- a turn of the loop, from slot i to the one before
module _ (above n : ℕ) (l : List ℕ) (i best : ℕ) (low : 0 < i) (high : i ≤ n) (e : best ≡ from_slot above n l i) where
  pub turn-live : unmarked_node (node_at l (i - 1)) ≡ true → lowest above best (both_ways (node_at l (i - 1))) ≡ from_slot above n l (i - 1)
  turn-live t = rw (e, back_node n i l low high, t) (sym (lowest-append above 0 (both_ways (node_at l (i - 1))) (lines both_ways (keep unmarked_node (drop i (nodes_of n l))))))

  pub turn_dead : unmarked_node (node_at l (i - 1)) ≡ false → best ≡ from_slot above n l (i - 1)
  turn_dead t = rw (back_node n i l low high, t) e

pub next-found : (above n : ℕ) (l : List ℕ) → from_slot above n l 0 ≡ next_above above (scan_order (nodes_of n l))
next-found above n l = sym (next-lowest above (lines both_ways (keep unmarked_node (nodes_of n l))))

-- who is scanned: the live nodes, either way round
pub scan_live : (rs : List Node) {u : Handle} → Memᴰ u (scan_order rs) → live_node (id_of u) rs ≡ true
scan_live rs {u} m =
    let r = of_lines both_ways (keep unmarked_node rs) (of_rising (lines both_ways (keep unmarked_node rs)) m) in
    let k = of_keep unmarked_node rs r.1 in
    any_mem (live_here (id_of u)) k.0 (and_both _ _ (eq-eqb r.0.id (id_of u) (sym (of_both r.0 r.2))) k.1)
  where
    of_both : (r : Node) → Memᴰ u (both_ways r) → id_of u ≡ r.id
    of_both r m =
        ⊎_elim
        (λ (e : u ≡ pack r.id 0). ap id_of e ∙ id-pack r.id 0 (omega arith))
        (λ k. ap id_of (Memᴰ.eq_of_singleton k) ∙ id-pack r.id 1 (omega arith))
        (Memᴰ.cases_cons m)

pub live_scan : (rs : List Node) (u : Handle) → live_node (id_of u) rs ≡ true → Memᴰ u (scan_order rs)
live_scan rs u t =
    let r = any_some (live_here (id_of u)) rs t in
    let e = eqb-true r.0.id (id_of u) (and_true_l (named (id_of u) r.0) (unmarked_node r.0) r.2) in
    in_rising (in_lines both_ways (in_keep unmarked_node r.1 (and_true_r (named (id_of u) r.0) (unmarked_node r.0) r.2)) (by r.0 e (eqb (dir_of u) 0) refl))
  where
    by : (r : Node) → r.id ≡ id_of u → (b : Bool) → eqb (dir_of u) 0 ≡ b → Memᴰ u (both_ways r)
    by r e true q = Memᴰ.head (handle_eq u (pack r.id 0) (omega (arith, tests)))
    by r e false q = Memᴰ.tail (Memᴰ.head (handle_eq u (pack r.id 1) (omega (arith, tests))))

pub scan_sorted : (rs : List Node) → Sorted (scan_order rs)
scan_sorted rs = rising_sorted (lines both_ways (keep unmarked_node rs))

-- in a well-formed store ids are in range, and none scanned has number 0
module _ (nodes letters links : List ℕ) (c : Counts) (t : well_formed nodes letters links c ≡ true) where
  pub formed_ids : all (λ r. is_id r.id) (nodes_of c.nodes nodes) ≡ true
  formed_ids = good_ids (take c.letters letters) (nodes_of c.nodes nodes) (formed_good nodes letters links c t).nodes_good

  scan_number : (u : Handle) → Memᴰ u (scan_order (nodes_of c.nodes nodes)) → 0 < u.packed
  scan_number u m = by (ltb 0 u.packed) refl
    where
      by : (b : Bool) → ltb 0 u.packed ≡ b → 0 < u.packed
      by true e = ltb-true 0 u.packed e
      by false e =
          let z : id_of u ≡ 0 = omega (arith, tests) in
          never (sym (sym (ap (λ (i : ℕ). live_node i (nodes_of c.nodes nodes)) z) ∙ scan_live (nodes_of c.nodes nodes) m) ∙ formed_number nodes letters links c t)

  pub scan_all : rest_above 0 (scan_order (nodes_of c.nodes nodes)) ≡ scan_order (nodes_of c.nodes nodes)
  scan_all = rest_all 0 (scan_order (nodes_of c.nodes nodes)) scan_number
