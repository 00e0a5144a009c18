-- The members one after another: what the next one finds, and that those after it find the same.
use Prim.Native.Nat.{ℕ, ◌+◌, ◌≤◌}
use mathlib.Core.Path.{◌≡◌, sym}
use mathlib.Core.Bool.{Bool, true, false, cond, not}
use mathlib.Core.List.{List, ◌∷◌}
use native.Mathlib.Omega.{arith}
use borrow.Author.Tests.{le-leb, leb-true, ne_eqb, not-true}
use lib.Dec.{eqb, leb}
use Rattle.kit.specs.Loops.{all, count}
use Rattle.kit.proofs.Bools.{tests, never, and_true_l, and_true_r, and_both, not_of}
use Rattle.kit.proofs.Meaning.{all_of, all_mem, none_mem, distinct-first}
use Rattle.handle.specs.declared.Handle.{Handle}
use Rattle.handle.specs.Handle.{max_id, id_of, pack}
use Rattle.handle.proofs.Handles.{id-pack}
use Rattle.store.specs.declared.Node.{Node}
use Rattle.store.specs.declared.Link.{Link}
use Rattle.store.specs.Views.{largest}
use Rattle.merging.specs.Merging.{is_forward}
use Rattle.merging.specs.Plan.{long_by, fresh_after, prefix_by, alone_links, later_links}
use Rattle.linking.specs.Fit.{is_named, Later, Plans}
use Rattle.linking.proofs.Growth.{named-later, named-alone}

-- a long member takes a fresh id
enough : (long : Bool) (fresh more top : ℕ) → fresh + (cond long 1 0 + more) ≤ top + 1 → (long ≡ true → fresh ≤ top) × (cond long (fresh + 1) fresh + more ≤ top + 1) × (fresh ≤ cond long (fresh + 1) fresh)
enough true fresh more top h = (λ _. omega arith, omega arith, omega arith)
enough false fresh more top h = (λ e. never (sym e), omega arith, omega arith)

-- a later member
pub record Round (p : ℕ) (nodes : List Node) (x : Handle) (fresh : ℕ) (rs : List Link) (m : Handle) (ms : List Handle) : Type 0 where
  pub low : 1 ≤ id_of m
  pub high : id_of m ≤ max_id
  pub away : eqb (id_of x) (id_of m) ≡ false
  pub free : long_by p nodes m ≡ true → fresh ≤ max_id
  pub next : Later p nodes x (fresh_after p nodes fresh m) (later_links p nodes x fresh rs m) ms

pub round : (p : ℕ) (nodes : List Node) (x : Handle) (fresh : ℕ) (rs : List Link) (m : Handle) (ms : List Handle) → Later p nodes x fresh rs (m ∷ ms) → Round p nodes x fresh rs m ms
round p nodes x fresh rs m ms l =
    let id = and_true_l (is_named max_id m) (all (is_named max_id) ms) l.ids in
    let low : 1 ≤ id_of m = leb-true 1 (id_of m) (and_true_l (leb 1 (id_of m)) (leb (id_of m) max_id) id) in
    let e = enough (long_by p nodes m) fresh (count (long_by p nodes) ms) max_id l.enough in
    record {
      low = low;
      high = leb-true (id_of m) max_id (and_true_r (leb 1 (id_of m)) (leb (id_of m) max_id) id);
      away = not-true _ (and_true_l (not (eqb (id_of x) (id_of m))) (all (λ m. not (eqb (id_of x) (id_of m))) ms) l.apart);
      free = e.0;
      next = record {
        shared = l.shared;
        low = omega (arith, l.low, e.2);
        enough = e.1;
        ids = and_true_r (is_named max_id m) (all (is_named max_id) ms) l.ids;
        apart = and_true_r (not (eqb (id_of x) (id_of m))) (all (λ m. not (eqb (id_of x) (id_of m))) ms) l.apart;
        ends = named-later (long_by p nodes m) x fresh rs m l.shared low l.low l.ends;
      };
    }

-- the first member; what is fresh then is above every member's id
pub record First (p : ℕ) (nodes : List Node) (rs : List Link) (m : Handle) (ms : List Handle) : Type 0 where
  pub high : id_of m ≤ max_id
  pub top : largest nodes ≤ max_id
  pub free : long_by p nodes m ≡ true → largest nodes + 1 ≤ max_id
  pub next : Later p nodes (prefix_by p nodes (largest nodes + 1) m) (fresh_after p nodes (largest nodes + 1) m) (alone_links p nodes (largest nodes + 1) rs m) ms

module _ (p : ℕ) (nodes : List Node) (rs : List Link) (m : Handle) (ms : List Handle) (l : Plans p nodes rs (m ∷ ms)) where
  abbrev fresh : ℕ
  fresh = largest nodes + 1

  in_range_lem : (h : Handle) → is_named (largest nodes) h ≡ true → (1 ≤ id_of h) × (id_of h ≤ largest nodes)
  in_range_lem h t =
      let a = and_true_l (leb 1 (id_of h)) (leb (id_of h) (largest nodes)) t in
      let b = and_true_r (leb 1 (id_of h)) (leb (id_of h) (largest nodes)) t in
      (omega (arith, tests), omega (arith, tests))

  first-id : (1 ≤ id_of m) × (id_of m ≤ largest nodes)
  first-id = in_range_lem m (and_true_l (is_named (largest nodes) m) (all (is_named (largest nodes)) ms) l.ids)

  rest-ids : all (is_named (largest nodes)) ms ≡ true
  rest-ids = and_true_r (is_named (largest nodes) m) (all (is_named (largest nodes)) ms) l.ids

  -- the shared node is on m's node or on the fresh one
  shared-id : (long forward : Bool) → let x = cond long (cond forward m (pack fresh 1)) m in (1 ≤ id_of x) × (all (λ h. not (eqb (id_of x) (id_of h))) ms ≡ true)
  shared-id long forward = by long forward
    where
      as_first : all (λ h. not (eqb (id_of m) (id_of h))) ms ≡ true
      as_first = all_of _ ms (λ h k. not_of _ (none_mem (λ h. eqb (id_of m) (id_of h)) (distinct-first (λ u v. eqb (id_of u) (id_of v)) m ms l.apart) k))

      as_fresh : all (λ h. not (eqb (id_of (pack fresh 1)) (id_of h))) ms ≡ true
      as_fresh =
          all_of _ ms (λ h k.
          not_of _ (ne_eqb (id_of (pack fresh 1)) (id_of h) (λ e. omega (arith, e, id-pack fresh 1 (omega arith), (in_range_lem h (all_mem (is_named (largest nodes)) rest-ids k)).1))))

      by : (a b : Bool) → let x = cond a (cond b m (pack fresh 1)) m in (1 ≤ id_of x) × (all (λ h. not (eqb (id_of x) (id_of h))) ms ≡ true)
      by true true = (first-id.0, as_first)
      by true false = (omega (arith, id-pack fresh 1 (omega arith)), as_fresh)
      by false b = (first-id.0, as_first)

  pub first : First p nodes rs m ms
  first =
      let e = enough (long_by p nodes m) fresh (count (long_by p nodes) ms) max_id (omega (arith, l.enough)) in
      let x = shared-id (long_by p nodes m) (is_forward m) in
      let top : largest nodes ≤ max_id = omega (arith, l.enough) in
      record {
        high = omega (arith, first-id.1);
        top = top;
        free = e.0;
        next = record {
          shared = x.0;
          low = omega (arith, e.2);
          enough = e.1;
          ids = all_of _ ms (λ h k. let r = in_range_lem h (all_mem (is_named (largest nodes)) rest-ids k) in and_both _ _ (le-leb 1 (id_of h) r.0) (le-leb (id_of h) max_id (omega (arith, r.1))));
          apart = x.1;
          ends = named-alone (long_by p nodes m) fresh rs m first-id.0 (omega arith) l.ends;
        };
      }
