-- No step of a collapse's event has the key of one of its events: a step's id is fresh, or its length is not the key's.
use Prim.Native.Nat.{ℕ, ◌+◌, ◌-◌, ◌≤◌, ◌<◌}
use mathlib.Core.Path.{◌≡◌, refl, sym, ap, ◌∙◌, subst}
use mathlib.Core.Bool.{Bool, true, false, cond, not, ◌&&◌}
use mathlib.Core.List.Memᴰ
use mathlib.Core.List.{List, [], ◌∷◌, Memᴰ}
use native.Mathlib.Omega.{arith}
use borrow.Author.Tests.{eqb-true, eqb-false, ltb-true}
use lib.Dec.{eqb}
use lib.ListN.{drop}
use Rattle.kit.proofs.Bools.{and_true_l, and_true_r, and_both, not_of, not_true_false}
use Rattle.kit.proofs.Meaning.{all_mem, none_mem, any_some, distinct-first}
use Rattle.handle.specs.declared.Handle.{Handle}
use Rattle.handle.specs.Handle.{id_of, pack}
use Rattle.handle.proofs.Handles.{id-pack}
use Rattle.store.specs.declared.Node.{Node}
use Rattle.store.specs.Views.{named, node_named, unmarked_node, live_here, live_node, largest}
use Rattle.split.proofs.Nodes.{mem_largest}
use Rattle.affix.specs.Prefix.{members_live, members_once}
use Rattle.merging.specs.Merging.{is_forward}
use Rattle.merging.specs.Plan.{long_by, suffix_by}
use Rattle.longer.specs.Ahead.{later_events_by, events_by}
use Rattle.longer.proofs.ByMember.{length_in, run_of, events_run}
use Rattle.longer.proofs.OneEvent.{walk_all}
use Rattle.collapsing.proofs.Order.{Apart}

-- another key
abbrev other_key : ℕ → ℕ → ℕ → ℕ → Bool
other_key id len i l = not (eqb id i && eqb len l)

other_key_lem : (id len i l : ℕ) → (id ≡ i → len ≡ l → ⊥) → other_key id len i l ≡ true
other_key_lem id len i l h =
    not_of _ (not_true_false _ (λ t. h (eqb-true id i (and_true_l (eqb id i) (eqb len l) t)) (eqb-true len l (and_true_r (eqb id i) (eqb len l) t))))

module _ (p : ℕ) (nodes : List Node) (low : 1 ≤ p) where
  -- a long member's suffix
  suffix_apart : (fresh : ℕ) (m u : Handle) → id_of u < fresh → long_by p nodes m ≡ true → other_key (id_of u) (length_in nodes u) (id_of (suffix_by fresh m)) (length_in nodes m - p) ≡ true
  suffix_apart fresh m u h t = by (is_forward m)
    where
      by : (b : Bool) → other_key (id_of u) (length_in nodes u) (id_of (cond b (pack fresh 0) m)) (length_in nodes m - p) ≡ true
      by true = other_key_lem (id_of u) (length_in nodes u) (id_of (pack fresh 0)) (length_in nodes m - p) (λ e f. omega (arith, id-pack fresh 0 (omega arith)))
      by false =
          other_key_lem (id_of u) (length_in nodes u) (id_of m) (length_in nodes m - p) (λ e f.
          let g : length_in nodes u ≡ length_in nodes m = ap (λ (k : ℕ). (node_named k nodes).len) e in
          omega (arith, ltb-true p (length_in nodes m) t))

  run-apart : (x : Handle) (fresh : ℕ) (ms : List Handle) → ((m : Handle) → Memᴰ m ms → id_of m < fresh) → ((m : Handle) → Memᴰ m ms → id_of m ≡ id_of x → length_in nodes m ≡ p → ⊥) → Apart (later_events_by p nodes x fresh ms)
  run-apart x fresh ms known off e f i j =
      let a = run_of p nodes x fresh ms i in
      let b = run_of p nodes x fresh ms j in
      let m = a.member in
      let u = b.member in
      rw (a.made, b.made)
      (walk_all p (length_in nodes m) x a.fresh m (other_key (id_of u) (length_in nodes u))
      ∙ and_both _ _ (other_key_lem (id_of u) (length_in nodes u) (id_of x) p (off u b.within)) (rest a.fresh m u (omega (arith, known u b.within, a.above)) (long_by p nodes m) refl))
    where
      rest : (k : ℕ) (m u : Handle) → id_of u < k → (t : Bool) → long_by p nodes m ≡ t → cond t (other_key (id_of u) (length_in nodes u) (id_of (suffix_by k m)) (length_in nodes m - p)) true ≡ true
      rest k m u h true e = suffix_apart k m u h e
      rest k m u h false e = refl

  -- the shared node: the first member, longer than p or without an event, or a fresh one
  pub events_apart : (ms : List Handle) → ((m : Handle) → Memᴰ m ms → id_of m ≤ largest nodes) → members_once ms ≡ true → Apart (events_by p nodes ms)
  events_apart [] known once = λ e f i j. absurd (Memᴰ.not-nil i)
  events_apart (m ∷ ms) known once = subst Apart (sym (events_run p nodes m ms)) (by (long_by p nodes m) refl)
    where
      fresh : ℕ
      fresh = largest nodes + 1

      long : (b : Bool) → long_by p nodes m ≡ true → (u : Handle) → id_of u < fresh → id_of u ≡ id_of (cond b m (pack fresh 1)) → length_in nodes u ≡ p → ⊥
      long true t u h e f =
          let g : length_in nodes u ≡ length_in nodes m = ap (λ (k : ℕ). (node_named k nodes).len) e in
          omega (arith, ltb-true p (length_in nodes m) t)
      long false t u h e f = omega (arith, id-pack fresh 1 (omega arith))

      by : (b : Bool) → long_by p nodes m ≡ b → Apart (later_events_by p nodes (cond b (cond (is_forward m) m (pack fresh 1)) m) fresh (drop (cond b 0 1) (m ∷ ms)))
      by true t =
          run-apart (cond (is_forward m) m (pack fresh 1)) fresh (m ∷ ms) (λ u i. omega (arith, known u i)) (λ u i. long (is_forward m) t u (omega (arith, known u i)))
      by false t =
          run-apart m fresh ms (λ u i. omega (arith, known u (Memᴰ.tail i)))
          (λ u i e f. eqb-false (id_of m) (id_of u) (none_mem (λ (v : Handle). eqb (id_of m) (id_of v)) (distinct-first (λ (v w : Handle). eqb (id_of v) (id_of w)) m ms once) i) (sym e))

-- a live member's id is not above the largest
pub live_known : (nodes : List Node) (ms : List Handle) → members_live nodes ms ≡ true → (m : Handle) → Memᴰ m ms → id_of m ≤ largest nodes
live_known nodes ms t m i =
    let r = any_some (live_here (id_of m)) nodes (all_mem (λ (h : Handle). live_node (id_of h) nodes) t i) in
    omega (arith, mem_largest r.1, eqb-true r.0.id (id_of m) (and_true_l (named (id_of m) r.0) (unmarked_node r.0) r.2))
