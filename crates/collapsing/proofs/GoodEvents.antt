-- The events of a collapse are good ones, and so is the longer list.
use Prim.Native.Nat.{ℕ, ◌+◌, ◌≤◌}
use mathlib.Core.Path.{◌≡◌, refl, ap, ◌∙◌}
use mathlib.Core.Bool.{Bool, true, false, cond}
use mathlib.Core.List.Memᴰ
use mathlib.Core.List.{List, [], ◌∷◌, Memᴰ}
use mathlib.Core.Logic.{⊎_elim}
use native.Mathlib.Omega.{arith}
use borrow.Author.Tests.{le-leb, eqb-true}
use lib.ListN.{length, length-append}
use Rattle.kit.specs.Loops.{all, sum, count}
use Rattle.kit.proofs.Bools.{and_true_l, and_true_r, and_both}
use Rattle.kit.proofs.Meaning.{all_mem, all_of, all_append, any_some}
use Rattle.handle.specs.declared.Handle.{Handle}
use Rattle.handle.specs.Handle.{max_id, is_id, is_handle, id_of, pack}
use Rattle.handle.proofs.Handles.{id-pack}
use Rattle.store.specs.declared.Node.{Node}
use Rattle.store.specs.Views.{named, unmarked_node, live_here, live_node, largest}
use Rattle.formed.specs.WellFormed.{good_node}
use Rattle.formed.proofs.Says.{node_says}
use Rattle.affix.specs.Prefix.{members_live}
use Rattle.events.specs.declared.Used.{Used}
use Rattle.events.specs.Events.{Rules, rule, list_of, Event, append, append_all}
use Rattle.events.specs.declared.Rule.{Rule}
use Rattle.events.specs.WellFormed.{room_for_rules, good_rule, good_step, good_table, has_step, table_formed, events_formed}
use Rattle.events.proofs.Says.{rule_says, says_rule}
use Rattle.merging.specs.Merging.{is_forward}
use Rattle.merging.specs.Plan.{long_by, fresh_after, prefix_by}
use Rattle.longer.specs.Ahead.{events_by}
use Rattle.longer.specs.Longer.{Holds}
use Rattle.longer.proofs.ByMember.{length_in, one_more, event_of_lem}
use Rattle.longer.proofs.OneEvent.{walk_length, walk_sum, walk_all}
use Rattle.longer.proofs.Held.{holds_list}

-- each event's lengths add up to its key's
pub lengths_add : (p : ℕ) (nodes : List Node) (ms : List Handle) → ((m : Handle) → Memᴰ m ms → p ≤ length_in nodes m) → {e : Event} → Memᴰ e (events_by p nodes ms) → sum (λ s. s.len) e.walk ≡ e.len
lengths_add p nodes [] h i = absurd (Memᴰ.not-nil i)
lengths_add p nodes (m ∷ ms) h i =
    let r = event_of_lem p nodes m ms i in
    rw r.made (walk_sum p (length_in nodes r.member) (prefix_by p nodes (largest nodes + 1) m) r.fresh r.member (h r.member r.within))

-- id and steps in range, and a step at least
pub record GoodEvent (e : Event) : Type 0 where
  pub id_good : is_id e.id ≡ true
  pub steps_good : all good_step e.walk ≡ true
  pub some_step : 1 ≤ length e.walk

is_id_lem : (n : ℕ) → 1 ≤ n → n ≤ max_id → is_id n ≡ true
is_id_lem n h k = and_both _ _ (le-leb 1 n h) (le-leb n max_id k)

fresh_good : (k d : ℕ) → d ≤ 1 → 1 ≤ k → k ≤ max_id → is_handle (pack k d) ≡ true
fresh_good k d h low high = ap is_id (id-pack k d h) ∙ is_id_lem k low high

-- the shared node and a suffix are members or have a fresh id
prefix_good : (long forward : Bool) (k : ℕ) (m : Handle) → is_handle m ≡ true → 1 ≤ k → (long ≡ true → k ≤ max_id) → is_handle (cond long (cond forward m (pack k 1)) m) ≡ true
prefix_good true true k m t low high = t
prefix_good true false k m t low high = fresh_good k 1 (omega arith) low (high refl)
prefix_good false forward k m t low high = t

suffix_good : (long forward : Bool) (k : ℕ) (m : Handle) → is_handle m ≡ true → 1 ≤ k → (long ≡ true → k ≤ max_id) → cond long (is_handle (cond forward (pack k 0) m)) true ≡ true
suffix_good true true k m t low high = fresh_good k 0 (omega arith) low (high refl)
suffix_good true false k m t low high = t
suffix_good false forward k m t low high = refl

module _ (p : ℕ) (nodes : List Node) where
  -- a fresh id that a long member takes is in range
  taken : (m : Handle) (k top : ℕ) → fresh_after p nodes k m ≤ top + 1 → long_by p nodes m ≡ true → k ≤ top
  taken m k top h e = let q : fresh_after p nodes k m ≡ k + 1 = rw e in omega arith

  pub events_good : (ms : List Handle) → all is_handle ms ≡ true → largest nodes + count (long_by p nodes) ms ≤ max_id → {e : Event} → Memᴰ e (events_by p nodes ms) → GoodEvent e
  events_good [] t h i = absurd (Memᴰ.not-nil i)
  events_good (m ∷ ms) t h i =
      let r = event_of_lem p nodes m ms i in
      let u = r.member in
      let x = prefix_by p nodes (largest nodes + 1) m in
      let n = length_in nodes u in
      let good : is_handle u ≡ true = all_mem is_handle t r.within in
      let low : 1 ≤ r.fresh = omega (arith, r.above) in
      let shared : is_handle x ≡ true = prefix_good (long_by p nodes m) (is_forward m) (largest nodes + 1) m (and_true_l (is_handle m) (all is_handle ms) t) (omega arith) (taken m (largest nodes + 1) max_id (omega (arith, one_more (long_by p nodes m) (largest nodes + 1)))) in
      rw r.made
      (record {
        id_good = good;
        steps_good = walk_all p n x r.fresh u (λ (id len : ℕ). is_id id) ∙ and_both _ _ shared (suffix_good (long_by p nodes u) (is_forward u) r.fresh u good low (taken u r.fresh max_id (omega (arith, r.below))));
        some_step = omega (arith, walk_length p n x r.fresh u);
      })

-- live members of a good graph have ids in range
pub live-handles : (letters : List ℕ) (nodes : List Node) (ms : List Handle) → all (good_node letters) nodes ≡ true → members_live nodes ms ≡ true → all is_handle ms ≡ true
live-handles letters nodes ms good live =
    all_of is_handle ms (λ m i.
    let r = any_some (live_here (id_of m)) nodes (all_mem (λ (h : Handle). live_node (id_of h) nodes) live i) in
    let g = node_says letters r.0 (all_mem (good_node letters) good r.1) in
    let q : r.0.id ≡ id_of m = eqb-true r.0.id (id_of m) (and_true_l (named (id_of m) r.0) (unmarked_node r.0) r.2) in
    is_id_lem (id_of m) (omega (arith, g.id_low)) (omega (arith, g.id_high)))

-- a good list stays good
module _ (t : Rules) (e : Event) (g : GoodEvent e) where
  abbrev new : Rule
  new = rule e.id e.len (length t.steps) (length e.walk)

  rules_good : all (good_rule (length t.steps)) t.rules ≡ true → all (good_rule (length (append t e).steps)) (append t e).rules ≡ true
  rules_good h =
      let more = length-append t.steps e.walk in
      all_of (good_rule (length (append t e).steps)) (append t e).rules (λ r i.
      ⊎_elim
      (λ k. let f = rule_says (length t.steps) r (all_mem (good_rule (length t.steps)) h k) in
      says_rule (length (append t e).steps) r (record { low = f.low; high = f.high; inside = omega (arith, f.inside) }))
      (λ k. let q : r ≡ new = Memᴰ.eq_of_singleton k in rw q (and_both _ _ g.id_good (le-leb (length t.steps + length e.walk) (length (append t e).steps) (omega arith))))
      (Memᴰ.append_cases t.rules i))

  pub good_append : good_table t ≡ true → good_table (append t e) ≡ true
  good_append h =
      and_both _ _ (rules_good (and_true_l (all (good_rule (length t.steps)) t.rules) (all good_step t.steps) h))
      (all_append good_step t.steps e.walk ∙ and_both _ _ (and_true_r (all (good_rule (length t.steps)) t.rules) (all good_step t.steps) h) g.steps_good)

  pub steps-append : all has_step t.rules ≡ true → all has_step (append t e).rules ≡ true
  steps-append h =
      all_append has_step t.rules (new ∷ []) ∙ and_both _ _ h (and_both _ _ (le-leb 1 (length e.walk) g.some_step) refl)

pub good_longer : (t : Rules) (es : List Event) → ((e : Event) → Memᴰ e es → GoodEvent e) → good_table t ≡ true → all has_step t.rules ≡ true → (good_table (append_all t es) ≡ true) × (all has_step (append_all t es).rules ≡ true)
good_longer t [] g h k = (h, k)
good_longer t (e ∷ es) g h k =
    let f = g e (Memᴰ.head refl) in
    good_longer (append t e) es (λ d i. g d (Memᴰ.tail i)) (good_append t e f h) (steps-append t e f k)

-- so what the arrays hold after a collapse is no 13
pub formed_longer : (rules steps : List ℕ) (u : Used) (es : List Event) {rules' steps' : List ℕ} {v : Used} → ((e : Event) → Memᴰ e es → GoodEvent e) → events_formed rules steps u ≡ true → Holds (append_all (list_of rules steps u) es) rules steps rules' steps' v → room_for_rules rules' steps' v ≡ true → events_formed rules' steps' v ≡ true
formed_longer rules steps u es {rules'} {steps'} {v} g h held room =
    let t = list_of rules steps u in
    let table = and_true_l (table_formed rules steps u) (all has_step t.rules) h in
    let r = good_longer t es g (and_true_r (room_for_rules rules steps u) (good_table t) table) (and_true_r (table_formed rules steps u) (all has_step t.rules) h) in
    and_both _ _ (and_both _ _ room (ap good_table (holds_list held) ∙ r.0)) (ap (λ (x : Rules). all has_step x.rules) (holds_list held) ∙ r.1)
