-- An event list made by collapses from the empty list gives each key once, and each step's own rule comes later: it never
-- gives 5 or 12.
use Prim.Native.Nat.{ℕ, ◌+◌, ◌-◌, ◌≤◌}
use mathlib.Core.Path.{◌≡◌, refl, sym, ap, subst, ◌∙◌}
use mathlib.Core.Bool.{Bool, true, false, cond, not}
use mathlib.Core.List.Memᴰ
use mathlib.Core.List.{List, [], ◌∷◌, Memᴰ}
use mathlib.Core.Logic.{⊎_elim}
use native.Mathlib.Omega.{arith}
use borrow.Author.Tests.{eqb-true, leb-true}
use lib.Dec.{eqb, leb}
use lib.ListN.{length}
use Rattle.kit.specs.Loops.{all, any}
use Rattle.kit.proofs.Bools.{and_true_l, and_true_r, and_both, not_of, not_true_false}
use Rattle.kit.proofs.Meaning.{all_mem, all_of, none_of}
use Rattle.handle.specs.declared.Handle.{Handle}
use Rattle.handle.specs.Handle.{id_of, pack}
use Rattle.handle.proofs.Handles.{id-pack}
use Rattle.store.specs.Graph.{Graph}
use Rattle.store.specs.declared.Node.{Node}
use Rattle.store.specs.Views.{len_of, live_node, largest}
use Rattle.formed.specs.WellFormed.{good_graph, ids_once}
use Rattle.formed.proofs.Says.{graph_says}
use Rattle.events.specs.Events.{Rules, keyed, Event, append_all, rules_from}
use Rattle.events.specs.declared.Rule.{Rule}
use Rattle.events.specs.WellFormed.{good_rule, good_step, good_table, has_step, keys_once, in_order}
use Rattle.merging.specs.Merging.{is_forward, collapsed}
use Rattle.merging.specs.Plan.{long_by, prefix_by, suffix_by}
use Rattle.merged.proofs.Members.{Collapses}
use Rattle.collapsing.specs.Making.{State, state, state_after, members_number, list_number, longer}
use Rattle.longer.specs.Ahead.{events_by, keys_new, steps_new}
use Rattle.longer.proofs.Appending.{rules-longer}
use Rattle.collapsing.proofs.Apart.{events_apart, live_known}
use Rattle.longer.proofs.ByMember.{ids_once_lem, event_of_lem}
use Rattle.collapsing.proofs.Foreseen.{events_are}
use Rattle.collapsing.proofs.GoodEvents.{events_good, live-handles, good_longer}
use Rattle.longer.proofs.Keys.{keys_longer}
use Rattle.longer.proofs.OneEvent.{walk_all}
use Rattle.collapsing.proofs.Order.{order_longer}
use Rattle.sequences.specs.Sequences.{Collapse, beginning, after_one, after_all, allowed}
use Rattle.sequences.proofs.Letters.{Allowed, Sound, collapses, sound-one, kept-all}
use Rattle.sequences.proofs.Past.{Past, still_past, live-not_past, fresh-not_past, spent, keys_past}

-- the rules' keys are past
abbrev pub PastAll : List Node → List Rule → Type 0
PastAll rs rules = (r : Rule) → Memᴰ r rules → Past rs r.id r.len

-- a key that is not past has no rule
no_rule : (rs : List Node) (rules : List Rule) → PastAll rs rules → (id len : ℕ) → (Past rs id len → ⊥) → not (any (keyed id len) rules) ≡ true
no_rule rs rules past id len h =
    not_of _ (none_of (keyed id len) rules (λ r i. not_true_false _ (λ t.
    let e : r.id ≡ id = eqb-true r.id id (and_true_l (eqb r.id id) (eqb r.len len) t) in
    let f : r.len ≡ len = eqb-true r.len len (and_true_r (eqb r.id id) (eqb r.len len) t) in
    h (rw (← e, ← f) (past r i)))))

-- no event of a collapse has an old key, and no step of one an old rule
module _ (p : ℕ) (g : Graph) (m : Handle) (ms : List Handle) (c : Collapses p g (m ∷ ms)) (rules : List Rule) (past : PastAll g.nodes rules) where
  abbrev fresh : ℕ
  fresh = largest g.nodes + 1

  abbrev x : Handle
  x = prefix_by p g.nodes fresh m

  alive : {u : Handle} → Memᴰ u (m ∷ ms) → live_node (id_of u) g.nodes ≡ true
  alive i = all_mem (λ (u : Handle). live_node (id_of u) g.nodes) c.live i

  abbrev new : ℕ → ℕ → Bool
  new id len = not (any (keyed id len) rules)

  live-new : {u : Handle} → Memᴰ u (m ∷ ms) → (len : ℕ) → len ≤ len_of g (id_of u) → new (id_of u) len ≡ true
  live-new {u} i len h = no_rule g.nodes rules past (id_of u) len (live-not_past (id_of u) len (alive i) h)

  fresh-new : (k d len : ℕ) → d ≤ 1 → fresh ≤ k → new (id_of (pack k d)) len ≡ true
  fresh-new k d len small h =
      no_rule g.nodes rules past (id_of (pack k d)) len (fresh-not_past (id_of (pack k d)) len (omega (arith, id-pack k d small)))

  -- the first member, of p letters or more, or a fresh node
  shared_new : new (id_of x) p ≡ true
  shared_new = by (long_by p g.nodes m) (is_forward m)
    where
      here : Memᴰ m (m ∷ ms)
      here = Memᴰ.head refl

      own : new (id_of m) p ≡ true
      own = live-new here p (leb-true p (len_of g (id_of m)) (all_mem (λ (u : Handle). leb p (len_of g (id_of u))) c.reach here))

      by : (long forward : Bool) → new (id_of (cond long (cond forward m (pack fresh 1)) m)) p ≡ true
      by true true = own
      by true false = fresh-new fresh 1 p (omega arith) (omega arith)
      by false forward = own

  -- a fresh node, or the member without its first p letters
  suffix_new : (k : ℕ) {u : Handle} → Memᴰ u (m ∷ ms) → fresh ≤ k → new (id_of (suffix_by k u)) (len_of g (id_of u) - p) ≡ true
  suffix_new k {u} i h = by (is_forward u)
    where
      by : (b : Bool) → new (id_of (cond b (pack k 0) u)) (len_of g (id_of u) - p) ≡ true
      by true = fresh-new k 0 (len_of g (id_of u) - p) (omega arith) h
      by false = live-new i (len_of g (id_of u) - p) (omega arith)

  keys_new_lem : keys_new rules (events_by p g.nodes (m ∷ ms)) ≡ true
  keys_new_lem =
      all_of _ (events_by p g.nodes (m ∷ ms)) (λ e i.
      let r = event_of_lem p g.nodes m ms i in
      rw r.made (live-new r.within (len_of g (id_of r.member)) (omega arith)))

  steps_new_lem : steps_new rules (events_by p g.nodes (m ∷ ms)) ≡ true
  steps_new_lem =
      all_of _ (events_by p g.nodes (m ∷ ms)) (λ e i.
      let r = event_of_lem p g.nodes m ms i in
      rw r.made
      (walk_all p (len_of g (id_of r.member)) x r.fresh r.member new
      ∙ and_both _ _ shared_new (by (long_by p g.nodes r.member) (suffix_new r.fresh r.within r.above))))
    where
      by : (b : Bool) {c : Bool} → c ≡ true → cond b c true ≡ true
      by true e = e
      by false e = refl

-- what is asked of the events' keys holds of their rules
rules_from_lem : (P : ℕ → ℕ → Type 0) (first : ℕ) (es : List Event) → ((e : Event) → Memᴰ e es → P e.id e.len) → (r : Rule) → Memᴰ r (rules_from first es) → P r.id r.len
rules_from_lem P first [] h r i = absurd (Memᴰ.not-nil i)
rules_from_lem P first (e ∷ es) h r i =
    ⊎_elim
    (λ q. rw q (h e (Memᴰ.head refl)))
    (rules_from_lem P (first + length e.walk) es (λ f j. h f (Memᴰ.tail j)) r)
    (Memᴰ.cases_cons i)

-- a state that collapses lead to from the empty list
pub record Reached (s : State) : Type 0 where
  pub sound : Sound s
  pub formed : good_table s.events ≡ true
  pub some_steps : all has_step s.events.rules ≡ true
  pub keys : keys_once s.events.rules ≡ true
  pub order : in_order s.events ≡ true
  pub past : PastAll s.graph.nodes s.events.rules

module _ (p : ℕ) (s : State) (m : Handle) (ms : List Handle) (ok : members_number p s.graph (m ∷ ms) ≡ 0) (h : Reached s) where
  abbrev g : Graph
  g = s.graph

  abbrev t : Rules
  t = s.events

  abbrev k : Collapse
  k = record { members = m ∷ ms; p = p }

  abbrev es : List Event
  es = events_by p g.nodes (m ∷ ms)

  c : Collapses p g (m ∷ ms)
  c = collapses s k ok h.sound

  longer_is : longer p s (m ∷ ms) ≡ append_all t es
  longer_is = ap (append_all t) (events_are p g (m ∷ ms) c)

  formed_more : (good_table (append_all t es) ≡ true) × (all has_step (append_all t es).rules ≡ true)
  formed_more =
      let ids = live-handles g.letters g.nodes (m ∷ ms) (graph_says g h.sound.good).nodes_good c.live in
      good_longer t es (λ e. events_good p g.nodes (m ∷ ms) ids c.fits) h.formed h.some_steps

  keys_more : keys_once (append_all t es).rules ≡ true
  keys_more = keys_longer t es (ids_once_lem p g.nodes (m ∷ ms) c.apart) ∙ and_both _ _ h.keys (keys_new_lem p g m ms c t.rules h.past)

  order_more : in_order (append_all t es) ≡ true
  order_more =
      order_longer t es (and_true_l (all (good_rule (length t.steps)) t.rules) (all good_step t.steps) h.formed)
      (events_apart p g.nodes c.low (m ∷ ms) (live_known g.nodes (m ∷ ms) c.live) c.apart)
      ∙ and_both _ _ h.order (steps_new_lem p g m ms c t.rules h.past)

  -- old keys still are past, and the new ones are
  past_more : PastAll (collapsed p g (m ∷ ms)).nodes (append_all t es).rules
  past_more r i =
      ⊎_elim
      (λ j. still_past (spent p g m ms c).less (h.past r j))
      (rules_from_lem (Past (collapsed p g (m ∷ ms)).nodes) (length t.steps) es (λ e. keys_past p g m ms c) r)
      (Memᴰ.append_cases t.rules (subst (Memᴰ r) (rules-longer t es) i))

  reached_more : Reached (after_one s k)
  reached_more =
      subst (λ (u : Rules). Reached (state (collapsed p g (m ∷ ms)) u)) (sym longer_is)
      (record {
        sound = record { good = (sound-one s k ok h.sound).good; once = (sound-one s k ok h.sound).once };
        formed = formed_more.0;
        some_steps = formed_more.1;
        keys = keys_more;
        order = order_more;
        past = past_more;
      })

reached_one : (s : State) (k : Collapse) → Allowed s k → Reached s → Reached (after_one s k)
reached_one s k ok h = by k.members ok
  where
    by : (ms : List Handle) → members_number k.p s.graph ms ≡ 0 → Reached (state_after k.p s ms)
    by [] e = h
    by (m ∷ ms) e = reached_more k.p s m ms e h

module _ (g : Graph) (ks : List Collapse) (good : good_graph g ≡ true) (once : ids_once g.nodes ≡ true) (ok : allowed (beginning g) ks ≡ true) where
  pub reached : Reached (after_all (beginning g) ks)
  reached =
      kept-all Reached reached_one (beginning g) ks ok
      (record {
        sound = record { good = good; once = once };
        formed = refl;
        some_steps = refl;
        keys = refl;
        order = refl;
        past = λ r i. absurd (Memᴰ.not-nil i);
      })

  pub in_order_lem : list_number (after_all (beginning g) ks).events ≡ 0
  in_order_lem = rw (reached.keys, reached.order)

  -- one more collapse: of its own numbers, 5 and 12 never come
  pub longer-in_order : (k : Collapse) → Allowed (after_all (beginning g) ks) k → list_number (longer k.p (after_all (beginning g) ks) k.members) ≡ 0
  longer-in_order k e =
      let r = reached_one (after_all (beginning g) ks) k e reached in
      rw (r.keys, r.order)
