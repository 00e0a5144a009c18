-- The longer list is decided by the list handed in: its keys, its order, and whether it has rules for what is new.
use Prim.Native.Nat.{ℕ}
use mathlib.Core.Path.{◌≡◌, ap, ◌∙◌}
use mathlib.Core.Bool.{Bool, true, ◌&&◌}
use mathlib.Core.List.{List}
use lib.ListN.{length}
use Rattle.kit.specs.Loops.{all}
use Rattle.kit.proofs.Bools.{and_true_l, and_true_r}
use Rattle.handle.specs.declared.Handle.{Handle}
use Rattle.store.specs.declared.Node.{Node}
use Rattle.events.specs.declared.Used.{Used}
use Rattle.events.specs.Events.{Rules, Event, list_of, append_all}
use Rattle.events.specs.WellFormed.{room_for_rules, good_rule, good_step, good_table, has_step, table_formed, events_formed, keys_once, in_order}
use Rattle.longer.specs.Ahead.{events_by, keys_new, steps_new}
use Rattle.longer.specs.Longer.{Passed}
use Rattle.longer.proofs.Keys.{keys_longer}
use Rattle.collapsing.proofs.Order.{order_longer}
use Rattle.longer.proofs.ByMember.{ids_once_lem}
use Rattle.collapsing.proofs.Apart.{events_apart, live_known}

module _ (rules steps : List ℕ) (u : Used) (f : events_formed rules steps u ≡ true) where
  abbrev t : Rules
  t = list_of rules steps u

  pub table_formed_lem : table_formed rules steps u ≡ true
  table_formed_lem = and_true_l (table_formed rules steps u) (all has_step t.rules) f

  rules_good : all (good_rule (length t.steps)) t.rules ≡ true
  rules_good =
      and_true_l (all (good_rule (length t.steps)) t.rules) (all good_step t.steps)
      (and_true_r (room_for_rules rules steps u) (good_table t) table_formed_lem)

  module _ (p : ℕ) (nodes : List Node) (ms : List Handle) (s : Passed p nodes ms) where
    abbrev es : List Event
    es = events_by p nodes ms

    pub keys_are : keys_once t.rules ≡ true → keys_once (append_all t es).rules ≡ keys_new t.rules es
    keys_are k = keys_longer t es (ids_once_lem p nodes ms s.once) ∙ ap (λ (b : Bool). b && keys_new t.rules es) k

    pub order_is : in_order (append_all t es) ≡ (in_order t && steps_new t.rules es)
    order_is =
        order_longer t es rules_good (events_apart p nodes s.low ms (live_known nodes ms s.live) s.once)
