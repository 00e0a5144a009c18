use Prim.Native.Nat.{ℕ}
use mathlib.Core.Path.{◌≡◌, refl, sym, ap₂, ◌∙◌}
use mathlib.Core.Bool.{true}
use mathlib.Core.List.{List}
use lib.ListN.{length}
use Rattle.kit.specs.Loops.{all}
use Rattle.kit.proofs.Bools.{and_true_l}
use Rattle.events.specs.declared.Used.{Used}
use Rattle.events.specs.Events.{list_of, rules_of}
use Rattle.events.specs.WellFormed.{has_step, table_formed, events_formed, keys_once, in_order}
use Rattle.expansion.specs.Building.{Buildable, TableIn}
use Rattle.expansion.specs.Expansion.{expanded}
use Rattle.expansion.proofs.Built.{room-same, given-rules, given-steps}
use Rattle.walking.specs.Expand.{answer, outcome, table_fits, expand_outcome}
use Rattle.walking.proofs.expand.give.Goals as goal

-- the table, as far as the tests have come
module _ (rules steps : List ℕ) (u : Used) (o p : List ℕ) (f : events_formed rules steps u ≡ true) (k : keys_once (rules_of u.rules rules) ≡ true) (i : in_order (list_of rules steps u) ≡ true) where
  done : (n m : ℕ) (l r : List ℕ) → table_fits (expanded (list_of rules steps u)) o p ≡ true → n ≡ length (expanded (list_of rules steps u)).rules → m ≡ length (expanded (list_of rules steps u)).steps → TableIn (expanded (list_of rules steps u)) o p l r → outcome (answer 0 n m) l r ≡ expand_outcome rules steps u o p
  unfolding expand_outcome
  done n m l r e g h w = rw (f, k, i, e) (ap₂ (λ (x y : ℕ). outcome (answer 0 x y) l r) g h ∙ ap₂ (outcome (answer 0 (length (expanded (list_of rules steps u)).rules) (length (expanded (list_of rules steps u)).steps))) w.rules_in w.steps_in)

pub returns-then-not-room_for_rules : goal.returns-then-not-room_for_rules
unfolding expand_outcome
returns-then-not-room_for_rules c =
    let fits : c.room_for_rules.result ≡ table_fits (expanded (list_of c.args.rules.now c.args.steps.now c.args.u)) c.args.out_rules.now c.args.out_steps.now =
    let a = c.args in
    c.room_for_rules.ensures ∙ room-same a.rules.now a.steps.now a.u _ a.out_rules.now a.out_steps.now (record { rules = a.u.rules; steps = c.measure-total.result }) refl c.measure-total.ensures
    in
    rw (sym c.if-not-events_formed.ensures, sym c.if-not-keys_once.ensures, sym c.if-not-in_order.ensures, sym fits ∙ c.if-not-room_for_rules.true)

pub returns : goal.returns
returns c =
    let fits : c.room_for_rules.result ≡ table_fits (expanded (list_of c.args.rules.now c.args.steps.now c.args.u)) c.args.out_rules.now c.args.out_steps.now =
    let a = c.args in
    c.room_for_rules.ensures ∙ room-same a.rules.now a.steps.now a.u _ a.out_rules.now a.out_steps.now (record { rules = a.u.rules; steps = c.measure-total.result }) refl c.measure-total.ensures
    in
    let a = c.args in
    let formed : events_formed a.rules.now a.steps.now a.u ≡ true = sym c.if-not-events_formed.ensures in
    let ready : Buildable a.rules.now a.steps.now a.u c.measure-total.new.lens a.out_rules.now a.out_steps.now (record { rules = a.u.rules; steps = c.measure-total.result }) =
    record {
      formed = and_true_l (table_formed a.rules.now a.steps.now a.u) (all has_step (rules_of a.u.rules a.rules.now)) formed;
      ordered = sym c.if-not-in_order.ensures;
      count = refl;
      room = sym c.if-not-room_for_rules.ensures;
      measured = c.measure-total.ensures;
    }
    in
    done a.rules.now a.steps.now a.u a.out_rules.now a.out_steps.now formed (sym c.if-not-keys_once.ensures) (sym c.if-not-in_order.ensures) _ _ _ _ (sym fits ∙ c.if-not-room_for_rules.false) (given-rules a.rules.now a.steps.now a.u _ a.out_rules.now a.out_steps.now _ ready) (given-steps a.rules.now a.steps.now a.u _ a.out_rules.now a.out_steps.now _ ready) c.write_table.ensures
