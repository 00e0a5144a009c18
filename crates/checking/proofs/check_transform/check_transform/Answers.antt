use Prim.Native.Nat.{ℕ}
use mathlib.Core.Path.{◌≡◌, refl}
use mathlib.Core.Bool.{Bool, true, false, cond, not}
use native.Mathlib.Omega.{arith}
use lib.Dec.{eqb}
use Rattle.kit.specs.Loops.{all, distinct}
use Rattle.kit.proofs.Bools.{and_true_l}
use Rattle.kit.proofs.Refusals.{passed_is}
use Rattle.store.specs.Views.{stored}
use Rattle.formed.specs.WellFormed.{well_formed, unmarked, old_formed, ids_once}
use Rattle.events.specs.Events.{rules_of}
use Rattle.events.specs.WellFormed.{table_formed, keys_once}
use Rattle.checking.specs.CheckTransform.{lent, graph_in, input_number}
use Rattle.checking.proofs.check_transform.check_transform.Goals as goal

three-pass : (a b c d e f g h : Bool) → ◌≡◌ {A = ℕ} (cond (not a) 13 (cond (not b) 13 (cond (not c) 13 (cond (not d) 5 (cond (not e) 5 (cond (not f) 5 (cond (not g) 5 (cond (not h) 6 0)))))))) 0 → (a ≡ true) × (b ≡ true) × (c ≡ true)
three-pass true true true d e f g h z = (refl, refl, refl)
three-pass true true false d e f g h z = absurd (omega arith)
three-pass true false c d e f g h z = absurd (omega arith)
three-pass false b c d e f g h z = absurd (omega arith)

pub conditions-requires : goal.conditions-requires
conditions-requires c =
    let a = c.args in
    let old = lent a.old_nodes.now a.old_text.now a.old_links.now a.c in
    let new = lent a.nodes.now a.text.now a.links.now a.d in
    let zero : input_number (lent c.args.old_nodes.now c.args.old_text.now c.args.old_links.now c.args.c) (lent c.args.nodes.now c.args.text.now c.args.links.now c.args.d) c.args.rules.now c.args.steps.now c.args.u c.args.protected.now ≡ 0 =
    passed_is c.input_number.ensures c.in_default.is
    in
    let p = three-pass (old_formed old.nodes old.letters old.links old.counts) (well_formed new.nodes new.letters new.links new.counts) (table_formed a.rules.now a.steps.now a.u) (ids_once (graph_in old).nodes) (ids_once (graph_in new).nodes) (keys_once (rules_of a.u.rules a.rules.now)) (distinct eqb a.protected.now) (all (λ id. stored id (graph_in old).nodes) a.protected.now) zero in
    (and_true_l (well_formed old.nodes old.letters old.links old.counts) (unmarked (graph_in old)) p.0, p.1, p.2)
