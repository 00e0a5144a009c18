use Prim.Native.Nat.{ℕ, ◌≤◌, ◌<◌}
use mathlib.Core.Path.{◌≡◌, sym, ap, ◌∙◌}
use mathlib.Core.Bool.{true}
use mathlib.Core.List.{List}
use native.Mathlib.Omega.{arith}
use borrow.Author.Tests.{lt-ltb, le-ltb}
use lib.ListN.{length}
use Rattle.std.specs.Prelude.{Some, None}
use Rattle.std.proofs.lemmas.Result.{err_from_is_err_and}
use Rattle.kit.specs.declared.Refusal.TheVariants.{Room}
use Rattle.kit.proofs.Refusals.{passed_is}
use Rattle.handle.specs.declared.Handle.{Handle}
use Rattle.store.specs.declared.Counts.{Counts}
use Rattle.store.specs.Graph.{nodes_of, graph_of}
use Rattle.formed.proofs.Says as says
use Rattle.affix.specs.Prefix.{handles_of}
use Rattle.groups.specs.Groups.{numbers, over}
use Rattle.events.specs.declared.Used.{Used}
use Rattle.events.specs.Events.{list_of, rules_of}
use Rattle.events.specs.WellFormed.{table_formed}
use Rattle.spelling.specs.Spelling.{all_stored}
use Rattle.spelling.specs.Measure.{within}
use Rattle.spelling.proofs.Steps.{measure_fits, measure_exceeds}
use Rattle.rewriting.specs.Rewriting.{old_number, transform_walk}
use Rattle.rewriting.specs.Measure.{new_walk_len}
use Rattle.rewriting.proofs.Old.{old-room, old-zero}
use Rattle.rewriting.proofs.Images.{length_walk}
use Rattle.walking.specs.TransformWalk.{outcome, answer, refused, transform_outcome}
use Rattle.walking.proofs.transform_walk.give.Goals as goal

-- the outcome, as far as the tests have come
module _ (nodes letters links : List ℕ) (c : Counts) (rules steps : List ℕ) (u : Used) (walk out : List ℕ) where
  module _ (z : old_number nodes letters links c rules steps u ≡ 0) where
    room : says.Room nodes letters links c
    room = old-room nodes letters links c (old-zero nodes letters links c rules steps u z).0

    table : table_formed rules steps u ≡ true
    table = (old-zero nodes letters links c rules steps u z).1

    abbrev new : List Handle
    new = transform_walk (graph_of nodes letters links c) (list_of rules steps u) (handles_of walk)

    abbrev size : ℕ
    size = new_walk_len (nodes_of c.nodes nodes) (rules_of u.rules rules) (handles_of walk)

    fits : (k : ℕ) → within (length out) size ≡ Some k → length new ≤ length out
    fits k q = omega (arith, (measure_fits (length out) size k q).1, length_walk nodes rules steps c u table (handles_of walk))

    module _ (s : all_stored (nodes_of c.nodes nodes) (handles_of walk) ≡ true) where
      exceeds : within (length out) size ≡ None → transform_outcome nodes letters links c rules steps u walk out ≡ refused 7 out
      unfolding transform_outcome
      exceeds q =
          let h : length out < length new = omega (arith, measure_exceeds (length out) size q, length_walk nodes rules steps c u table (handles_of walk)) in
          rw (z, s, lt-ltb (length out) (length new) h)

      stands : (k : ℕ) → within (length out) size ≡ Some k → transform_outcome nodes letters links c rules steps u walk out ≡ outcome (answer 0 k) (over (numbers new) out)
      unfolding transform_outcome
      stands k q =
          let e : length new ≡ k = omega (arith, (measure_fits (length out) size k q).0, length_walk nodes rules steps c u table (handles_of walk)) in
          rw (z, s, le-ltb (length out) (length new) (fits k q)) (ap (λ (n : ℕ). outcome (answer 0 n) (over (numbers new) out)) e)

pub returns-in_err-length : goal.returns-in_err-length
returns-in_err-length c =
    let zero : old_number c.args.nodes.now c.args.text.now c.args.links.now c.args.c c.args.rules.now c.args.steps.now c.args.u ≡ 0 =
    passed_is c.old_number.ensures c.in_ok-old_number.was
    in
    let a = c.args in
    let room : c.in_err-length.field-0.0 ≡ Room = grind arith in
    let p = err_from_is_err_and c.from_residual-in_err-length.result c.from_residual-in_err-length.ensures.1 in
    rw (p.1, p.2, room) (sym (exceeds a.nodes.now a.text.now a.links.now a.c a.rules.now a.steps.now a.u a.walk.now a.out.now zero (sym c.if-not-all_stored.ensures) (sym c.rewritten_len.ensures ∙ c.in_err-length.ensures.ok_part)))

pub write_walk-requires-clause-walk_in_bounds : goal.write_walk-requires-clause-walk_in_bounds
write_walk-requires-clause-walk_in_bounds c =
    let zero : old_number c.args.nodes.now c.args.text.now c.args.links.now c.args.c c.args.rules.now c.args.steps.now c.args.u ≡ 0 =
    passed_is c.old_number.ensures c.in_ok-old_number.was
    in
    let a = c.args in
    fits a.nodes.now a.text.now a.links.now a.c a.rules.now a.steps.now a.u a.walk.now a.out.now zero _ (sym c.rewritten_len.ensures ∙ c.in_ok-length.ensures.ok_part)

pub returns : goal.returns
returns c =
    let zero : old_number c.args.nodes.now c.args.text.now c.args.links.now c.args.c c.args.rules.now c.args.steps.now c.args.u ≡ 0 =
    passed_is c.old_number.ensures c.in_ok-old_number.was
    in
    let a = c.args in
    ap (outcome (answer 0 c.in_ok-length.length)) c.write_walk.ensures ∙ sym (stands a.nodes.now a.text.now a.links.now a.c a.rules.now a.steps.now a.u a.walk.now a.out.now zero (sym c.if-not-all_stored.ensures) c.in_ok-length.length (sym c.rewritten_len.ensures ∙ c.in_ok-length.ensures.ok_part))
