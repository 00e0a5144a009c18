use Prim.Native.Nat.{ℕ, ◌+◌, ◌≤◌, ◌<◌}
use mathlib.Core.Path.{◌≡◌, sym, ap, ◌∙◌}
use mathlib.Core.Bool.{not, ◌||◌}
use mathlib.Core.List.{[], List, map}
use native.Mathlib.Omega.{arith}
use borrow.Author.Tests.{not-true, not-false}
use lib.Dec.{eqb}
use lib.ListN.{drop, get_or}
use Rattle.letters.specs.Sequences.{same_spelling}
use Rattle.handle.specs.Handle.{pack}
use Rattle.store.specs.Graph.{Graph, graph_of}
use Rattle.store.specs.Views.{spell}
use Rattle.events.specs.declared.Used.{Used}
use Rattle.events.specs.Events.{rule, rules_of, steps_of}
use Rattle.events.specs.declared.Rule.{Rule}
use Rattle.events.specs.declared.Step.{Step}
use Rattle.events.proofs.Fields.{rule_at, rule_is}
use Rattle.events.proofs.Order.{walk_is}
use Rattle.spelling.specs.Spelling.{spell_walk}
use Rattle.scanning.specs.Rules.{lengths_sum, is_old_key, spells_key}
use Rattle.scanning.proofs.RuleTurns.{recorded, spelled, other-sum, other-spelling, key_passes}
use Rattle.scanning.proofs.key_fault.Goals as goal

-- the tests of rule i, as they are made over its steps' places
module _ (old new : Graph) (rules steps : List ℕ) (u : Used) (i : ℕ) (h : i < u.rules) (k : (rule_at rules i).first + (rule_at rules i).steps ≤ u.steps) where
  abbrev this : Rule
  this = get_or (rules_of u.rules rules) i (rule 0 0 0 0)

  abbrev r : Rule
  r = rule_at rules i

  sums : lengths_sum (steps_of u.steps steps) this ≡ eqb (recorded (drop r.first (steps_of (r.first + r.steps) steps))) r.len
  sums =
      ap (lengths_sum (steps_of u.steps steps)) (rule_is u.rules i rules h (rule 0 0 0 0))
      ∙ ap (λ (w : List Step). eqb (recorded w) r.len) (walk_is u.steps steps r k)

  spells : spells_key old new (steps_of u.steps steps) this ≡ (not (is_old_key old r) || same_spelling (spell old (pack r.id 0)) (spelled new steps (r.first + r.steps) r.first))
  spells =
      ap (spells_key old new (steps_of u.steps steps)) (rule_is u.rules i rules h (rule 0 0 0 0))
      ∙ ap (λ (w : List Step). not (is_old_key old r) || same_spelling (spell old (pack r.id 0)) (spell_walk new (map (λ s. s.node) w))) (walk_is u.steps steps r k)

pub returns-then-not-lengths_sum : goal.returns-then-not-lengths_sum
returns-then-not-lengths_sum c =
    let a = c.args in
    let old = graph_of a.old_nodes.now a.old_text.now [] a.c in
    let new = graph_of a.nodes.now a.text.now [] a.d in
    let ss = steps_of a.u.steps a.steps.now in
    let r = get_or (rules_of a.u.rules a.rules.now) a.i (rule 0 0 0 0) in
    other-sum old new ss r (sums old new a.rules.now a.steps.now a.u a.i (omega arith) c.requires.i_bound ∙ sym (rw c.at-r.ensures at c.lengths_sum.ensures) ∙ not-true c.lengths_sum.result c.if-not-lengths_sum.true-raw)

pub spells_key-requires : goal.spells_key-requires
spells_key-requires c = rw c.at-r.ensures (c.requires.readable.0, c.requires.readable.1, omega arith)

pub returns-then-not-spells_key : goal.returns-then-not-spells_key
returns-then-not-spells_key c =
    let a = c.args in
    let old = graph_of a.old_nodes.now a.old_text.now [] a.c in
    let new = graph_of a.nodes.now a.text.now [] a.d in
    let ss = steps_of a.u.steps a.steps.now in
    let r = get_or (rules_of a.u.rules a.rules.now) a.i (rule 0 0 0 0) in
    other-spelling old new ss r (sums old new a.rules.now a.steps.now a.u a.i (omega arith) c.requires.i_bound ∙ sym (rw c.at-r.ensures at c.lengths_sum.ensures) ∙ not-false c.lengths_sum.result c.if-not-lengths_sum.false-raw) (spells old new a.rules.now a.steps.now a.u a.i (omega arith) c.requires.i_bound ∙ sym (c.spells_key.ensures ∙ ap (λ (x : Rule). not (is_old_key old (rule x.id x.len 0 0)) || same_spelling (spell old (pack x.id 0)) (spelled new a.steps.now (x.first + x.steps) x.first)) c.at-r.ensures) ∙ not-true c.spells_key.result c.if-not-spells_key.true-raw)

pub returns : goal.returns
returns c =
    let a = c.args in
    let old = graph_of a.old_nodes.now a.old_text.now [] a.c in
    let new = graph_of a.nodes.now a.text.now [] a.d in
    let ss = steps_of a.u.steps a.steps.now in
    let r = get_or (rules_of a.u.rules a.rules.now) a.i (rule 0 0 0 0) in
    key_passes old new ss r (sums old new a.rules.now a.steps.now a.u a.i (omega arith) c.requires.i_bound ∙ sym (rw c.at-r.ensures at c.lengths_sum.ensures) ∙ not-false c.lengths_sum.result c.if-not-lengths_sum.false-raw) (spells old new a.rules.now a.steps.now a.u a.i (omega arith) c.requires.i_bound ∙ sym (c.spells_key.ensures ∙ ap (λ (x : Rule). not (is_old_key old (rule x.id x.len 0 0)) || same_spelling (spell old (pack x.id 0)) (spelled new a.steps.now (x.first + x.steps) x.first)) c.at-r.ensures) ∙ not-false c.spells_key.result c.if-not-spells_key.false-raw)
