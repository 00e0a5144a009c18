use mathlib.Core.List.{[]}
use Prim.Native.Nat.{ℕ}
use mathlib.Core.Path.{sym, ap, ◌∙◌}
use Rattle.kit.proofs.Meaning.{first_none}
use Rattle.store.specs.Graph.{graph_of}
use Rattle.store.specs.Views.{len_of}
use Rattle.events.specs.Events.{rule, keyed, find_rule, rules_of}
use Rattle.rewriting.proofs.Tables.{RuleFound, rule_found}
use Rattle.verdict.specs.Search.{walk_at}
use Rattle.verdict.proofs.repeats.walk_of.Goals as goal

pub returns-in_default : goal.returns-in_default
returns-in_default c =
    let a = c.args in
    let rs = rules_of a.used a.rules.now in
    let len = len_of (graph_of a.oldnodes.now [] [] a.c) a.id in
    sym (ap walk_at (first_none (keyed a.id len) (rule 0 0 0 0) 0 rs (ap (λ (l : ℕ). find_rule a.id l rs) (sym c.node_len-len.ensures) ∙ sym c.find_rule.ensures.value ∙ c.in_default.is)))

pub returns : goal.returns
returns c =
    let found : RuleFound c.args.used c.args.rules.now c.args.id (len_of (graph_of c.args.oldnodes.now [] [] c.args.c) c.args.id) c.in-Some.i =
    let a = c.args in
    let rs = rules_of a.used a.rules.now in
    rule_found a.used a.rules.now a.id (len_of (graph_of a.oldnodes.now [] [] a.c) a.id) c.in-Some.i (ap (λ (l : ℕ). find_rule a.id l rs) (sym c.node_len-len.ensures) ∙ sym c.find_rule.ensures.value ∙ c.in-Some.is)
    in
    ap walk_at (c.at-r.ensures ∙ sym (found).here)
