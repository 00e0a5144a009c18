use mathlib.Core.Path.{sym, ap, ◌∙◌}
use Rattle.handle.specs.Handle.{id_of}
use Rattle.store.specs.Graph.{handle, nodes_of}
use Rattle.events.specs.Events.{rules_of}
use Rattle.events.specs.declared.Rule.{Rule}
use Rattle.spelling.specs.Measure.{step_len}
use Rattle.rewriting.proofs.Tables.{RuleFound, rule_found, rule_nowhere, looked_up}
use Rattle.rewriting.proofs.image_len.Goals as goal

pub returns-in_default : goal.returns-in_default
returns-in_default c =
    let a = c.args in
    let h = handle a.step in
    rw (rule_nowhere (id_of h) (step_len (nodes_of a.count a.nodes.now) h) (rules_of a.used a.rules.now) (looked_up (nodes_of a.count a.nodes.now) (rules_of a.used a.rules.now) h c.id-id.result c.node_len-len.result c.id-id.ensures c.node_len-len.ensures (sym c.in_default.is ∙ c.find_rule.ensures.value)))

pub returns : goal.returns
returns c =
    let found : RuleFound c.args.used c.args.rules.now (id_of (handle c.args.step)) (step_len (nodes_of c.args.count c.args.nodes.now) (handle c.args.step)) c.in-Some.i =
    let a = c.args in
    let h = handle a.step in
    rule_found a.used a.rules.now (id_of h) (step_len (nodes_of a.count a.nodes.now) h) c.in-Some.i (looked_up (nodes_of a.count a.nodes.now) (rules_of a.used a.rules.now) h c.id-id.result c.node_len-len.result c.id-id.ensures c.node_len-len.ensures (sym c.in-Some.is ∙ c.find_rule.ensures.value))
    in
    let f = found in
    ap (λ (r : Rule). r.steps) c.at.ensures ∙ rw (f.is_ruled, f.here)
