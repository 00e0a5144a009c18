use mathlib.Core.Path.{◌∙◌}
use native.Mathlib.Omega.{arith}
use Rattle.events.specs.Events.{rule, rule_layout}
use Rattle.longer.proofs.Front.{push_front}
use Rattle.longer.proofs.push_rule.Goals as goal

pub returns : goal.returns
returns c =
    let a = c.args in
    c.put.ensures ∙ push_front rule_layout a.count a.rules.now (rule a.id a.len a.first a.steps) (omega arith)
