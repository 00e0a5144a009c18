use mathlib.Core.Path.{◌∙◌}
use native.Mathlib.Omega.{arith}
use Rattle.events.specs.Events.{step_layout, step_to}
use Rattle.longer.proofs.Front.{push_front}
use Rattle.longer.proofs.push_step.Goals as goal

pub returns : goal.returns
returns c =
    let a = c.args in
    c.put.ensures ∙ push_front step_layout a.count a.steps.now (step_to a.node a.len) (omega arith)
