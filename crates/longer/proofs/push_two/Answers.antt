use mathlib.Core.List.{[], ◌∷◌}
use Rattle.events.specs.Events.{step_layout, step_to}
use Rattle.longer.proofs.Front.{front-then}
use Rattle.longer.proofs.push_two.Goals as goal

pub returns : goal.returns
returns c =
    let a = c.args in
    front-then step_layout a.count a.steps.now (step_to a.a a.size ∷ []) (step_to a.b a.rest ∷ []) c.push_step.ensures c.push_step-2.ensures
