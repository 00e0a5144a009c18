use native.Mathlib.Omega.{arith}
use Rattle.longer.specs.Longer.{event_one}
use Rattle.longer.proofs.Held.{rules-more, steps-more, held}
use Rattle.longer.proofs.append_event.Goals as goal

pub push_walk-more-requires : goal.push_walk-more-requires
push_walk-more-requires c =
    let a = c.args in
    record { m_in_bounds = omega (arith, c.requires.room_for.step_room, steps-more a.rules.now a.steps.now a.u (event_one a.p a.len a.x a.fresh a.m)); fresh_bound = c.requires.fresh_bound }

pub push_rule-requires : goal.push_rule-requires
push_rule-requires c =
    let a = c.args in
    omega (arith, c.requires.room_for.rule_room, rules-more a.rules.now a.steps.now a.u (event_one a.p a.len a.x a.fresh a.m))

pub overflow_add-result : goal.overflow_add-result
overflow_add-result c =
    let a = c.args in
    omega (arith, c.requires.room_for.rule_room, rules-more a.rules.now a.steps.now a.u (event_one a.p a.len a.x a.fresh a.m))

pub overflow_add-result-2 : goal.overflow_add-result-2
overflow_add-result-2 c =
    let a = c.args in
    omega (arith, c.requires.room_for.step_room, c.push_walk-more.ensures.value, steps-more a.rules.now a.steps.now a.u (event_one a.p a.len a.x a.fresh a.m))

pub returns : goal.returns
returns c =
    let a = c.args in
    held a.rules.now a.steps.now a.u (event_one a.p a.len a.x a.fresh a.m) _ _ c.id.ensures c.push_walk-more.ensures.value c.push_rule.ensures c.push_walk-more.ensures.steps_after
