use mathlib.Core.Path.{sym, ap, ◌∙◌}
use native.Mathlib.Omega.{arith}
use Rattle.handle.specs.Handle.{max_id}
use Rattle.store.specs.Graph.{nodes_of}
use Rattle.events.specs.Events.{rules_of}
use Rattle.longer.specs.Ahead.{steps_new}
use Rattle.longer.proofs.Turns.{begun_run, first_fits, all_fit}
use Rattle.longer.proofs.steps_new.Goals as goal

pub begin-r-requires : goal.begin-r-requires
begin-r-requires c =
    let a = c.args in
    record { count_in_bounds = omega arith; first_bound = first_fits a.p (nodes_of a.node_count a.nodes.now) max_id a.members.now (omega arith) c.requires.members_bound }

pub run_new-requires : goal.run_new-requires
run_new-requires c =
    let a = c.args in
    let N = nodes_of a.node_count a.nodes.now in
    record { node_count_in_bounds = (omega arith, omega arith); members_bound = rw c.begin-r.ensures (all_fit a.p N max_id a.members.now (omega arith) c.requires.members_bound) }

pub returns : goal.returns
returns c =
    let a = c.args in
    c.run_new.ensures ∙ sym (ap (steps_new (rules_of a.rule_count a.rules.now)) (begun_run a.p (nodes_of a.node_count a.nodes.now) a.members.now (omega arith) c.begin-r.ensures))
