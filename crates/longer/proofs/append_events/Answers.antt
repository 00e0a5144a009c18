use native.Mathlib.Omega.{arith}
use Rattle.handle.specs.Handle.{max_id}
use Rattle.store.specs.Graph.{nodes_of}
use Rattle.longer.proofs.Turns.{begun_run, first_fits, all_fit}
use Rattle.longer.proofs.append_events.Goals as goal

pub begin-r-requires : goal.begin-r-requires
begin-r-requires c =
    let a = c.args in
    record { count_in_bounds = omega arith; first_bound = first_fits a.p (nodes_of a.node_count a.nodes.now) max_id a.members.now (omega arith) c.requires.members_bound }

pub append_run-requires : goal.append_run-requires
append_run-requires c =
    let a = c.args in
    let N = nodes_of a.node_count a.nodes.now in record { node_count_in_bounds = omega arith; members_bound = rw c.begin-r.ensures (all_fit a.p N max_id a.members.now (omega arith) c.requires.members_bound); room_for = rw (← begun_run a.p N a.members.now c.requires.node_count_in_bounds.1 c.begin-r.ensures) c.requires.room_for }

pub returns : goal.returns
returns c =
    let a = c.args in
    rw (begun_run a.p (nodes_of a.node_count a.nodes.now) a.members.now c.requires.node_count_in_bounds.1 c.begin-r.ensures) c.append_run.ensures
