use Rattle.reading.specs.Outcome.{read_outcome}
use Rattle.reading.proofs.Turns.{read_good, read-refused}
use Rattle.reading.proofs.read_text.Goals as goal

pub returns-in-Ok : goal.returns-in-Ok
unfolding read_outcome
returns-in-Ok c = read_good c.both_passes.ensures c.in-Ok.is

pub returns-in-Err : goal.returns-in-Err
unfolding read_outcome
returns-in-Err c =
    let k = c.clear_all.ensures in
    rw c.number.ensures (read-refused c.both_passes.ensures c.in-Err.is k.nodes_after k.letters_after k.links_after)
