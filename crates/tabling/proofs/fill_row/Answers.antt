use Rattle.writing.proofs.Filling.{filled-then}
use Rattle.tabling.proofs.fill_row.Goals as goal

pub returns : goal.returns
returns c = filled-then (filled-then (filled-then (filled-then (filled-then c.fill_number-p.ensures c.fill_bytes-q.ensures) c.fill_walk-s.ensures) c.fill_bytes-t.ensures) c.fill_number-v.ensures) c.fill_bytes.ensures
