use Rattle.writing.proofs.Filling.{filled-then}
use Rattle.writing.proofs.graph.fill_node.Goals as goal

pub returns : goal.returns
returns c = filled-then (filled-then (filled-then (filled-then c.fill_bytes-p.ensures c.fill_number-q.ensures) c.fill_bytes-s.ensures) c.fill_bytes-t.ensures) c.fill_bytes.ensures
