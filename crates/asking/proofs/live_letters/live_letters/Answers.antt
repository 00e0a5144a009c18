use Rattle.formed.proofs.Bounds.{live-fits}
use Rattle.formed.proofs.Says.{number-zero}
use Rattle.kit.proofs.Refusals.{passed_is}
use Rattle.asking.proofs.live_letters.live_letters.Goals as goal

pub live_letters-total-requires-clause-nodes_bound : goal.live_letters-total-requires-clause-nodes_bound
live_letters-total-requires-clause-nodes_bound c =
    let a = c.args in
    live-fits a.nodes.now a.text.now a.links.now a.c (number-zero a.nodes.now a.text.now a.links.now a.c (passed_is c.graph_number.ensures c.in_default.is)).0
