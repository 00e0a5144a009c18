use Rattle.cases.proofs.parts.counts.Goals as goal

pub returns : goal.returns
returns c = rw (← c.number-nodes.ensures, ← c.number-letters.ensures, ← c.number-links.ensures)
