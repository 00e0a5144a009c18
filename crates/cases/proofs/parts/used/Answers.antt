use Rattle.cases.proofs.parts.used.Goals as goal

pub returns : goal.returns
returns c = rw (← c.number-rules.ensures, ← c.number-steps.ensures)
