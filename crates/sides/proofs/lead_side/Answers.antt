use Rattle.sides.proofs.lead_side.Goals as goal

pub returns-then-left : goal.returns-then-left
returns-then-left c = rw c.if-left.true c.lead.ensures

pub returns : goal.returns
returns c = rw c.if-left.false c.lead-2.ensures
