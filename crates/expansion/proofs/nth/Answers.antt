use Rattle.expansion.proofs.nth.Goals as goal

pub returns-then-forward : goal.returns-then-forward
returns-then-forward c = rw c.if-forward.true

pub returns : goal.returns
returns c = rw c.if-forward.false
