use Rattle.letters.specs.Letters.{is_base}
use Rattle.letters.proofs.is_base.Goals as goal

pub returns-then-is_letter : goal.returns-then-is_letter
unfolding is_base
returns-then-is_letter c = rw (← c.is_letter.ensures, c.if-is_letter.true, c.upper.ensures)

pub returns-else-is_letter : goal.returns-else-is_letter
unfolding is_base
returns-else-is_letter c = rw (← c.is_letter.ensures, c.if-is_letter.false)
