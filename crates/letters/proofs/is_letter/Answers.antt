use Rattle.letters.specs.Letters.{is_letter}
use Rattle.letters.proofs.is_letter.Goals as goal

pub returns : goal.returns
unfolding is_letter
returns c = rw c.complement.ensures
