use borrow.Author.Tests.{le-leb, lt-leb}
use Rattle.letters.specs.Letters.{upper_of}
use Rattle.letters.proofs.upper.Goals as goal
use Rattle.letters.proofs.upper.Goals.{else-b-ge97-via-then-b-ge97+else-b-le122, else-b-ge97-via-else-b-ge97}

pub returns-then-b-le122 : goal.returns-then-b-le122
unfolding upper_of
returns-then-b-le122 c = rw (le-leb _ _ c.if-b-ge97.true, le-leb _ _ c.if-b-le122.true)

pub returns-else-b-ge97 : goal.returns-else-b-ge97
unfolding upper_of
returns-else-b-ge97 c =
    elim c.else-b-ge97.branch [
      | else-b-ge97-via-then-b-ge97+else-b-le122 w ↦ rw (le-leb _ _ w.if-b-ge97.true, lt-leb _ _ w.if-b-le122.false)
      | else-b-ge97-via-else-b-ge97 w ↦ rw (lt-leb _ _ w.if-b-ge97.false)
    ]
