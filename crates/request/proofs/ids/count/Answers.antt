use native.Mathlib.Omega.{arith}
use Rattle.text.proofs.Cuts.{piece_last, piece_more}
use Rattle.request.proofs.Listing.{said-length, said-within}
use borrow.Author.Rules.{rules}
use Rattle.request.proofs.ids.count.Goals as goal

pub loop-n-init : goal.loop-n-init
loop-n-init c = (search rules, search rules, omega arith)

pub overflow_add-n : goal.overflow_add-n
overflow_add-n c = omega (arith, said-within c.piece_end-end.ensures, c.says-n.ensures)

pub returns-then-end-text : goal.returns-then-end-text
returns-then-end-text c = omega (arith, said-length (piece_last c.piece_end-end.ensures c.if-end-text.true))

pub loop-n-preserved : goal.loop-n-preserved
loop-n-preserved c =
    let line = c.piece_end-end.ensures in
    (search rules, omega (arith, said-within line, c.says-n.ensures), omega (arith, said-length (piece_more line c.if-end-text.false)))
