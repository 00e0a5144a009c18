use mathlib.Core.Path.{refl}
use native.Mathlib.Omega.{arith}
use Rattle.text.proofs.Cuts.{piece_last, piece_more}
use Rattle.request.proofs.Listing.{said-length, listing_next}
use borrow.Author.Rules.{rules}
use Rattle.request.proofs.ids.put.Goals as goal

pub loop-i-init : goal.loop-i-init
loop-i-init c = (search rules, record { same = refl; total = search rules; left = refl })

pub put_id-i-requires : goal.put_id-i-requires
put_id-i-requires c = omega (arith, said-length c.piece_end-end.ensures.cut, c.loop-i.invariant.1.total, c.loop-i.invariant.1.same)

pub shape_of-ids-then-end-text : goal.shape_of-ids-then-end-text
shape_of-ids-then-end-text c = (listing_next (piece_last c.piece_end-end.ensures c.if-end-text.true) c.loop-i.invariant.1 c.put_id-i.ensures).same

pub returns-then-end-text : goal.returns-then-end-text
returns-then-end-text c = (listing_next (piece_last c.piece_end-end.ensures c.if-end-text.true) c.loop-i.invariant.1 c.put_id-i.ensures).left

pub loop-i-preserved : goal.loop-i-preserved
loop-i-preserved c = (search rules, listing_next (piece_more c.piece_end-end.ensures c.if-end-text.false) c.loop-i.invariant.1 c.put_id-i.ensures)
