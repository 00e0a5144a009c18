use mathlib.Core.Path.{refl, sym, ◌∙◌}
use Rattle.kit.proofs.Steps.{any_hit, any_miss}
use Rattle.text.proofs.Cuts.{piece_last, piece_more}
use Rattle.request.specs.Ids.{is_no_id}
use borrow.Author.Rules.{rules}
use Rattle.request.proofs.ids.any_no_id.Goals as goal

pub loop-at-init : goal.loop-at-init
loop-at-init c = (search rules, refl)

pub returns-then-is_no_id : goal.returns-then-is_no_id
returns-then-is_no_id c = sym (any_hit is_no_id c.piece_end-end.ensures.cut (sym c.is_no_id.ensures ∙ c.if-is_no_id.true)) ∙ c.loop-at.invariant.1

pub returns-then-end-text : goal.returns-then-end-text
returns-then-end-text c = sym (any_miss is_no_id (piece_last c.piece_end-end.ensures c.if-end-text.true) (sym c.is_no_id.ensures ∙ c.if-is_no_id.false)) ∙ c.loop-at.invariant.1

pub loop-at-preserved : goal.loop-at-preserved
loop-at-preserved c = (search rules, sym (any_miss is_no_id (piece_more c.piece_end-end.ensures c.if-end-text.false) (sym c.is_no_id.ensures ∙ c.if-is_no_id.false)) ∙ c.loop-at.invariant.1)
