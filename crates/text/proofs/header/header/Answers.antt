use mathlib.Core.Path.{◌≡◌, refl, sym, ◌∙◌}
use borrow.Author.Rules.{rules}
use borrow.Author.Tests.{eq-eqb, ne_eqb}
use Rattle.kit.specs.Loops.{first_or}
use Rattle.text.specs.Header.{begins_with_h, header_of}
use Rattle.text.specs.Search.{after}
use Rattle.text.proofs.Headers.{first-here, first-later}
use Rattle.text.proofs.header.header.Goals as goal

pub loop-at-init : goal.loop-at-init
loop-at-init c = (search rules, refl)

pub returns-then-begins_with_h : goal.returns-then-begins_with_h
returns-then-begins_with_h c =
    let a = c.args in
    let line = c.piece_end-end.ensures in
    let yes = sym c.begins_with_h.ensures ∙ c.if-begins_with_h.true in
    first-here a.fallback.now begins_with_h line.cut c.loop-at.invariant.1 yes

pub returns-then-end-text : goal.returns-then-end-text
returns-then-end-text c =
    let later : let lines = after 10 c.args.text.now c.piece_end-end.result in first_or c.args.fallback.now begins_with_h lines ≡ header_of c.args.text.now c.args.fallback.now =
    let a = c.args in
    let line = c.piece_end-end.ensures in
    let no = sym c.begins_with_h.ensures ∙ c.if-begins_with_h.false in
    first-later a.fallback.now begins_with_h line.cut c.loop-at.invariant.1 no
    in
    rw (eq-eqb _ _ c.if-end-text.true) at (later)

pub loop-at-preserved : goal.loop-at-preserved
loop-at-preserved c =
    let later : let lines = after 10 c.args.text.now c.piece_end-end.result in first_or c.args.fallback.now begins_with_h lines ≡ header_of c.args.text.now c.args.fallback.now =
    let a = c.args in
    let line = c.piece_end-end.ensures in
    let no = sym c.begins_with_h.ensures ∙ c.if-begins_with_h.false in
    first-later a.fallback.now begins_with_h line.cut c.loop-at.invariant.1 no
    in
    (search rules, rw (ne_eqb _ _ c.if-end-text.false) at (later))
