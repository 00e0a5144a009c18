use Prim.Native.Nat.{ℕ, ◌+◌}
use mathlib.Core.Path.{◌≡◌, refl, sym, ap, ◌∙◌}
use mathlib.Core.List.{List}
use borrow.Author.Rules.{rules}
use borrow.Author.Tests.{eq-eqb, ne_eqb}
use Rattle.text.specs.Header.{header_of}
use Rattle.text.specs.Search.{after}
use Rattle.face.specs.declared.parse_header.HeaderPart.{HeaderPart}
use Rattle.face.specs.ParseHeader.{header_from, header_part, bytes_of}
use Rattle.face.proofs.Parts.{part-is_header, part-here, part-later}
use Rattle.face.proofs.parse_header.gfaffix_parse_header.Goals as goal

-- the second clause follows from the first
both : (text fallback : List ℕ) (r : HeaderPart) → r ≡ header_part text fallback → (r ≡ header_part text fallback) × (bytes_of r text fallback ≡ header_of text fallback)
both text fallback r e = (e, ap (λ p. bytes_of p text fallback) e ∙ part-is_header text fallback)

pub loop-at-init : goal.loop-at-init
loop-at-init c = (search rules, refl)

pub returns-then-begins_with_h : goal.returns-then-begins_with_h
returns-then-begins_with_h c =
    let a = c.args in
    let yes = sym c.begins_with_h.ensures ∙ c.if-begins_with_h.true in
    let both = both a.text.now a.fallback.now _ (part-here c.piece_end-end.ensures a.fallback.now c.loop-at.invariant.1 yes) in record { value = both.0; fallback_value = both.1 }

pub returns-then-end-text : goal.returns-then-end-text
returns-then-end-text c =
    let later : header_from c.args.fallback.now (c.piece_end-end.result + 1) (after 10 c.args.text.now c.piece_end-end.result) ≡ header_part c.args.text.now c.args.fallback.now =
    let a = c.args in
    let no = sym c.begins_with_h.ensures ∙ c.if-begins_with_h.false in
    part-later c.piece_end-end.ensures a.fallback.now c.loop-at.invariant.1 no
    in
    let a = c.args in
    let both = both a.text.now a.fallback.now _ (rw (eq-eqb _ _ c.if-end-text.true) at (later)) in record { value = both.0; fallback_value = both.1 }

pub loop-at-preserved : goal.loop-at-preserved
loop-at-preserved c =
    let later : header_from c.args.fallback.now (c.piece_end-end.result + 1) (after 10 c.args.text.now c.piece_end-end.result) ≡ header_part c.args.text.now c.args.fallback.now =
    let a = c.args in
    let no = sym c.begins_with_h.ensures ∙ c.if-begins_with_h.false in
    part-later c.piece_end-end.ensures a.fallback.now c.loop-at.invariant.1 no
    in
    (search rules, rw (ne_eqb _ _ c.if-end-text.false) at (later))
