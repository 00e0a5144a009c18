use mathlib.Core.Path.{refl, sym, ap, ◌∙◌}
use native.Mathlib.Omega.{arith}
use borrow.Author.Rules.{rules}
use Rattle.kit.proofs.Bools.{never}
use Rattle.cases.specs.declared.stream.Source.{Source}
use Rattle.cases.specs.Stream.{line_ends}
use Rattle.cases.proofs.stream.skip_line.Goals as goal

pub loop-turns-init : goal.loop-turns-init
loop-turns-init g c = (search rules, refl, λ e. refl, λ h. h, λ b. b)

pub returns-then-line_ends : goal.returns-then-line_ends
returns-then-line_ends g c = let i = c.loop-turns.invariant in record { kept = i.2; inside = λ h. i.3 (omega arith); small = i.4 }

pub loop-turns-preserved : goal.loop-turns-preserved
loop-turns-preserved g c =
    let i = c.loop-turns.invariant in (
      search rules,
      search rules,
      λ e. never (sym (ap (λ (s : Source). line_ends s.last) (i.2 e) ∙ e) ∙ sym c.line_ends.ensures ∙ c.if-line_ends.false),
      λ h. c.advance-source.ensures.standing.inside,
      λ b. c.advance-source.ensures.standing.small,
    )

pub returns : goal.returns
returns g c = let i = c.loop-turns.invariant in record { kept = i.2; inside = λ h. i.3 (omega arith); small = i.4 }
