use Prim.Native.Nat.{ℕ}
use mathlib.Core.Path.{sym, ap, ◌∙◌}
use mathlib.Core.List.{List}
use lib.ListN.{get_or, drop_of_length-le}
use Rattle.cases.proofs.Items.{first-at}
use Rattle.cases.proofs.parts.number.Goals as goal

pub returns-then-at-numbers : goal.returns-then-at-numbers
returns-then-at-numbers c =
    let xs = c.args.numbers.now in
    sym (first-at xs c.place-at.result) ∙ ap (λ (l : List ℕ). get_or l 0 0) c.place-at.ensures

pub returns : goal.returns
returns c =
    let xs = c.args.numbers.now in
    ap (λ (l : List ℕ). get_or l 0 0) (sym (drop_of_length-le xs {i = c.place-at.result} c.if-at-numbers.false) ∙ c.place-at.ensures)
