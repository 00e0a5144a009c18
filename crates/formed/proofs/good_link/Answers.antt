use Prim.Native.Nat.{ℕ}
use mathlib.Core.Bool.{Bool}
use mathlib.Core.Path.{sym, ap, ap₂, ◌∙◌}
use borrow.Author.Tests.{le-leb, lt-leb, not-true, not-false}
use Rattle.store.specs.Views.{stored}
use Rattle.store.specs.Graph.{nodes_of}
use Rattle.handle.specs.Edge.{same_ends}
use Rattle.formed.proofs.good_link.Goals as goal

pub returns-then-l-gt1 : goal.returns-then-l-gt1
returns-then-l-gt1 c = rw (lt-leb _ _ c.if-l-gt1.true)

pub returns-then-ne : goal.returns-then-ne
returns-then-ne c =
    let a = c.args in
    rw (le-leb _ _ c.if-l-gt1.false, ap₂ same_ends (sym c.written.ensures) (sym c.ends.ensures) ∙ not-true _ (sym c.ne.ensures ∙ c.if-ne.true))

pub returns-then-not-stored_from : goal.returns-then-not-stored_from
returns-then-not-stored_from c =
    let a = c.args in
    let known : ℕ → Bool = λ i. stored i (nodes_of a.count a.nodes.now) in
    rw (
      le-leb _ _ c.if-l-gt1.false,
      ap₂ same_ends (sym c.written.ensures) (sym c.ends.ensures) ∙ not-false _ (sym c.ne.ensures ∙ c.if-ne.false),
      ap known (sym c.id.ensures) ∙ sym c.stored_from.ensures ∙ not-true _ c.if-not-stored_from.true-raw,
    )

pub returns : goal.returns
returns c =
    let a = c.args in
    let known : ℕ → Bool = λ i. stored i (nodes_of a.count a.nodes.now) in
    rw (
      le-leb _ _ c.if-l-gt1.false,
      ap₂ same_ends (sym c.written.ensures) (sym c.ends.ensures) ∙ not-false _ (sym c.ne.ensures ∙ c.if-ne.false),
      ap known (sym c.id.ensures) ∙ sym c.stored_from.ensures ∙ not-false _ c.if-not-stored_from.false-raw,
    )
    (c.stored_from-2.ensures ∙ ap known c.id-2.ensures)
