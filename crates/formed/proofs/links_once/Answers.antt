use Prim.Native.Nat.{ℕ, ◌+◌}
use mathlib.Core.List.{List}
use mathlib.Core.Path.{◌≡◌, sym, ap, ◌∙◌}
use lib.ListN.{drop}
use Rattle.kit.specs.Loops.{any}
use Rattle.handle.specs.declared.Edge.{Edge}
use Rattle.store.specs.declared.Link.{Link}
use native.Mathlib.Omega.{arith}
use Rattle.store.proofs.Fields.{left-link}
use Rattle.store.specs.Graph.{ends, link_at, links_of, link_layout}
use Rattle.handle.specs.Edge.{same_ends}
use Rattle.kit.proofs.Steps.{distinct-pass, distinct_fail, distinct_end}
use Rattle.kit.proofs.Laws.{left_none}
use Rattle.formed.proofs.links_once.Goals as goal

-- what is asked of the link that was read
again : (n : ℕ) (l : List ℕ) (i : ℕ) {r : Link} {e : Edge} → r ≡ link_at l i → e ≡ ends r → any (λ s. same_ends (ends (link_at l i)) (ends s)) (drop (i + 1) (links_of n l)) ≡ any (λ s. same_ends e (ends s)) (drop (i + 1) (links_of n l))
again n l i p q = ap (λ (x : Edge). any (λ s. same_ends x (ends s)) (drop (i + 1) (links_of n l))) (sym (q ∙ ap ends p))

pub returns-then-link_again : goal.returns-then-link_again
returns-then-link_again c =
    let a = c.args in
    let i = c.loop-i.i in
    sym (distinct_fail (λ r s. same_ends (ends r) (ends s)) (left-link a.count i a.links.now (omega arith)) (again a.count a.links.now i c.at.ensures c.ends.ensures ∙ sym c.link_again.ensures ∙ c.if-link_again.true)) ∙ c.loop-i.invariant

pub loop-i-preserved : goal.loop-i-preserved
loop-i-preserved c =
    let a = c.args in
    let i = c.loop-i.i in
    sym (distinct-pass (λ r s. same_ends (ends r) (ends s)) (left-link a.count i a.links.now (omega arith)) (again a.count a.links.now i c.at.ensures c.ends.ensures ∙ sym c.link_again.ensures ∙ c.if-link_again.false)) ∙ c.loop-i.invariant

pub returns : goal.returns
returns c =
    let a = c.args in
    let i = c.loop-i.i in
    sym (distinct_end (λ r s. same_ends (ends r) (ends s)) (left_none link_layout a.count i a.links.now (omega arith))) ∙ c.loop-i.invariant
