use Prim.Native.Nat.{ℕ}
use mathlib.Core.List.{List, []}
use mathlib.Core.Bool.{true}
use mathlib.Core.Path.{◌≡◌, sym, ap, ◌∙◌}
use borrow.Author.Tests.{eq-eqb, ne_eqb}
use lib.ListN.{length}
use Rattle.store.specs.declared.Counts.{Counts}
use Rattle.store.specs.Graph.{graph_of}
use Rattle.scanning.specs.declared.Verdict.{Verdict}
use Rattle.records.specs.Records.{input_formed, input_fault, scanned}
use Rattle.records.proofs.Scan.{ends_13, goes_on_lem, formed_else, rooms, no_places}
use Rattle.records.proofs.check_steps.check_steps.Goals as goal

-- where the number is not 13 the input is well formed
goes_on : (nodes text links : List ℕ) (d : Counts) (n : ℕ) (v : Verdict) → v ≡ input_fault nodes text links d n → (v.number ≡ 13 → ⊥) → input_formed nodes text links d n ≡ true
goes_on nodes text links d n v e z =
    formed_else nodes text links d n (ne_eqb (input_fault nodes text links d n).number 13 (λ q. z (ap (λ (w : Verdict). w.number) e ∙ q)))

pub returns-then-start-eq13 : goal.returns-then-start-eq13
returns-then-start-eq13 c =
    let a = c.args in
    c.input_fault-start.ensures ∙ ends_13 a.nodes.now a.text.now a.links.now a.d a.steps.now (eq-eqb (input_fault a.nodes.now a.text.now a.links.now a.d (length a.steps.now)).number 13 (sym (ap (λ (v : Verdict). v.number) c.input_fault-start.ensures) ∙ c.if-start-eq13.true))

pub scan_steps-requires : goal.scan_steps-requires
scan_steps-requires c =
    let a = c.args in
    let n = length a.steps.now in
    let e = c.input_fault-start.ensures in
    let t = goes_on a.nodes.now a.text.now a.links.now a.d n c.input_fault-start.result e c.if-start-eq13.false in
    let r = rooms a.nodes.now a.text.now a.links.now a.d n t in
    let p = no_places a.nodes.now a.text.now a.links.now a.d n in
    (r.0, r.1, ap (λ (v : Verdict). v.first) e ∙ p.0, ap (λ (v : Verdict). v.second) e ∙ p.1)

pub returns : goal.returns
returns c =
    let a = c.args in
    let t = goes_on a.nodes.now a.text.now a.links.now a.d (length a.steps.now) c.input_fault-start.result c.input_fault-start.ensures c.if-start-eq13.false in
    c.scan_steps.ensures ∙ ap (λ (v : Verdict). scanned (graph_of a.nodes.now [] a.links.now a.d) v a.steps.now) c.input_fault-start.ensures
    ∙ goes_on_lem a.nodes.now a.text.now a.links.now a.d a.steps.now t
