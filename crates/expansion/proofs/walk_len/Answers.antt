use Prim.Native.Nat.{ℕ, ◌+◌}
use mathlib.Core.Path.{◌≡◌, ap, ◌∙◌}
use native.Mathlib.Omega.{arith}
use lib.ListN.{length, drop}
use Rattle.kit.specs.Loops.{find_from}
use Rattle.events.specs.Events.{rules_of, keyed}
use Rattle.handle.specs.Handle.{id_of}
use Rattle.events.specs.declared.Step.{Step}
use Rattle.events.proofs.Fields.{step_at}
use Rattle.expansion.specs.Filling.{node_in}
use Rattle.expansion.specs.Table.{capped, size_at}
use Rattle.expansion.proofs.Lengths.{node-size, walk_count, walk_counted}
use Rattle.expansion.proofs.walk_len.Goals as goal

pub overflow_add-total : goal.overflow_add-total
overflow_add-total c =
    let size : c.node_len.result ≡ capped (length (node_in c.args.rules.now c.args.steps.now c.args.c c.args.ahead (step_at c.args.steps.now (c.args.first + c.loop-k.k)))) =
    let a = c.args in
    c.node_len.ensures
    ∙ ap (λ (i : ℕ). size_at a.lens.now (find_from (keyed i c.at-s.result.len) a.ahead (drop a.ahead (rules_of a.c.rules a.rules.now)))) c.id.ensures
    ∙ ap (λ (s : Step). size_at a.lens.now (find_from (keyed (id_of s.node) s.len) a.ahead (drop a.ahead (rules_of a.c.rules a.rules.now)))) c.at-s.ensures
    ∙ node-size a.rules.now a.steps.now a.c a.lens.now a.ahead (step_at a.steps.now (a.first + c.loop-k.k)) c.requires.0
    in
    omega (arith, size)

pub loop-k-preserved : goal.loop-k-preserved
loop-k-preserved c =
    let size : c.node_len.result ≡ capped (length (node_in c.args.rules.now c.args.steps.now c.args.c c.args.ahead (step_at c.args.steps.now (c.args.first + c.loop-k.k)))) =
    let a = c.args in
    c.node_len.ensures
    ∙ ap (λ (i : ℕ). size_at a.lens.now (find_from (keyed i c.at-s.result.len) a.ahead (drop a.ahead (rules_of a.c.rules a.rules.now)))) c.id.ensures
    ∙ ap (λ (s : Step). size_at a.lens.now (find_from (keyed (id_of s.node) s.len) a.ahead (drop a.ahead (rules_of a.c.rules a.rules.now)))) c.at-s.ensures
    ∙ node-size a.rules.now a.steps.now a.c a.lens.now a.ahead (step_at a.steps.now (a.first + c.loop-k.k)) c.requires.0
    in
    let a = c.args in (
      omega (arith, c.capped-total.ensures),
      rw c.capped-total.ensures (walk_count a.rules.now a.steps.now a.c a.ahead a.first a.n c.requires.1 c.loop-k.k c.loop-k.total c.node_len.result (omega arith) (size) c.loop-k.invariant.1),
    )

pub returns : goal.returns
returns c =
    let a = c.args in
    walk_counted a.rules.now a.steps.now a.c a.ahead a.first a.n c.requires.1 c.loop-k.k c.loop-k.total (omega arith) c.loop-k.invariant.0 c.loop-k.invariant.1
