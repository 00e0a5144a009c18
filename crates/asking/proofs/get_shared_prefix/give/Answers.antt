use Prim.Native.Nat.{ℕ, ◌≤◌}
use mathlib.Core.Path.{◌≡◌, sym, ap, ◌∙◌}
use mathlib.Core.Bool.{true}
use mathlib.Core.List.{[], List, ◌++◌}
use native.Mathlib.Omega.{arith}
use borrow.Author.Tests.{ne_eqb, le-ltb}
use lib.ListN.{length, take, drop, get_or}
use Rattle.kit.proofs.Refusals.{passed_is}
use Rattle.store.specs.Graph.{Graph, handle, nodes_of, graph_of}
use Rattle.store.specs.Views.{spell}
use Rattle.formed.specs.WellFormed.{graph_number}
use Rattle.affix.specs.Prefix.{handles_of, members_live, members_once, group_prefix}
use Rattle.affix.proofs.Runs.{group-fits, group-take}
use Rattle.asking.specs.GetSharedPrefix.{outcome, answer, shared_prefix_outcome}
use Rattle.asking.proofs.get_shared_prefix.give.Goals as goal

-- the first member's first letters are the prefix
front : (g : Graph) (members : List ℕ) (n : ℕ) → 1 ≤ length members → n ≡ length (group_prefix g (handles_of members)) → take n (spell g (handle (get_or members 0 0))) ≡ group_prefix g (handles_of members)
front g members n h e = rw e (sym (group-take g members h))

pub write_prefix-requires-clause-n_in_bounds : goal.write_prefix-requires-clause-n_in_bounds
write_prefix-requires-clause-n_in_bounds c =
    let a = c.args in
    let e = c.prefix_len-length.ensures in
    (rw e (group-fits (graph_of a.nodes.now a.text.now [] a.c) a.members.now (omega arith)), omega arith)

pub returns : goal.returns
unfolding shared_prefix_outcome
returns c =
    let zero : graph_number c.args.nodes.now c.args.text.now c.args.links.now c.args.c ≡ 0 =
    passed_is c.graph_number.ensures c.in_ok-graph_number.was
    in
    let live : members_live (nodes_of c.args.c.nodes c.args.nodes.now) (handles_of c.args.members.now) ≡ true =
    sym c.if-not-members_live.ensures
    in
    let once : members_once (handles_of c.args.members.now) ≡ true =
    sym c.if-not-members_once.ensures
    in
    let a = c.args in
    rw (zero, ne_eqb _ 0 c.if-members-eq0.false, live, once, ← c.prefix_len-length.ensures, le-ltb _ _ c.if-out-length.false)
    (ap (outcome (answer 0 c.prefix_len-length.result)) (c.write_prefix.ensures ∙ ap (λ (s : List ℕ). s ++ drop c.prefix_len-length.result a.out.now) (front (graph_of a.nodes.now a.text.now [] a.c) a.members.now c.prefix_len-length.result (omega arith) c.prefix_len-length.ensures)))
