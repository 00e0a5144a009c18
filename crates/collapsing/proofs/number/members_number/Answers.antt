use Prim.Native.Nat.{◌+◌, ◌-◌, ◌≤◌}
use mathlib.Core.Path.{◌≡◌, sym, ◌∙◌}
use mathlib.Core.Bool.{true, false}
use native.Mathlib.Omega.{arith}
use borrow.Author.Tests.{ne_eqb, le-ltb}
use lib.Dec.{ltb}
use lib.ListN.{length, take, length-map}
use Rattle.store.specs.Graph.{handle, nodes_of, graph_of}
use Rattle.store.specs.Views.{largest}
use Rattle.formed.proofs.Says.{formed_good}
use Rattle.handle.specs.Handle.{max_id}
use Rattle.affix.specs.Prefix.{handles_of, members_live, members_once, group_prefix}
use Rattle.collapsing.specs.Making.{same_lefts}
use Rattle.collapsing.proofs.Numbers.{largest_high, bare_lefts}
use Rattle.collapsing.proofs.number.members_number.Goals as goal

pub overflow_sub-largest : goal.overflow_sub-largest
overflow_sub-largest c =
    let high : largest (nodes_of c.args.c.nodes c.args.nodes.now) ≤ max_id =
    let a = c.args in
    largest_high (take a.c.letters a.text.now) (nodes_of a.c.nodes a.nodes.now) (formed_good a.nodes.now a.text.now a.links.now a.c c.requires).nodes_good
    in
    rw c.largest_id-largest.ensures (high)

pub returns : goal.returns
returns c =
    let high : largest (nodes_of c.args.c.nodes c.args.nodes.now) ≤ max_id =
    let a = c.args in
    largest_high (take a.c.letters a.text.now) (nodes_of a.c.nodes a.nodes.now) (formed_good a.nodes.now a.text.now a.links.now a.c c.requires).nodes_good
    in
    let enough : ltb (length (handles_of c.args.members.now)) 2 ≡ false =
    let ms = c.args.members.now in
    le-ltb (length (handles_of ms)) 2 (omega (arith, length-map ms handle))
    in
    let live : members_live (nodes_of c.args.c.nodes c.args.nodes.now) (handles_of c.args.members.now) ≡ true =
    sym c.if-not-members_live.ensures
    in
    let once : members_once (handles_of c.args.members.now) ≡ true =
    sym c.if-not-members_once.ensures
    in
    let prefix : ltb (length (group_prefix (graph_of c.args.nodes.now c.args.text.now c.args.links.now c.args.c) (handles_of c.args.members.now))) c.args.p ≡ false =
    rw (← c.prefix_len.ensures) (le-ltb c.prefix_len.result _ c.if-prefix_len-p.false)
    in
    let lefts : same_lefts (graph_of c.args.nodes.now c.args.text.now c.args.links.now c.args.c) (handles_of c.args.members.now) ≡ true =
    let a = c.args in
    sym (bare_lefts a.nodes.now a.text.now a.links.now a.c (handles_of a.members.now)) ∙ sym c.if-not-same_lefts.ensures
    in
    let n = c.count_long.result in
    let top = c.largest_id-largest.result in
    let few : n ≤ max_id - top = c.if-largest-count_long.false in
    let low : top ≤ max_id = rw c.largest_id-largest.ensures (high) in
    rw (enough, live, once, ne_eqb _ 0 c.if-p-eq0.false, prefix, lefts, ← c.count_long.ensures, ← c.largest_id-largest.ensures, le-ltb max_id (top + n) (omega arith))
