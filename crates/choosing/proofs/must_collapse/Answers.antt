use Prim.Native.Nat.{◌≤◌}
use mathlib.Core.Path.{sym, ap, ◌∙◌}
use mathlib.Core.List.{[], List}
use native.Mathlib.Omega.{arith}
use borrow.Author.Tests.{not-true, not-false}
use lib.Dec.{leb}
use lib.ListN.{length, length-map}
use Rattle.handle.specs.declared.Handle.{Handle}
use Rattle.store.specs.Graph.{Graph, graph_of, handle}
use Rattle.affix.specs.Prefix.{handles_of}
use Rattle.choosing.proofs.Trying.{passed-twice, passed_protected, passed_prefix}
use Rattle.choosing.proofs.must_collapse.Goals as goal

pub returns-then-not-members_once : goal.returns-then-not-members_once
returns-then-not-members_once c =
    let a = c.args in
    let g : Graph = graph_of a.nodes.now a.text.now [] a.c in
    let ms : List Handle = handles_of a.members.now in
    let two : 2 ≤ length ms = omega (arith, c.requires.1, length-map a.members.now handle) in
    sym (passed-twice g a.protected.now ms two (sym c.members_once.ensures ∙ not-true _ c.if-not-members_once.true-raw))

pub returns-then-has_protected : goal.returns-then-has_protected
returns-then-has_protected c =
    let a = c.args in
    let g : Graph = graph_of a.nodes.now a.text.now [] a.c in
    let ms : List Handle = handles_of a.members.now in
    let two : 2 ≤ length ms = omega (arith, c.requires.1, length-map a.members.now handle) in
    sym (passed_protected g a.protected.now ms two (sym c.members_once.ensures ∙ not-false _ c.if-not-members_once.false-raw) (sym c.has_protected.ensures ∙ c.if-has_protected.true))

pub returns : goal.returns
returns c =
    let a = c.args in
    let g : Graph = graph_of a.nodes.now a.text.now [] a.c in
    let ms : List Handle = handles_of a.members.now in
    let two : 2 ≤ length ms = omega (arith, c.requires.1, length-map a.members.now handle) in
    ap (leb 1) c.prefix_len.ensures ∙ sym (passed_prefix g a.protected.now ms two (sym c.members_once.ensures ∙ not-false _ c.if-not-members_once.false-raw) (sym c.has_protected.ensures ∙ c.if-has_protected.false))
