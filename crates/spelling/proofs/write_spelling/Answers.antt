use native.Mathlib.Omega.{arith}
use mathlib.Core.List.{[]}
use Rattle.store.specs.Graph.{graph_of}
use Rattle.store.specs.Views.{spell}
use Rattle.spelling.proofs.Writing.{writing_none, writing-room, writing-next, writing-all}
use Rattle.spelling.proofs.write_spelling.Goals as goal

pub loop-i-init : goal.loop-i-init
loop-i-init c =
    let a = c.args in
    writing_none (spell (graph_of a.nodes.now a.text.now [] a.c)) a.walk.now a.out.now c.requires.walk_in_bounds

pub put_letters-at-requires : goal.put_letters-at-requires
put_letters-at-requires c = record { readable = c.requires.readable; step_in_bounds = writing-room c.loop-i.invariant (omega arith) }

pub loop-i-preserved : goal.loop-i-preserved
loop-i-preserved c = writing-next c.loop-i.invariant (omega arith) c.put_letters-at.ensures

pub returns : goal.returns
returns c = writing-all c.loop-i.invariant (omega arith) c.requires.walk_in_bounds
