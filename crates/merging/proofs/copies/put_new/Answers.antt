use mathlib.Core.List.{[]}
use mathlib.Core.Path.{refl}
use native.Mathlib.Omega.{arith}
use Rattle.kit.proofs.Laws.{left_none}
use Rattle.store.specs.Graph.{link_layout}
use Rattle.store.proofs.Fields.{left-link}
use Rattle.merging.proofs.Putting.{put_one, all-put, remark-new, remark_none}
use Rattle.merging.proofs.copies.put_new.Goals as goal

pub loop-i-init : goal.loop-i-init
loop-i-init c = (omega arith, omega arith, record { size = refl; sofar = refl; rest = refl })

pub loop-i-preserved : goal.loop-i-preserved
loop-i-preserved c =
    let a = c.args in
    (omega arith, omega arith, put_one c.loop-i.invariant.2 (remark-new (left-link a.end c.loop-i.i a.plan.now (omega arith))) (omega arith) (rw c.at-l.ensures at c.push_link.ensures))

pub shape_of-links : goal.shape_of-links
shape_of-links c = c.loop-i.invariant.2.size

pub returns : goal.returns
returns c =
    let a = c.args in
    all-put c.loop-i.invariant.2 (omega arith) (remark_none [] (left_none link_layout a.end c.loop-i.i a.plan.now (omega arith))) c.requires.2
