use Prim.Native.Nat.{◌-◌}
use mathlib.Core.Path.{sym, ◌∙◌}
use native.Mathlib.Omega.{arith}
use lib.ListN.{get_or}
use Rattle.handle.specs.Edge.{edge}
use Rattle.store.specs.Graph.{handle, links_of}
use Rattle.store.proofs.Lookups.{link-found, link_nowhere}
use Rattle.spelling.proofs.Steps.{gap_first, gap_end, gap_here, gap_later}
use Rattle.spelling.proofs.first_gap.Goals as goal

pub loop-i-init : goal.loop-i-init
loop-i-init c =
    let a = c.args in
    (omega arith, gap_first (links_of a.count a.links.now) a.walk.now)

pub returns-in_default : goal.returns-in_default
returns-in_default c =
    let a = c.args in
    let i = c.loop-i.i in
    let step = edge (handle (get_or a.walk.now (i - 1) 0)) (handle (get_or a.walk.now i 0)) in
    sym (gap_here (links_of a.count a.links.now) a.walk.now i (omega arith) (link_nowhere step (links_of a.count a.links.now) (sym c.find_link.ensures ∙ c.in_default.is))) ∙ c.loop-i.invariant.1

pub loop-i-preserved : goal.loop-i-preserved
loop-i-preserved c =
    let a = c.args in
    let i = c.loop-i.i in
    let step = edge (handle (get_or a.walk.now (i - 1) 0)) (handle (get_or a.walk.now i 0)) in
    (omega arith, sym (gap_later (links_of a.count a.links.now) a.walk.now i (omega arith) (link-found a.count a.links.now step _ (sym c.find_link.ensures ∙ c.in-Some.is)).is_linked) ∙ c.loop-i.invariant.1)

pub returns : goal.returns
returns c =
    let a = c.args in
    sym (gap_end (links_of a.count a.links.now) a.walk.now c.loop-i.i (omega arith)) ∙ c.loop-i.invariant.1
