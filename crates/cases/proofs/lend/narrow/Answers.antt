use Prim.Native.Nat.{◌<◌, min}
use mathlib.Core.Path.{◌≡◌, sym, ◌∙◌}
use mathlib.Core.List.{map}
use native.Mathlib.Omega.{arith}
use lib.ListN.{length, length-set, length-map, get_or-map}
use lib.Seq.{length-take-le}
use Rattle.cases.specs.Parts.{low_byte}
use Rattle.cases.proofs.Copying.{copied_more, copied, take-map}
use Rattle.cases.proofs.lend.narrow.Goals as goal

pub loop-i-preserved : goal.loop-i-preserved
loop-i-preserved c =
    let a = c.args in
    let i = c.loop-i.i in
    let src = map low_byte a.from.now in
    let k : i < length src = rw length-map (omega arith) in
    (simp length-set (omega arith), copied_more src c.loop-i.to i _ (omega arith) k c.loop-i.invariant.1 (sym (get_or-map low_byte a.from.now i 0)))

pub slice_bounds-result-end : goal.slice_bounds-result-end
slice_bounds-result-end c = sym (length-take-le c.min-n.result c.loop-i.to (omega arith))

pub returns : goal.returns
returns c =
    let a = c.args in
    let src = map low_byte a.from.now in
    let n : c.min-n.result ≡ min (length src) (length a.to.now) = rw length-map c.min-n.ensures in
    copied src c.loop-i.to c.loop-i.i c.min-n.result (length a.to.now) (omega arith) n c.loop-i.invariant.1 ∙ take-map low_byte (length a.to.now) a.from.now
