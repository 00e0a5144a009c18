use Prim.Native.Nat.{ℕ, ◌+◌, ◌*◌}
use mathlib.Core.Path.{◌≡◌, ap}
use native.Mathlib.Omega.{arith}
use lib.Dec.{leb}
use lib.ListN.{length}
use Rattle.linking.proofs.one_fits.Goals as goal

pub returns : goal.returns
returns c =
    let a = c.args in
    let e : 3 * a.count + 3 ≡ 3 * (a.count + 1) = omega arith in
    ap (λ (n : ℕ). leb n (length a.links.now)) e
