use mathlib.Core.Path.{ap}
use native.Mathlib.Omega.{arith}
use lib.Seq.{length-sets}
use lib.ListN.{length}
use Rattle.kit.proofs.Decimal.{decimal_short}
use Rattle.cases.proofs.output.put_number.Goals as goal

pub put_decimal-requires : goal.put_decimal-requires
put_decimal-requires g c = omega (arith, decimal_short c.args.n (omega arith))

pub returns : goal.returns
returns g c =
    let p = c.put_decimal.ensures in
    omega (
      arith,
      p.place,
      decimal_short c.args.n (omega arith),
      simp length-sets at (ap length p.bytes),
      c.room-from.ensures,
    )
