use native.Mathlib.Omega.{arith}
use Rattle.desk.proofs.Pages.{head-refused, head-written}
use Rattle.desk.proofs.page.print_head.Goals as goal

pub returns-then-out-header : goal.returns-then-out-header
returns-then-out-header c =
    let a = c.args in
    record { out_after = head-refused a.text.now a.out.now _ c.parse_header-header.ensures c.if-out-header.true; len_in_bounds = omega arith }

pub returns : goal.returns
returns c =
    let a = c.args in
    let both = head-written a.text.now a.out.now _ c.parse_header-header.ensures _ _ _ _ c.if-out-header.false c.put_bytes-at.ensures c.put_byte-len.ensures in record { out_after = both.0; len_in_bounds = both.1 }
