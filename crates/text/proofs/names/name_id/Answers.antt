use Prim.Native.Nat.{◌+◌}
use mathlib.Core.Path.{◌≡◌, sym, ◌∙◌}
use mathlib.Core.Bool.{true}
use lib.ListN.{get_or}
use Rattle.kit.specs.Decimal.{is_digit}
use Rattle.text.proofs.Naming.{id_digit, id_large}
use Rattle.text.proofs.names.name_id.Goals as goal

pub returns-then-id-gt-MAX_ID : goal.returns-then-id-gt-MAX_ID
returns-then-id-gt-MAX_ID c =
    let bytes = c.args.bytes.now in
    let i = c.loop-b.b-index in
    let digit : is_digit (get_or bytes i 0) ≡ true = sym c.is_ascii_digit.ensures.value ∙ c.if-not-is_ascii_digit.false in
    id_large bytes (i + 1) _ (id_digit bytes i c.loop-b.id c.loop-b.invariant.1 c.loop-b-test.true digit) c.if-id-gt-MAX_ID.true
