use Prim.Native.Nat.{◌≤◌}
use mathlib.Core.Path.{◌≡◌}
use lib.ListN.{drop}
use Rattle.handle.specs.Handle.{max_id}
use Rattle.text.specs.Names.{name_id}
use Rattle.text.proofs.Naming.{id_from}
use Rattle.text.proofs.names.name_id.Given as goal

abbrev pub invariant-loop-b : goal.invariant-loop-b
invariant-loop-b l = (l.id ≤ max_id) × (id_from l.id (drop l.b-index l.bytes) ≡ name_id l.bytes)
