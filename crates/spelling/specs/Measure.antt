-- How long a walk's letters are, before any is written.
use Rattle.std.specs.Prelude.{ℕ, cond, List, leb, Option, Some, None}
use Rattle.kit.specs.Loops.{sum}
use Rattle.handle.specs.declared.Handle.{Handle}
use Rattle.handle.specs.Handle.{id_of}
use Rattle.store.specs.declared.Node.{Node}
use Rattle.store.specs.Views.{node_named}

-- a total where the room holds it
abbrev pub within : ℕ → ℕ → Option ℕ
within room n = cond (leb n room) (Some n) None

abbrev pub step_len : List Node → Handle → ℕ
step_len nodes h = (node_named (id_of h) nodes).len

abbrev pub walk_len : List Node → List Handle → ℕ
walk_len nodes hs = sum (step_len nodes) hs
