-- Protected ids: 01 "Numbers that say no", 5 and 6.
use Rattle.std.specs.Prelude.{ℕ, Bool, List, eqb}
use Rattle.kit.specs.Loops.{all, distinct}
use Rattle.store.specs.declared.Node.{Node}
use Rattle.store.specs.Views.{stored}

-- 5: none is given twice
abbrev pub ids_apart : List ℕ → Bool
ids_apart ids = distinct eqb ids

-- 6: each names a declared node, marked or not
abbrev pub ids_stored : List Node → List ℕ → Bool
ids_stored nodes ids = all (λ id. stored id nodes) ids
