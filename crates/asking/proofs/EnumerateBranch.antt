-- What enumerate_branch promises leaves one outcome.
use Prim.Native.Nat.{ℕ}
use mathlib.Core.Path.{◌≡◌, sym, ◌∙◌}
use mathlib.Core.List.{List}
use Rattle.store.specs.declared.Counts.{Counts}
use Rattle.asking.specs.EnumerateBranch.{Outcome, branch_outcome}

pub one-outcome : (nodes letters links : List ℕ) (c : Counts) (v : ℕ) (members ends : List ℕ) {x y : Outcome} → x ≡ branch_outcome nodes letters links c v members ends → y ≡ branch_outcome nodes letters links c v members ends → x ≡ y
one-outcome nodes letters links c v members ends p q = p ∙ sym q
