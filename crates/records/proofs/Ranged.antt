-- A record out of range is 13; in range its number is that of the flat step.
use Prim.Native.Nat.{ℕ, ◌≤◌}
use mathlib.Core.Path.{◌≡◌, ap₂, ◌∙◌}
use mathlib.Core.Bool.{Bool, true, false, cond}
use mathlib.Core.List.{[], ◌∷◌}
use borrow.Author.Tests.{leb-true}
use lib.Dec.{leb}
use Rattle.kit.proofs.Bools.{and_true_l, and_true_r}
use Rattle.handle.specs.declared.Handle.{Handle}
use Rattle.handle.specs.Handle.{max_id, is_id, pack}
use Rattle.store.specs.Graph.{Graph}
use Rattle.events.specs.Events as events
use Rattle.scanning.specs.Rules.{step_fault}
use Rattle.records.specs.declared.Step.{Step}
use Rattle.records.specs.Records.{in_range, fields_fault}

-- what `pack` asks
module _ (r : Step) (t : in_range r ≡ true) where
  pub id_high : r.id ≤ max_id
  id_high = leb-true r.id max_id (and_true_r (leb 1 r.id) (leb r.id max_id) (and_true_l (is_id r.id) (leb r.direction 1) t))

  pub one_of_two : r.direction ≤ 1
  one_of_two = leb-true r.direction 1 (and_true_r (is_id r.id) (leb r.direction 1) t)

module _ (g : Graph) (first : Bool) (b s : Step) where
  pub before_out : in_range b ≡ false → 13 ≡ fields_fault g first b s
  before_out e = rw e

  pub itself_out : in_range b ≡ true → in_range s ≡ false → 13 ≡ fields_fault g first b s
  itself_out e f = rw (e, f)

  -- the two steps as they were packed, and whether there is one before
  module _ (u v : Handle) (p : u ≡ pack b.id b.direction) (q : v ≡ pack s.id s.direction) (e : in_range b ≡ true) (f : in_range s ≡ true) (alone : Bool) (z : first ≡ alone) where
    abbrev flat : Handle → Handle → ℕ
    flat h k = (step_fault g 0 0 (cond alone [] (events.step_to h b.length ∷ [])) (events.step_to k s.length)).number

    pub both_in : flat u v ≡ fields_fault g first b s
    both_in = ap₂ flat p q ∙ rw (e, f, z)
