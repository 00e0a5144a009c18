-- The slot of the node that is split.
use Prim.Native.Nat.{ℕ, zero, suc, ◌<◌, suc-le-suc}
use mathlib.Core.Path.{◌≡◌, refl, ◌∙◌}
use mathlib.Core.Bool.{Bool, true, false}
use mathlib.Core.List.{List, [], ◌∷◌, map}
use native.Mathlib.Nat.{sub-zero, le_of_suc-le-suc, not-suc-le-zero}
use native.Mathlib.Omega.{arith}
use borrow.Author.Tests.{eqb-true}
use lib.Dec.{ltb}
use lib.ListN.{length, get_or, set}
use Rattle.std.specs.Prelude.{Some}
use Rattle.kit.proofs.Bools.{tests}
use Rattle.kit.proofs.Meaning.{distinct-at}
use Rattle.kit.proofs.Steps.{FoundAt, found_at}
use Rattle.store.specs.Graph.{nodes_of}
use Rattle.store.specs.declared.Node.{Node}
use Rattle.store.specs.Views.{named, find_node, node_named}
use Rattle.formed.specs.WellFormed.{ids_once}
use Rattle.store.proofs.Fields.{node_at, node_is}
use Rattle.split.specs.Split.{cut}
use Rattle.kit.proofs.Lists.{map-one}

-- the node `id` stands at `at`, and nowhere else
pub record Slot (id : ℕ) (rs : List Node) (at : ℕ) : Type 0 where
  pub inside : at < length rs
  pub here : (d : Node) → named id (get_or rs at d) ≡ true
  pub others : (j : ℕ) → j < length rs → (j ≡ at → ⊥) → (d : Node) → named id (get_or rs j d) ≡ false

module _ (id at : ℕ) (rs : List Node) (f : find_node id rs ≡ Some at) (once : ids_once rs ≡ true) where
  found : FoundAt (named id) 0 rs at
  found = found_at (named id) 0 at rs f

  inside : at < length rs
  inside = omega (arith, found.high)

  here : (d : Node) → named id (get_or rs at d) ≡ true
  here d = rw sub-zero at (found.passes d)

  other : (j : ℕ) (b : Bool) → ltb j at ≡ b → j < length rs → (j ≡ at → ⊥) → (d : Node) → named id (get_or rs j d) ≡ false
  other j true t h n d = found.first j (omega (arith, tests)) d
  other j false t h n d =
      rw (eqb-true (get_or rs at d).id id (here d)) at (distinct-at (λ r s. named r.id s) rs once at j (omega (arith, tests, n)) h d)

  pub slot : Slot id rs at
  slot = record { inside = inside; here = here; others = λ j. other j (ltb j at) refl }

module _ {id at : ℕ} {rs : List Node} (s : Slot id rs at) where
  -- the cut changes that slot alone
  pub cut-set : (k : ℕ) (d : Node) → map (cut id k) rs ≡ set rs at (cut id k (get_or rs at d))
  cut-set k d = map-one (cut id k) rs at d s.inside (λ j h n e. rw (s.others j h n e))

-- and it is the one that the id names
pub named-at : (id at : ℕ) (rs : List Node) (d : Node) → Slot id rs at → node_named id rs ≡ get_or rs at d
named-at id at [] d s = absurd (not-suc-le-zero s.inside)
named-at id zero (r ∷ rs) d s = rw (s.here d)
named-at id (suc at) (r ∷ rs) d s =
    rw (s.others 0 (omega arith) (λ e. omega arith) d)
    (named-at id at rs d (record {
      inside = le_of_suc-le-suc s.inside;
      here = s.here;
      others = λ j h n. s.others (suc j) (suc-le-suc h) (λ e. n (omega arith));
    }))

-- as the code reads it
pub node-read : (n id at : ℕ) (l : List ℕ) → at < n → find_node id (nodes_of n l) ≡ Some at → ids_once (nodes_of n l) ≡ true → node_named id (nodes_of n l) ≡ node_at l at
node-read n id at l h f once =
    named-at id at (nodes_of n l) (node_at l at) (slot id at (nodes_of n l) f once) ∙ node_is n at l h (node_at l at)
