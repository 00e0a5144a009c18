use Prim.Native.Nat.{ℕ, ◌*◌, ◌≤◌}
use mathlib.Core.Path.{◌≡◌}
use mathlib.Core.List.{List, map}
use lib.ListN.{length, drop}
use Rattle.kit.specs.Loops.{map_from}
use Rattle.store.specs.Graph.{links_of}
use Rattle.merging.specs.Plan.{bury}
use Rattle.linking.proofs.bury_links.Given as goal

-- at the head of the loop: mapping what is left from i on gives the whole map, and what stands after the links is as it was
pub record Inv (links₀ : List ℕ) (count id : ℕ) (links : List ℕ) (i : ℕ) : Type 0 where
  pub bound : i ≤ count
  pub size : length links ≡ length links₀
  pub todo : map_from (bury id) i (links_of count links) ≡ map (bury id) (links_of count links₀)
  pub rest : drop (3 * count) links ≡ drop (3 * count) links₀

abbrev pub invariant-loop-i : goal.invariant-loop-i
invariant-loop-i l = Inv l.initial.links l.count l.id l.links l.i
