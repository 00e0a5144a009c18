-- The laws of the search in no order.
use Prim.Native.Nat.{ℕ, ◌-◌, ◌≤◌, ◌<◌}
use mathlib.Core.Path.{◌≡◌, refl, sym, ap, ◌∙◌}
use mathlib.Core.Bool.{Bool, true, false}
use mathlib.Core.List.{List, [], ◌∷◌, ◌++◌}
use lib.ListN.{drop}
use Rattle.kit.specs.Loops.{keep, lines}
use Rattle.handle.specs.declared.Handle.{Handle}
use Rattle.store.specs.Graph.{Graph, links_of}
use Rattle.store.specs.declared.Node.{Node}
use Rattle.store.specs.Views.{live_link}
use Rattle.store.proofs.Fields.{link_at, back_link}
use Rattle.sides.specs.Sides.{rising, next_above}
use Rattle.sides.proofs.Rising.{Sorted, rising_sorted, next-lowest}
use Rattle.sides.specs.Search.{lower, lowest, side_ends, side_of}

pub lowest-append : (above best : ℕ) (xs ys : List Handle) → lowest above best (xs ++ ys) ≡ lowest above (lowest above best ys) xs
lowest-append above best [] ys = refl
lowest-append above best (x ∷ xs) ys = ap (lower above x.packed) (lowest-append above best xs ys)

-- both sides are one list of ends in rising order, and the search finds the next in it
pub side_of_lem : (left : Bool) (g : Graph) (v : Handle) → side_of left g v ≡ rising (lines (side_ends left v) (keep (live_link g.nodes) g.links))
side_of_lem true g v = refl
side_of_lem false g v = refl

pub side_sorted : (left : Bool) (g : Graph) (v : Handle) → Sorted (side_of left g v)
side_sorted left g v = rw (side_of_lem left g v) (rising_sorted (lines (side_ends left v) (keep (live_link g.nodes) g.links)))

pub next-found : (left : Bool) (g : Graph) (v : Handle) (above : ℕ) → lowest above 0 (lines (side_ends left v) (keep (live_link g.nodes) g.links)) ≡ next_above above (side_of left g v)
next-found left g v above = rw (side_of_lem left g v) (sym (next-lowest above (lines (side_ends left v) (keep (live_link g.nodes) g.links))))

-- what the links from slot i on give
abbrev pub from_slot : Bool → Handle → ℕ → List Node → ℕ → List ℕ → ℕ → ℕ
from_slot left v above nodes n l i = lowest above 0 (lines (side_ends left v) (keep (live_link nodes) (drop i (links_of n l))))

-- a turn of the loop, from slot i to the one before
module _ (left : Bool) (v : Handle) (above : ℕ) (nodes : List Node) (n : ℕ) (l : List ℕ) (i best : ℕ) (low : 0 < i) (high : i ≤ n) (e : best ≡ from_slot left v above nodes n l i) where
  pub turn-live : live_link nodes (link_at l (i - 1)) ≡ true → lowest above best (side_ends left v (link_at l (i - 1))) ≡ from_slot left v above nodes n l (i - 1)
  turn-live t = rw (e, back_link n i l low high, t) (sym (lowest-append above 0 (side_ends left v (link_at l (i - 1))) (lines (side_ends left v) (keep (live_link nodes) (drop i (links_of n l))))))

  pub turn_dead : live_link nodes (link_at l (i - 1)) ≡ false → best ≡ from_slot left v above nodes n l (i - 1)
  turn_dead t = rw (back_link n i l low high, t) e

  pub turn-same : lowest above best (side_ends left v (link_at l (i - 1))) ≡ best → best ≡ from_slot left v above nodes n l (i - 1)
  turn-same s = by (live_link nodes (link_at l (i - 1))) refl
    where
      by : (b : Bool) → live_link nodes (link_at l (i - 1)) ≡ b → best ≡ from_slot left v above nodes n l (i - 1)
      by true t = sym s ∙ turn-live t
      by false t = turn_dead t
