-- The split of 2 at 1 in a small graph: 1 is A, 2 is ACG, 3 is T, and every kind of link on 2.
use mathlib.Core.Path.{◌≡◌, refl}
use mathlib.Core.List.{[], ◌∷◌}
use native.Mathlib.Omega.{arith}
use Rattle.letters.specs.Letters.{complement_of, is_letter}
use Rattle.handle.specs.declared.Handle.{Handle}
use Rattle.handle.specs.Handle.{pack, flip}
use Rattle.handle.specs.Edge.{edge, written}
use Rattle.store.specs.Graph.{Graph, node, link}
use Rattle.store.specs.Views.{spell}
use Rattle.split.specs.Split.{move_link, split}
use Rattle.split.proofs.Theorems.{Splits}

abbrev v : Handle
v = pack 2 0

abbrev f : Handle
f = pack 4 0

-- 01: a loop v to v becomes fresh to v; v to flip v becomes fresh to flip fresh
pub loop : move_link v f (link (edge v v) 0) ≡ link (edge f v) 0
unfolding flip written
loop = refl

pub hairpin : move_link v f (link (edge v (flip v)) 0) ≡ link (edge f (flip f)) 0
unfolding flip written
hairpin = refl

-- what is on v's left stays
pub left_hairpin : move_link v f (link (edge (flip v) v) 0) ≡ link (edge (flip v) v) 0
unfolding flip written
left_hairpin = refl

pub left : move_link v f (link (edge (pack 1 0) v) 0) ≡ link (edge (pack 1 0) v) 0
unfolding flip written
left = refl

-- what is on its right moves, marked or not; 2+ to 3- is written from 3 once it starts at 4
pub right : move_link v f (link (edge v (pack 3 0)) 1) ≡ link (edge f (pack 3 0)) 1
unfolding flip written
right = refl

pub right_mixed : move_link v f (link (edge v (pack 3 1)) 0) ≡ link (edge (pack 3 0) (flip f)) 0
unfolding flip written
right_mixed = refl

abbrev g : Graph
g =
    record {
      nodes = node 1 0 1 0 ∷ node 2 1 3 0 ∷ node 3 4 1 0 ∷ [];
      letters = 65 ∷ 65 ∷ 67 ∷ 71 ∷ 84 ∷ [];
      links = link (edge v v) 0 ∷ link (edge (pack 1 0) v) 0 ∷ link (edge v (pack 3 1)) 1 ∷ [];
    }

pub may : Splits g 2 1
unfolding complement_of is_letter flip written
may = record { good = refl; once = refl; low = omega arith; high = omega arith; fits = omega arith }

pub after : split 2 1 g ≡ record {
  nodes = node 1 0 1 0 ∷ node 2 1 1 0 ∷ node 3 4 1 0 ∷ node 4 2 2 0 ∷ [];
  letters = 65 ∷ 65 ∷ 67 ∷ 71 ∷ 84 ∷ [];
  links = link (edge f v) 0 ∷ link (edge (pack 1 0) v) 0 ∷ link (edge (pack 3 0) (flip f)) 1 ∷ link (edge v f) 0 ∷ [];
}
unfolding flip written
after = refl

pub reads : (spell g v ≡ 65 ∷ 67 ∷ 71 ∷ []) × (spell (split 2 1 g) v ≡ 65 ∷ []) × (spell (split 2 1 g) f ≡ 67 ∷ 71 ∷ [])
reads = (refl, refl, refl)
