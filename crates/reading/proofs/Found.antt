-- Whether a lookup finds something, and what clearing leaves.
use Prim.Native.Nat.{ℕ}
use mathlib.Core.Path.{◌≡◌, refl, ap}
use mathlib.Core.List.{List, [], ◌∷◌}
use lib.ListN.{length, replicate}
use Rattle.std.specs.Option.{is_some}
use Rattle.kit.proofs.Meaning.{found_some}
use Rattle.handle.specs.declared.Edge.{Edge}
use Rattle.store.specs.declared.Node.{Node}
use Rattle.store.specs.declared.Link.{Link}
use Rattle.store.specs.Views.{named, find_node, stored, joins, find_link, linked}
use Rattle.reading.specs.Outcome.{zeros}

pub node_there : (id : ℕ) (rs : List Node) → is_some (find_node id rs) ≡ stored id rs
node_there id rs = found_some (named id) 0 rs

pub link_there : (e : Edge) (rs : List Link) → is_some (find_link e rs) ≡ linked e rs
link_there e rs = found_some (joins e) 0 rs

pub zeros_are : (l : List ℕ) → replicate (length l) 0 ≡ zeros l
zeros_are [] = refl
zeros_are (x ∷ l) = ap (λ (k : List ℕ). 0 ∷ k) (zeros_are l)
