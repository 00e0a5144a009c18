-- A graph that grows line by line. What is inside a graph that fits, fits; what stops a pass stops it for good.
use Prim.Native.Nat.{ℕ, ◌≤◌}
use mathlib.Core.Path.{◌≡◌, refl, ap}
use mathlib.Core.Bool.{Bool, true, false, cond}
use mathlib.Core.List.{List, [], ◌∷◌, ◌++◌}
use native.Mathlib.Omega.{arith}
use lib.ListN.{length, length-append}
use Rattle.handle.specs.Edge.{written}
use Rattle.store.specs.Graph.{Graph, node, link}
use Rattle.store.specs.Views.{linked}
use Rattle.formed.proofs.Says.{room_says, says_room}
use Rattle.kit.specs.Loops.{keep}
use Rattle.text.specs.Pieces.{field, is_line}
use Rattle.text.specs.Names.{name_id}
use Rattle.text.specs.Fields.{edge_of}
use Rattle.reading.specs.Reading.{Store, Progress, counts_of, fits_in, goes_on, with_segment, with_link, pass}
use Rattle.gfa.specs.Narrowings.{segments_into, links_into}

abbrev pub segment_lines : List (List ℕ) → List (List ℕ)
segment_lines ls = keep (is_line 83) ls

abbrev pub link_lines : List (List ℕ) → List (List ℕ)
link_lines ls = keep (is_line 76) ls

abbrev pub segment_id : List ℕ → ℕ
segment_id line = name_id (field 1 line)

-- with the segment, or the link, that a line says
abbrev pub more_segment : Graph → List ℕ → Graph
more_segment g line = with_segment g (segment_id line) (field 2 line)

abbrev pub more_link : Graph → List ℕ → Graph
more_link g line = with_link g (edge_of line)

-- one graph is no larger than another
pub record Less (g h : Graph) : Type 0 where
  pub nodes : length g.nodes ≤ length h.nodes
  pub letters : length g.letters ≤ length h.letters
  pub links : length g.links ≤ length h.links

pub fits_less : (l : Store) (g h : Graph) → Less g h → fits_in l h ≡ true → fits_in l g ≡ true
fits_less l g h s t =
    let r = room_says l.nodes l.letters l.links (counts_of h) t in
    says_room l.nodes l.letters l.links (counts_of g) (record {
      few_nodes = omega (arith, s.nodes, r.few_nodes);
      node_room = omega (arith, s.nodes, r.node_room);
      few_letters = omega (arith, s.letters, r.few_letters);
      letter_room = omega (arith, s.letters, r.letter_room);
      few_links = omega (arith, s.links, r.few_links);
      link_room = omega (arith, s.links, r.link_room);
    })

less_trans : (f g h : Graph) → Less f g → Less g h → Less f h
less_trans f g h a b =
    record {
      nodes = omega (arith, a.nodes, b.nodes);
      letters = omega (arith, a.letters, b.letters);
      links = omega (arith, a.links, b.links);
    }

pub segments_less : (g : Graph) (ks : List (List ℕ)) → Less g (segments_into g ks)
segments_less g [] = record { nodes = omega arith; letters = omega arith; links = omega arith }
segments_less g (k ∷ ks) =
    let h = more_segment g k in
    less_trans g h (segments_into h ks)
    (record {
      nodes = omega (arith, length-append g.nodes (node (segment_id k) (length g.letters) (length (field 2 k)) 0 ∷ []));
      letters = omega (arith, length-append g.letters (field 2 k));
      links = omega arith;
    })
    (segments_less h ks)

links_grow : (g : Graph) (k : List ℕ) → Less g (more_link g k)
links_grow g k = record { nodes = omega arith; letters = omega arith; links = by (linked (edge_of k) g.links) }
  where
    by : (b : Bool) → length g.links ≤ length (cond b g.links (g.links ++ (link (written (edge_of k)) 0 ∷ [])))
    by true = omega arith
    by false = omega (arith, length-append g.links (link (written (edge_of k)) 0 ∷ []))

pub links_less : (g : Graph) (ks : List (List ℕ)) → Less g (links_into g ks)
links_less g [] = record { nodes = omega arith; letters = omega arith; links = omega arith }
links_less g (k ∷ ks) =
    let h = more_link g k in
    less_trans g h (links_into h ks) (links_grow g k) (links_less h ks)

-- links leave nodes and letters as they are
pub links-nodes : (g : Graph) (ks : List (List ℕ)) → (links_into g ks).nodes ≡ g.nodes
links-nodes g [] = refl
links-nodes g (k ∷ ks) = links-nodes (more_link g k) ks

pub links-letters : (g : Graph) (ks : List (List ℕ)) → (links_into g ks).letters ≡ g.letters
links-letters g [] = refl
links-letters g (k ∷ ks) = links-letters (more_link g k) ks

-- what stops a pass stops it for good
pub pass-before : (f : Graph → List ℕ → Progress) (r : Progress) (ls : List (List ℕ)) → goes_on (pass f r ls) ≡ true → goes_on r ≡ true
pass-before f r [] t = t
pass-before f r (line ∷ ls) t = by (goes_on r) refl (pass-before f (cond (goes_on r) (f r.graph line) r) ls t)
  where
    by : (b : Bool) → goes_on r ≡ b → goes_on (cond b (f r.graph line) r) ≡ true → goes_on r ≡ true
    by true e h = e
    by false e h = h

pub goes_same : (f : Graph → List ℕ → Progress) {r s : Progress} (ls : List (List ℕ)) → r ≡ s → goes_on (pass f r ls) ≡ goes_on (pass f s ls)
goes_same f ls e = ap (λ (x : Progress). goes_on (pass f x ls)) e
