-- The segments that a text says, as nodes: well formed, unmarked, their ids apart, and each with its line's name and letters.
use Prim.Native.Nat.{ℕ, ◌≤◌}
use mathlib.Core.Path.{◌≡◌, refl, sym, ap, ap₂, ◌∙◌}
use mathlib.Core.Bool.{Bool, true, not, ◌&&◌}
use mathlib.Core.List.{List, [], ◌∷◌, ◌++◌, map, map-append, append-nil, Memᴰ}
use native.Mathlib.Omega.{arith}
use lib.Dec.{eqb}
use lib.ListN.{length, take, length-append, length-drop}
use lib.Seq.{append_snoc, drop-append-le, take-append-le, drop-append_seam, take-length}
use Rattle.kit.specs.Decimal.{decimal}
use Rattle.kit.specs.Loops.{all, distinct}
use Rattle.kit.proofs.Bools.{and_both, and_true_l, and_true_r}
use Rattle.kit.proofs.Meaning.{all_append, all_mem, all_of}
use Rattle.letters.specs.Sequences.{all_letters}
use Rattle.store.specs.Graph.{Graph, node}
use Rattle.store.specs.declared.Node.{Node}
use Rattle.store.specs.Views.{span, unmarked_node}
use Rattle.formed.specs.WellFormed.{good_node, ids_once}
use Rattle.formed.proofs.Says.{node_says, says_node}
use Rattle.text.specs.Pieces.{field}
use Rattle.text.specs.Names.{is_name, name_id}
use Rattle.text.proofs.Naming.{decimal_name, id_name, id_range, name_some}
use Rattle.gfa.specs.Said.{Segment, segment_said}
use Rattle.gfa.specs.Narrowings.{narrow_segment, segments_into}
use Rattle.gfa.specs.Holds.{segment_in}
use Rattle.gfa.proofs.ReadGrowth.{segment_id, more_segment}
use Rattle.gfa.proofs.ReadOne.{ids, stored-ids}

pub name_said : (bs : List ℕ) → is_name bs ≡ true → decimal (name_id bs) ≡ bs
name_said bs t = ap decimal (id_name bs t) ∙ decimal_name bs t

-- a segment line that is read
pub record SegmentRead (line : List ℕ) : Type 0 where
  pub narrow : narrow_segment line ≡ true
  pub some : 1 ≤ length (field 2 line)

-- letters after a node's own leave it as it is
module _ (letters s : List ℕ) (r : Node) (t : good_node letters r ≡ true) where
  span-kept : span (letters ++ s) r ≡ span letters r
  span-kept =
      let g = node_says letters r t in
      ap (take r.len) (drop-append-le r.start letters s (omega (arith, g.inside)))
      ∙ take-append-le r.len _ s (omega (arith, g.inside, length-drop r.start letters))

  good_kept : good_node (letters ++ s) r ≡ true
  good_kept =
      let g = node_says letters r t in
      says_node (letters ++ s) r (record {
        id_low = g.id_low;
        id_high = g.id_high;
        mark_bit = g.mark_bit;
        some_letter = g.some_letter;
        inside = omega (arith, g.inside, length-append letters s);
        ten_letters = ap all_letters span-kept ∙ g.ten_letters;
      })

module _ (g : Graph) (line : List ℕ) (l : SegmentRead line) where
  abbrev new : Node
  new = node (segment_id line) (length g.letters) (length (field 2 line)) 0

  abbrev more : Graph
  more = more_segment g line

  named : is_name (field 1 line) ≡ true
  named = and_true_l (is_name (field 1 line)) (all_letters (field 2 line)) l.narrow

  span-new : span more.letters new ≡ field 2 line
  span-new = ap (take (length (field 2 line))) (drop-append_seam g.letters (field 2 line)) ∙ take-length (field 2 line)

  good_new : good_node more.letters new ≡ true
  good_new =
      says_node more.letters new (record {
        id_low = omega (arith, id_name (field 1 line) named, name_some (field 1 line) named);
        id_high = id_range (field 1 line);
        mark_bit = omega arith;
        some_letter = l.some;
        inside = omega (arith, length-append g.letters (field 2 line));
        ten_letters = ap all_letters span-new ∙ and_true_r (is_name (field 1 line)) (all_letters (field 2 line)) l.narrow;
      })

  good_more : all (good_node g.letters) g.nodes ≡ true → all (good_node more.letters) more.nodes ≡ true
  good_more t =
      all_append (good_node more.letters) g.nodes (new ∷ [])
      ∙ and_both _ _
      (all_of _ g.nodes (λ r m. good_kept g.letters (field 2 line) r (all_mem (good_node g.letters) t m)))
      (and_both _ true good_new refl)

  -- and each node is the segment that it was
  held_kept : (rs : List Node) → all (good_node g.letters) rs ≡ true → map (segment_in more) rs ≡ map (segment_in g) rs
  held_kept [] t = refl
  held_kept (r ∷ rs) t =
      ap₂ {C = List Segment} (λ (s : List ℕ) (k : List Segment). record { name = decimal r.id; sequence = s } ∷ k)
      (span-kept g.letters (field 2 line) r (and_true_l (good_node g.letters r) _ t))
      (held_kept rs (and_true_r (good_node g.letters r) _ t))

  held_new : segment_in more new ≡ segment_said line
  held_new = ap₂ {C = Segment} (λ (n s : List ℕ). record { name = n; sequence = s }) (name_said (field 1 line) named) span-new

  held_more : all (good_node g.letters) g.nodes ≡ true → map (segment_in more) more.nodes ≡ map (segment_in g) g.nodes ++ (segment_said line ∷ [])
  held_more t = map-append _ g.nodes (new ∷ []) ∙ ap₂ (λ (a : List Segment) (b : Segment). a ++ (b ∷ [])) (held_kept g.nodes t) held_new

pub nodes_good : (g : Graph) (ks : List (List ℕ)) → ((k : List ℕ) → Memᴰ k ks → SegmentRead k) → all (good_node g.letters) g.nodes ≡ true → all (good_node (segments_into g ks).letters) (segments_into g ks).nodes ≡ true
nodes_good g [] h t = t
nodes_good g (k ∷ ks) h t = nodes_good (more_segment g k) ks (λ j m. h j (Memᴰ.tail m)) (good_more g k (h k (Memᴰ.head refl)) t)

pub nodes_held : (g : Graph) (ks : List (List ℕ)) → ((k : List ℕ) → Memᴰ k ks → SegmentRead k) → all (good_node g.letters) g.nodes ≡ true → map (segment_in (segments_into g ks)) (segments_into g ks).nodes ≡ map (segment_in g) g.nodes ++ map segment_said ks
nodes_held g [] h t = sym (append-nil _)
nodes_held g (k ∷ ks) h t =
    let l = h k (Memᴰ.head refl) in
    nodes_held (more_segment g k) ks (λ j m. h j (Memᴰ.tail m)) (good_more g k l t)
    ∙ ap (λ (a : List Segment). a ++ map segment_said ks) (held_more g k l t)
    ∙ append_snoc (map (segment_in g) g.nodes) (segment_said k) (map segment_said ks)

pub nodes-unmarked : (g : Graph) (ks : List (List ℕ)) → all unmarked_node g.nodes ≡ true → all unmarked_node (segments_into g ks).nodes ≡ true
nodes-unmarked g [] t = t
nodes-unmarked g (k ∷ ks) t = nodes-unmarked (more_segment g k) ks (all_append unmarked_node g.nodes _ ∙ and_both _ true t refl)

pub segment_ids : (g : Graph) (ks : List (List ℕ)) → ids (segments_into g ks) ≡ ids g ++ map segment_id ks
segment_ids g [] = sym (append-nil (ids g))
segment_ids g (k ∷ ks) =
    segment_ids (more_segment g k) ks
    ∙ ap (λ (a : List ℕ). a ++ map segment_id ks) (map-append (λ r. r.id) g.nodes _) ∙ append_snoc (ids g) (segment_id k) (map segment_id ks)

pub links_untouched : (g : Graph) (ks : List (List ℕ)) → (segments_into g ks).links ≡ g.links
links_untouched g [] = refl
links_untouched g (k ∷ ks) = links_untouched (more_segment g k) ks

pub ids_once_lem : (rs : List Node) → ids_once rs ≡ distinct eqb (map (λ r. r.id) rs)
ids_once_lem [] = refl
ids_once_lem (r ∷ rs) = ap₂ (λ (a b : Bool). not a && b) (stored-ids r.id rs) (ids_once_lem rs)
