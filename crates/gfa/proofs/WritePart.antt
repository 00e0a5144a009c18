-- The live part of a graph, in the order in which it is written.
use Prim.Native.Nat.{ℕ, ◌+◌}
use mathlib.Core.Path.{◌≡◌, refl, sym, ap, ap₂, ◌∙◌, subst}
use mathlib.Core.Bool.{true}
use mathlib.Core.List.Memᴰ
use mathlib.Core.List.{List, [], ◌∷◌, ◌++◌, map, Memᴰ, append_assoc}
use native.Mathlib.Omega.{arith}
use borrow.Author.Tests.{eq-eqb, eqb-true}
use lib.ListN.{length, take, drop, length-append}
use lib.Seq.{take-append_seam, drop-append_seam}
use Rattle.kit.specs.Decimal.{decimal}
use Rattle.kit.specs.Loops.{all, keep, lines}
use Rattle.kit.proofs.Bools.{and_both}
use Rattle.kit.proofs.Decimal.{decimal_inj}
use Rattle.kit.proofs.Meaning.{any_mem, all_of, all_map, first_some}
use Rattle.letters.specs.Sequences.{oriented}
use Rattle.handle.specs.declared.Handle.{Handle}
use Rattle.handle.specs.Handle.{id_of, dir_of, pack}
use Rattle.handle.proofs.Handles.{id-pack, pack_unpack, same_id_lem}
use Rattle.store.specs.Graph.{Graph, node, link, ends}
use Rattle.store.specs.declared.Node.{Node}
use Rattle.store.specs.declared.Link.{Link}
use Rattle.store.specs.Views.{named, stored, node_named, unmarked_node, live_here, live_node, span, spell, live_link}
use Rattle.formed.specs.WellFormed.{unmarked_link, good_graph}
use Rattle.sides.specs.Sides.{rising}
use Rattle.sides.proofs.Rising.{Sorted, rising_sorted, of_rising, in_rising, sorted_same}
use Rattle.store.specs.Order.{insert_link, written_order}
use Rattle.writing.specs.GraphText.{segment_line, link_line, live_segments, live_links, graph_text}
use Rattle.store.proofs.Order.{Written, Leads, written_nil, written_cons}
use Rattle.text.specs.Bytes.{bytes}
use Rattle.gfa.specs.Said.{Segment}
use Rattle.gfa.specs.Holds.{segment_in, segment_of, LivePart}
use Rattle.gfa.proofs.WriteLists.{keep_all, lines_same}
use Rattle.gfa.proofs.WriteLive.{segmented, joined, links_rise}
use Rattle.writing.proofs.Theorems.{segments_rise}

-- nodes one after another, each with its letters behind those before it
abbrev pub placed : (Handle → List ℕ) → ℕ → List Handle → List Node
placed f at [] = []
placed f at (h ∷ hs) = node (id_of h) at (length (f h)) 0 ∷ placed f (at + length (f h)) hs

abbrev pub plain : Link → Link
plain r = link (ends r) 0

-- nodes by rising id, links in written order, no marks
abbrev pub live_part : Graph → Graph
live_part g =
    record {
      nodes = placed (spell g) 0 (live_segments g.nodes);
      letters = lines (spell g) (live_segments g.nodes);
      links = map plain (live_links g);
    }

module _ (f : Handle → List ℕ) where
  placed-unmarked : (at : ℕ) (hs : List Handle) → all unmarked_node (placed f at hs) ≡ true
  placed-unmarked at [] = refl
  placed-unmarked at (h ∷ hs) = placed-unmarked (at + length (f h)) hs

  -- each has its node, unmarked
  placed_has : {h : Handle} (at : ℕ) (hs : List Handle) → Memᴰ h hs → (r : Node) × Memᴰ r (placed f at hs) × (r.id ≡ id_of h) × (r.mark ≡ 0)
  placed_has at hs (Memᴰ.head {x} {xs} e) = (node (id_of x) at (length (f x)) 0, Memᴰ.head refl, ap id_of (sym e), refl)
  placed_has at hs (Memᴰ.tail {x} {xs} m) = let p = placed_has (at + length (f x)) xs m in (p.0, Memᴰ.tail p.1, p.2, p.3)

  pub placed-stored : (at id : ℕ) (hs : List Handle) → Memᴰ (pack id 0) hs → stored id (placed f at hs) ≡ true
  placed-stored at id hs m =
      let p = placed_has at hs m in
      any_mem (named id) p.1 (eq-eqb p.0.id id (p.2 ∙ id-pack id 0 (omega arith)))

  placed-live : (at id : ℕ) (hs : List Handle) → Memᴰ (pack id 0) hs → live_node id (placed f at hs) ≡ true
  placed-live at id hs m =
      let p = placed_has at hs m in
      any_mem (live_here id) p.1 (and_both _ _ (eq-eqb p.0.id id (p.2 ∙ id-pack id 0 (omega arith))) (eq-eqb p.0.mark 0 p.3))

  -- each has its own letters
  abbrev own : Handle → Segment
  own h = record { name = decimal (id_of h); sequence = f h }

  abbrev within : List ℕ → Node → Segment
  within letters r = record { name = decimal r.id; sequence = span letters r }

  placed-own : (before letters : List ℕ) (hs : List Handle) → letters ≡ before ++ lines f hs → map (within letters) (placed f (length before) hs) ≡ map own hs
  placed-own before letters [] e = refl
  placed-own before letters (h ∷ hs) e =
      let here : span letters (node (id_of h) (length before) (length (f h)) 0) ≡ f h =
      ap (λ (l : List ℕ). take (length (f h)) l) (ap (drop (length before)) e ∙ drop-append_seam before (f h ++ lines f hs))
      ∙ take-append_seam (f h) (lines f hs)
      in
      let next : map (within letters) (placed f (length before + length (f h)) hs) ≡ map own hs =
      ap (λ (at : ℕ). map (within letters) (placed f at hs)) (sym (length-append before (f h)))
      ∙ placed-own (before ++ f h) letters hs (e ∙ sym (append_assoc before (f h) (lines f hs)))
      in
      ap₂ (λ (s : List ℕ) (ss : List Segment). record { name = decimal (id_of h); sequence = s } ∷ ss) here next

  -- a list of forward nodes that rises is the list of its live segments
  placed-forward : (at : ℕ) (hs : List Handle) → ((h : Handle) → Memᴰ h hs → dir_of h ≡ 0) → map (λ r. pack r.id 0) (placed f at hs) ≡ hs
  placed-forward at [] d = refl
  placed-forward at (h ∷ hs) d =
      ap₂ (λ (x : Handle) (xs : List Handle). x ∷ xs)
      (ap (pack (id_of h)) (sym (d h (Memᴰ.head refl))) ∙ pack_unpack h)
      (placed-forward (at + length (f h)) hs (λ x m. d x (Memᴰ.tail m)))

  placed-segments : (at : ℕ) {hs : List Handle} → Sorted hs → ((h : Handle) → Memᴰ h hs → dir_of h ≡ 0) → live_segments (placed f at hs) ≡ hs
  placed-segments at {hs} s d =
      ap (λ (rs : List Node). rising (map (λ r. pack r.id 0) rs)) (keep_all unmarked_node (placed f at hs) (placed-unmarked at hs))
      ∙ ap rising (placed-forward at hs d)
      ∙ sorted_same (rising_sorted hs) s (λ u m. of_rising hs m) (λ u m. in_rising m)

-- links in written order, without their marks
plain_order : {rs : List Link} → Written rs → written_order (map plain rs) ≡ map plain rs
plain_order written_nil = refl
plain_order (written_cons {x = r} {xs = rs} low w) = ap (insert_link (plain r)) (plain_order w) ∙ first rs low
  where
    first : (ss : List Link) → Leads r ss → insert_link (plain r) (map plain ss) ≡ plain r ∷ map plain ss
    first [] t = refl
    first (s ∷ ss) t = rw (t s (Memᴰ.head refl))

plain_lines : (rs : List Link) → lines link_line (map plain rs) ≡ lines link_line rs
unfolding link_line
plain_lines [] = refl
plain_lines (r ∷ rs) = ap (λ (l : List ℕ). link_line r ++ l) (plain_lines rs)

line_same : (g k : Graph) (h : Handle) → spell g h ≡ spell k h → segment_line g h ≡ segment_line k h
unfolding segment_line
line_same g k h e = ap (λ (s : List ℕ). bytes "S\t" ++ decimal (id_of h) ++ bytes "\t" ++ s ++ bytes "\n") e

-- what the live part holds is what is written
live_own : (g : Graph) → map (segment_in (live_part g)) (live_part g).nodes ≡ map (segment_of g) (live_segments g.nodes)
live_own g = placed-own (spell g) [] (live_part g).letters (live_segments g.nodes) refl

pub live_is : (g : Graph) → LivePart g (live_part g)
live_is g =
    record {
      nodes_same = live_own g;
      links_same = refl;
      no_marks =
          and_both _ _ (placed-unmarked (spell g) 0 (live_segments g.nodes))
          (all_map unmarked_link plain (live_links g) ∙ all_of (λ r. true) (live_links g) (λ r m. refl));
    }

module _ (g : Graph) (good : good_graph g ≡ true) where
  own-node : (h : Handle) → Memᴰ h (live_segments g.nodes) → Memᴰ (node_named (id_of h) (live_part g).nodes) (live_part g).nodes × ((node_named (id_of h) (live_part g).nodes).id ≡ id_of h)
  own-node h m =
      let e : pack (id_of h) 0 ≡ h = ap (pack (id_of h)) (sym (segmented g good m).dir) ∙ pack_unpack h in
      let t = placed-stored (spell g) 0 (id_of h) (live_segments g.nodes) (Memᴰ.cast e m) in
      let f = first_some (named (id_of h)) (node 0 0 0 0) (live_part g).nodes t in
      (f.0, eqb-true _ (id_of h) f.1)

  -- its nodes read the same
  live-spell : (h : Handle) → Memᴰ h (live_segments g.nodes) → spell (live_part g) h ≡ spell g h
  live-spell h m =
      let r : Node = node_named (id_of h) (live_part g).nodes in
      let n = own-node h m in
      let q = subst (Memᴰ (segment_in (live_part g) r)) (live_own g) (Memᴰ.map (segment_in (live_part g)) n.0) in
      let k = Memᴰ.of_map (segment_of g) (live_segments g.nodes) q in
      let i : id_of k.0 ≡ id_of h = decimal_inj (id_of k.0) r.id (ap (λ (s : Segment). s.name) k.2) ∙ n.1 in
      let e : k.0 ≡ h = same_id_lem k.0 h i ((segmented g good k.1).dir ∙ sym (segmented g good m).dir) in
      ap (λ (d : ℕ). oriented d (span (live_part g).letters r)) (segmented g good m).dir
      ∙ sym (ap (λ (s : Segment). s.sequence) k.2)
      ∙ ap (spell g) e

  live_links_lem : keep (live_link (live_part g).nodes) (map plain (live_links g)) ≡ map plain (live_links g)
  live_links_lem =
      keep_all (live_link (live_part g).nodes) (map plain (live_links g))
      (all_map (live_link (live_part g).nodes) plain (live_links g)
      ∙ all_of (λ r. live_link (live_part g).nodes (plain r)) (live_links g) (λ r m.
      let j = joined g good m in
      and_both _ _
      (placed-live (spell g) 0 (id_of r.from) (live_segments g.nodes) j.from_live)
      (placed-live (spell g) 0 (id_of r.to) (live_segments g.nodes) j.to_live)))

  -- and its text is the same
  pub live-text : graph_text (live_part g) ≡ graph_text g
  live-text =
      ap₂ ◌++◌
      (ap (lines (segment_line (live_part g))) (placed-segments (spell g) 0 (segments_rise g.nodes) (λ h m. (segmented g good m).dir))
      ∙ lines_same (segment_line (live_part g)) (segment_line g) (live_segments g.nodes) (λ h m. line_same (live_part g) g h (live-spell h m)))
      (ap (λ (rs : List Link). lines link_line (written_order rs)) live_links_lem
      ∙ ap (lines link_line) (plain_order (links_rise g good))
      ∙ plain_lines (live_links g))
