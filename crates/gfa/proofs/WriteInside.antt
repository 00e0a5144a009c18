-- The text of a good graph lies inside what is read.
use Prim.Native.Nat.{ℕ}
use mathlib.Core.Path.{◌≡◌, refl, sym, ap, ◌∙◌}
use mathlib.Core.Bool.{Bool, true}
use mathlib.Core.List.{List, [], ◌∷◌, map, map-map, Memᴰ}
use native.Mathlib.Omega.{arith}
use borrow.Author.Tests.{eq-eqb, ne_eqb, eqb-true}
use lib.Dec.{eqb}
use Rattle.kit.specs.Loops.{all, distinct}
use Rattle.kit.proofs.Bools.{and_both, not_of}
use Rattle.kit.proofs.Lists.{distinct-map}
use Rattle.kit.proofs.Meaning.{all_of, none_of}
use Rattle.handle.specs.declared.Handle.{Handle}
use Rattle.handle.specs.declared.Edge.{Edge}
use Rattle.handle.specs.Handle.{id_of, same_handle}
use Rattle.handle.proofs.Handles.{same_id_lem}
use Rattle.store.specs.Graph.{Graph}
use Rattle.store.specs.declared.Link.{Link}
use Rattle.store.specs.Views.{spell}
use Rattle.formed.specs.WellFormed.{good_graph}
use Rattle.sides.proofs.Rising.{Sorted, sorted_nil, sorted_cons}
use Rattle.spelling.specs.Spelling.{all_stored}
use Rattle.text.specs.Pieces.{lines_of, field}
use Rattle.text.specs.Names.{name_id}
use Rattle.text.specs.Fields.{handles_said}
use Rattle.writing.specs.GraphText.{live_segments, live_links, graph_text}
use Rattle.gfa.specs.Gfa1.{is_gfa_line}
use Rattle.gfa.specs.Narrowings.{narrow_line, names_once, names_declared, inside}
use Rattle.gfa.proofs.WriteFields.{segment_line_gfa, segment_narrow, segment_handles, link_line_gfa, link_narrow, link-handles}
use Rattle.gfa.proofs.WriteGfa.{Line, of_segment, of_link, at_end, line_of}
use Rattle.gfa.proofs.WriteLines.{segment_text, link_text, segment_line_lem, link_line_lem, segments-kept}
use Rattle.gfa.proofs.WriteLive.{segmented, joined}
use Rattle.gfa.proofs.WritePart.{live_part, placed-stored}
use Rattle.gfa.proofs.WriteSaid.{segment_said_lem, edge-said, said-live}
use Rattle.writing.proofs.Theorems.{segments_rise}

-- of a rising list no two are the same
sorted_distinct : {hs : List Handle} → Sorted hs → distinct same_handle hs ≡ true
sorted_distinct sorted_nil = refl
sorted_distinct (sorted_cons {x = h} {xs = hs} low s) =
    and_both _ _
    (not_of _ (none_of (same_handle h) hs (λ k m. ne_eqb h.packed k.packed (λ e. omega (arith, low k m)))))
    (sorted_distinct s)

module _ (g : Graph) (good : good_graph g ≡ true) where
  -- a test of every line: of segments, of links, of nothing
  every-line : (p : List ℕ → Bool) → ((h : Handle) → Memᴰ h (live_segments g.nodes) → p (segment_text g h) ≡ true) → ((r : Link) → Memᴰ r (live_links g) → p (link_text r) ≡ true) → p [] ≡ true → all p (lines_of (graph_text g)) ≡ true
  every-line p s l e = all_of p (lines_of (graph_text g)) (λ line m. by (line_of g good m))
    where
      by : {line : List ℕ} → Line g line → p line ≡ true
      by (of_segment {h} m) = s h m
      by (of_link {r} m) = l r m
      by at_end = e

  names_once_lem : names_once (graph_text g) ≡ true
  names_once_lem =
      ap (λ (ls : List (List ℕ)). distinct eqb (map (λ line. name_id (field 1 line)) ls)) (segments-kept g good)
      ∙ ap (distinct eqb) (map-map (λ line. name_id (field 1 line)) (segment_text g) (live_segments g.nodes))
      ∙ distinct-map same_handle eqb (λ h. name_id (field 1 (segment_text g h))) (live_segments g.nodes)
      (sorted_distinct (segments_rise g.nodes))
      (λ h k m n t.
      let i : id_of h ≡ id_of k = sym (segment_said_lem g good m).id ∙ eqb-true _ _ t ∙ (segment_said_lem g good n).id in
      let e : h ≡ k = same_id_lem h k i ((segmented g good m).dir ∙ sym (segmented g good n).dir) in
      eq-eqb h.packed k.packed (ap (λ (x : Handle). x.packed) e))

  -- the ends of a link are stored in the live part
  ends-stored : (r : Link) → Memᴰ r (live_links g) → all_stored (live_part g).nodes (handles_said (link_text r)) ≡ true
  ends-stored r m =
      let j = joined g good m in
      ap (all_stored (live_part g).nodes) (link-handles (link_line_lem g good m) ∙ ap (λ (e : Edge). e.from ∷ e.to ∷ []) (edge-said g good r m))
      ∙ and_both _ _
      (placed-stored (spell g) 0 (id_of r.from) (live_segments g.nodes) j.from_live)
      (and_both _ _ (placed-stored (spell g) 0 (id_of r.to) (live_segments g.nodes) j.to_live) refl)

  names_declared_lem : names_declared (graph_text g) ≡ true
  unfolding handles_said
  names_declared_lem =
      ap (λ (k : Graph). all (λ line. all_stored k.nodes (handles_said line)) (lines_of (graph_text g))) (said-live g good)
      ∙ every-line (λ line. all_stored (live_part g).nodes (handles_said line))
      (λ h m. ap (all_stored (live_part g).nodes) (segment_handles (segment_line_lem g good m)))
      ends-stored refl

  pub written-inside : inside (graph_text g) ≡ true
  written-inside =
      and_both _ _
      (and_both _ _
      (and_both _ _
      (every-line is_gfa_line (λ h m. segment_line_gfa (segment_line_lem g good m)) (λ r m. link_line_gfa (link_line_lem g good m)) refl)
      (every-line narrow_line (λ h m. segment_narrow (segment_line_lem g good m)) (λ r m. link_narrow (link_line_lem g good m)) refl))
      names_once_lem)
      names_declared_lem
