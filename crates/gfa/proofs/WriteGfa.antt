-- Each line that is written of a graph is a GFA 1 line.
use Prim.Native.Nat.{ℕ}
use mathlib.Core.Path.{◌≡◌, refl, sym, subst}
use mathlib.Core.Bool.{true}
use mathlib.Core.Logic.{◌⊎◌, inl, inr, ⊎_elim}
use mathlib.Core.List.Memᴰ
use mathlib.Core.List.{List, [], map, Memᴰ}
use Rattle.handle.specs.declared.Handle.{Handle}
use Rattle.store.specs.Graph.{Graph}
use Rattle.store.specs.declared.Link.{Link}
use Rattle.formed.specs.WellFormed.{good_graph}
use Rattle.text.specs.Pieces.{lines_of}
use Rattle.writing.specs.GraphText.{live_segments, live_links, graph_text}
use Rattle.gfa.specs.Gfa1.{is_segment, is_link}
use Rattle.gfa.proofs.WriteFields.{segment_gfa, link_gfa}
use Rattle.gfa.proofs.WriteLines.{segment_text, link_text, segment_line_lem, link_line_lem, written-lines}

-- what a line of the text is: a segment's, a link's, or what follows the last newline
pub data Line (g : Graph) : List ℕ → Type 0 where
  of_segment : {h : Handle} → Memᴰ h (live_segments g.nodes) → Line g (segment_text g h)
  of_link : {r : Link} → Memᴰ r (live_links g) → Line g (link_text r)
  at_end : Line g []

module _ (g : Graph) (good : good_graph g ≡ true) where
  pub line_of : {line : List ℕ} → Memᴰ line (lines_of (graph_text g)) → Line g line
  line_of {line} m =
      let k = subst (Memᴰ line) (written-lines g good) m in
      ⊎_elim
      (λ i. let f = Memᴰ.of_map (segment_text g) (live_segments g.nodes) i in subst (Line g) f.2 (of_segment f.1))
      (λ i.
      ⊎_elim
      (λ j. let f = Memᴰ.of_map link_text (live_links g) j in subst (Line g) f.2 (of_link f.1))
      (λ j. subst (Line g) (sym (Memᴰ.eq_of_singleton j)) at_end)
      (Memᴰ.append_cases (map link_text (live_links g)) i))
      (Memᴰ.append_cases (map (segment_text g) (live_segments g.nodes)) k)

  gfa_by : {line : List ℕ} → Line g line → (is_segment line ≡ true) ⊎ ((is_link line ≡ true) ⊎ (line ≡ []))
  gfa_by (of_segment m) = inl (segment_gfa (segment_line_lem g good m))
  gfa_by (of_link m) = inr (inl (link_gfa (link_line_lem g good m)))
  gfa_by at_end = inr (inr refl)

  pub written_gfa : (line : List ℕ) → Memᴰ line (lines_of (graph_text g)) → (is_segment line ≡ true) ⊎ ((is_link line ≡ true) ⊎ (line ≡ []))
  written_gfa line m = gfa_by (line_of m)
