-- The lines that are written of a good graph, and the fields of each.
use Prim.Native.Nat.{ℕ, ◌≤◌}
use mathlib.Core.Path.{◌≡◌, sym, ap, ap₂, ◌∙◌}
use mathlib.Core.Bool.{Bool, true, false}
use mathlib.Core.List.{List, [], ◌∷◌, ◌++◌, map, Memᴰ, append_assoc, append-nil}
use native.Mathlib.Omega.{arith}
use lib.Dec.{eqb}
use Rattle.kit.specs.Decimal.{decimal}
use Rattle.kit.specs.Loops.{all, any, keep, lines}
use Rattle.kit.proofs.Meaning.{all_of, none_of, keep_append, all_map, any-map}
use Rattle.handle.specs.declared.Handle.{Handle}
use Rattle.handle.specs.Handle.{max_id, id_of, pack}
use Rattle.handle.proofs.Handles.{id-pack}
use Rattle.store.specs.Graph.{Graph}
use Rattle.store.specs.declared.Link.{Link}
use Rattle.store.specs.Views.{spell}
use Rattle.formed.specs.WellFormed.{good_graph}
use Rattle.text.specs.Bytes.{bytes}
use Rattle.text.specs.Pieces.{lines_of, is_line}
use Rattle.text.proofs.Naming.{name_decimal}
use Rattle.writing.specs.Marks.{sign_of}
use Rattle.writing.specs.GraphText.{segment_line, link_line, live_segments, live_links, graph_text}
use Rattle.gfa.specs.Gfa1.{is_graphic}
use Rattle.gfa.proofs.WriteCuts.{cut-lines, cut-tabbed, tabbed, tabbed-free}
use Rattle.gfa.proofs.WriteFields.{SegmentLine, LinkLine, decimal_graphic, letters_graphic, sign_graphic, decimal_gfa, letters_gfa, sign_gfa, segment_is, segment_no_link, link_is, link_no_segment}
use Rattle.gfa.proofs.WriteLists.{keep_all, keep_none}
use Rattle.gfa.proofs.WriteLive.{Segmented, segmented, joined}

-- a line's fields
abbrev segment_words : Graph → Handle → List (List ℕ)
segment_words g h = bytes "S" ∷ decimal (id_of h) ∷ spell g h ∷ []

abbrev link_words : Link → List (List ℕ)
link_words r =
    bytes "L" ∷ decimal (id_of r.from) ∷ (sign_of r.from ∷ []) ∷ decimal (id_of r.to) ∷ (sign_of r.to ∷ []) ∷ bytes "0M" ∷ []

-- and the line, without its newline
unfoldable pub segment_text : Graph → Handle → List ℕ
segment_text g h = tabbed (segment_words g h)

unfoldable pub link_text : Link → List ℕ
link_text r = tabbed (link_words r)

segment_ends : (g : Graph) (h : Handle) → segment_line g h ≡ segment_text g h ++ (10 ∷ [])
unfolding segment_line segment_text
segment_ends g h = simp append_assoc

link-ends : (r : Link) → link_line r ≡ link_text r ++ (10 ∷ [])
unfolding link_line link_text
link-ends r = simp append_assoc

segment_graphic : (g : Graph) {h : Handle} → Segmented g h → all (all is_graphic) (segment_words g h) ≡ true
segment_graphic g {h} s = rw (decimal_graphic (id_of h), letters_graphic (spell g h) s.letters)

link_graphic : (r : Link) → all (all is_graphic) (link_words r) ≡ true
link_graphic r = rw (decimal_graphic (id_of r.from), sign_graphic r.from, decimal_graphic (id_of r.to), sign_graphic r.to)

module _ (g : Graph) (good : good_graph g ≡ true) where
  pub segment_line_lem : {h : Handle} → Memᴰ h (live_segments g.nodes) → SegmentLine (segment_text g h) (decimal (id_of h)) (spell g h)
  unfolding segment_text
  segment_line_lem {h} m =
      let s = segmented g good m in
      let t = segment_graphic g s in
      record {
        fields = cut-tabbed (bytes "S") (decimal (id_of h) ∷ spell g h ∷ []) t;
        no_return = tabbed-free 13 (omega arith) (λ e. omega arith) (segment_words g h) t;
        name_gfa = decimal_gfa (id_of h);
        sequence_gfa = letters_gfa (spell g h) s.some s.letters;
        name_is = name_decimal (id_of h) s.id_low s.id_high;
        letters_are = s.letters;
      }

  -- the id of a live node is in range
  pub live_name : (id : ℕ) → Memᴰ (pack id 0) (live_segments g.nodes) → (1 ≤ id) × (id ≤ max_id)
  live_name id m =
      let s = segmented g good m in
      let e = id-pack id 0 (omega arith) in
      (omega (arith, s.id_low), omega (arith, s.id_high))

  pub link_line_lem : {r : Link} → Memᴰ r (live_links g) → LinkLine (link_text r) (decimal (id_of r.from)) (sign_of r.from ∷ []) (decimal (id_of r.to)) (sign_of r.to ∷ [])
  unfolding link_text
  link_line_lem {r} m =
      let j = joined g good m in
      let f = live_name (id_of r.from) j.from_live in
      let t = live_name (id_of r.to) j.to_live in
      record {
        fields = cut-tabbed (bytes "L") _ (link_graphic r);
        no_return = tabbed-free 13 (omega arith) (λ e. omega arith) (link_words r) (link_graphic r);
        from_gfa = decimal_gfa (id_of r.from);
        first_sign = sign_gfa r.from;
        to_gfa = decimal_gfa (id_of r.to);
        second_sign = sign_gfa r.to;
        from_is = name_decimal (id_of r.from) f.0 f.1;
        to_is = name_decimal (id_of r.to) t.0 t.1;
      }

  segment_whole : (h : Handle) → Memᴰ h (live_segments g.nodes) → any (eqb 10) (segment_text g h) ≡ false
  unfolding segment_text
  segment_whole h m = tabbed-free 10 (omega arith) (λ e. omega arith) (segment_words g h) (segment_graphic g (segmented g good m))

  link_whole : (r : Link) → any (eqb 10) (link_text r) ≡ false
  unfolding link_text
  link_whole r = tabbed-free 10 (omega arith) (λ e. omega arith) (link_words r) (link_graphic r)

  -- the lines of the text: S lines, L lines, and nothing after the last newline
  pub written-lines : lines_of (graph_text g) ≡ map (segment_text g) (live_segments g.nodes) ++ (map link_text (live_links g) ++ ([] ∷ []))
  written-lines =
      let after : lines_of (lines link_line (live_links g)) ≡ map link_text (live_links g) ++ ([] ∷ []) =
      ap lines_of (sym (append-nil (lines link_line (live_links g)))) ∙ cut-lines link_line link_text (live_links g) [] link-ends (λ r m. link_whole r)
      in
      cut-lines (segment_line g) (segment_text g) (live_segments g.nodes) (lines link_line (live_links g)) (segment_ends g) segment_whole
      ∙ ap (λ (ls : List (List ℕ)). map (segment_text g) (live_segments g.nodes) ++ ls) after

  segments : List (List ℕ)
  segments = map (segment_text g) (live_segments g.nodes)

  links : List (List ℕ)
  links = map link_text (live_links g)

  kept : (p : List ℕ → Bool) → keep p (lines_of (graph_text g)) ≡ keep p segments ++ (keep p links ++ keep p ([] ∷ []))
  unfolding segments links
  kept p =
      ap (keep p) written-lines ∙ keep_append p segments (links ++ ([] ∷ []))
      ∙ ap (λ (ls : List (List ℕ)). keep p segments ++ ls) (keep_append p links ([] ∷ []))

  -- the S lines of the text, and its L lines
  pub segments-kept : keep (is_line 83) (lines_of (graph_text g)) ≡ map (segment_text g) (live_segments g.nodes)
  unfolding segments links
  segments-kept =
      let s = all_map (is_line 83) (segment_text g) (live_segments g.nodes) ∙ all_of _ _ (λ h m. segment_is (segment_line_lem m)) in
      let l = any-map (is_line 83) link_text (live_links g) ∙ none_of _ _ (λ r m. link_no_segment (link_line_lem m)) in
      kept (is_line 83)
      ∙ ap₂ (λ (a b : List (List ℕ)). a ++ (b ++ [])) (keep_all (is_line 83) segments s) (keep_none (is_line 83) links l)
      ∙ append-nil segments

  pub links-kept : keep (is_line 76) (lines_of (graph_text g)) ≡ map link_text (live_links g)
  unfolding segments links
  links-kept =
      let s = any-map (is_line 76) (segment_text g) (live_segments g.nodes) ∙ none_of _ _ (λ h m. segment_no_link (segment_line_lem m)) in
      let l = all_map (is_line 76) link_text (live_links g) ∙ all_of _ _ (λ r m. link_is (link_line_lem m)) in
      kept (is_line 76)
      ∙ ap₂ (λ (a b : List (List ℕ)). a ++ (b ++ [])) (keep_none (is_line 76) segments s) (keep_all (is_line 76) links l)
      ∙ append-nil links
