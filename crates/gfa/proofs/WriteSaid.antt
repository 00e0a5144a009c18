-- What the text of a good graph says: its live part, in the order in which it is written.
use Prim.Native.Nat.{ℕ}
use mathlib.Core.Path.{◌≡◌, refl, sym, ap, ap₂, ◌∙◌}
use mathlib.Core.Bool.{Bool, true, false, cond}
use mathlib.Core.Logic.{⊎_elim}
use mathlib.Core.List.Memᴰ
use mathlib.Core.List.{List, [], ◌∷◌, ◌++◌, map, Memᴰ, append_assoc, append-nil}
use native.Mathlib.Omega.{arith}
use lib.Dec.{eqb}
use lib.ListN.{length, length-append}
use Rattle.kit.specs.Decimal.{decimal}
use Rattle.kit.specs.Loops.{lines}
use Rattle.kit.proofs.Bools.{tests, not_true_false}
use Rattle.kit.proofs.Decimal.{value-decimal}
use Rattle.kit.proofs.Meaning.{none_of}
use Rattle.handle.specs.declared.Handle.{Handle}
use Rattle.handle.specs.declared.Edge.{Edge}
use Rattle.handle.specs.Handle.{id_of, dir_of, pack}
use Rattle.handle.specs.Edge.{edge, written, edge_before}
use Rattle.handle.proofs.Handles.{pack_unpack, dir_small}
use Rattle.handle.proofs.Edges.{written_same, before_irrefl}
use Rattle.store.specs.Graph.{Graph, node, ends}
use Rattle.store.specs.declared.Node.{Node}
use Rattle.store.specs.declared.Link.{Link}
use Rattle.store.specs.Views.{spell, joins, linked}
use Rattle.formed.specs.WellFormed.{good_graph}
use Rattle.text.specs.Pieces.{field}
use Rattle.text.specs.Names.{is_name, name_id}
use Rattle.text.specs.Steps.{sign_dir}
use Rattle.text.specs.Fields.{edge_of}
use Rattle.text.proofs.Naming.{id_name}
use Rattle.reading.specs.Reading.{with_segment, with_link, empty}
use Rattle.writing.specs.Marks.{sign_of}
use Rattle.writing.specs.GraphText.{live_segments, live_links, graph_text}
use Rattle.store.proofs.Order.{Written, written_nil, written_cons}
use Rattle.gfa.specs.Narrowings.{segments_into, links_into, graph_said}
use Rattle.gfa.proofs.WriteFields.{segment_name, segment_letters, link-edge}
use Rattle.gfa.proofs.WriteLines.{segment_text, link_text, segment_line_lem, link_line_lem, segments-kept, links-kept}
use Rattle.gfa.proofs.WriteLive.{joined, links_rise}
use Rattle.gfa.proofs.WritePart.{placed, plain, live_part}

abbrev made : List Node → List ℕ → List Link → Graph
made nodes letters links = record { nodes = nodes; letters = letters; links = links }

-- an id in decimal says the id
says_id : (n : ℕ) → is_name (decimal n) ≡ true → name_id (decimal n) ≡ n
says_id n t = id_name (decimal n) t ∙ value-decimal n

-- S lines, one after another
pub record SegmentSaid (g : Graph) (h : Handle) : Type 0 where
  pub id : name_id (field 1 (segment_text g h)) ≡ id_of h
  pub letters : field 2 (segment_text g h) ≡ spell g h

pub segment_said_lem : (g : Graph) → good_graph g ≡ true → {h : Handle} → Memᴰ h (live_segments g.nodes) → SegmentSaid g h
segment_said_lem g good {h} m =
    let l = segment_line_lem g good m in
    record { id = ap name_id (segment_name l) ∙ says_id (id_of h) l.name_is; letters = segment_letters l }

segments_into_lem : (g : Graph) (hs : List Handle) → ((h : Handle) → Memᴰ h hs → SegmentSaid g h) → (k : Graph) → segments_into k (map (segment_text g) hs) ≡ made (k.nodes ++ placed (spell g) (length k.letters) hs) (k.letters ++ lines (spell g) hs) k.links
segments_into_lem g [] s k =
    ap₂ (λ (n : List Node) (l : List ℕ). made n l k.links) (sym (append-nil k.nodes)) (sym (append-nil k.letters))
segments_into_lem g (h ∷ hs) s k =
    let l = s h (Memᴰ.head refl) in
    let n : Node = node (id_of h) (length k.letters) (length (spell g h)) 0 in
    ap₂ (λ (i : ℕ) (t : List ℕ). segments_into (with_segment k i t) (map (segment_text g) hs)) l.id l.letters
    ∙ segments_into_lem g hs (λ x m. s x (Memᴰ.tail m)) (with_segment k (id_of h) (spell g h))
    ∙ ap₂ (λ (ns : List Node) (ls : List ℕ). made ns ls k.links)
    (append_assoc k.nodes (n ∷ []) _
    ∙ ap (λ (at : ℕ). k.nodes ++ (n ∷ placed (spell g) at hs)) (length-append k.letters (spell g h)))
    (append_assoc k.letters (spell g h) (lines (spell g) hs))

-- an L line says its link
sign_dir_lem : (h : Handle) → sign_dir (sign_of h) ≡ dir_of h
sign_dir_lem h = by (eqb (dir_of h) 0) refl
  where
    by : (b : Bool) → eqb (dir_of h) 0 ≡ b → sign_dir (cond b 43 45) ≡ dir_of h
    by true e = omega (arith, tests)
    by false e = omega (arith, tests, dir_small h)

says_end : (h : Handle) → is_name (decimal (id_of h)) ≡ true → pack (name_id (decimal (id_of h))) (sign_dir (sign_of h)) ≡ h
says_end h t = ap₂ pack (says_id (id_of h) t) (sign_dir_lem h) ∙ pack_unpack h

pub edge-said : (g : Graph) → good_graph g ≡ true → (r : Link) → Memᴰ r (live_links g) → edge_of (link_text r) ≡ ends r
edge-said g good r m =
    let l = link_line_lem g good m in
    link-edge l ∙ ap₂ edge (says_end r.from l.from_is) (says_end r.to l.to_is)

-- L lines, one after another, each of another link
record Read (r : Link) : Type 0 where
  said : edge_of (link_text r) ≡ ends r
  as_written : written (ends r) ≡ ends r

other-link : (r s : Link) → Read r → Read s → edge_before (ends r) (ends s) ≡ true → joins (ends s) (plain r) ≡ false
other-link r s a b t =
    not_true_false _ (λ q.
    let e : ends s ≡ ends r = sym b.as_written ∙ written_same (ends s) (ends r) q ∙ a.as_written in
    before_irrefl (ends r) (ap (edge_before (ends r)) (sym e) ∙ t))

links_into_lem : {rs : List Link} → Written rs → ((r : Link) → Memᴰ r rs → Read r) → (k : Graph) → ((x r : Link) → Memᴰ x k.links → Memᴰ r rs → joins (ends r) x ≡ false) → links_into k (map link_text rs) ≡ made k.nodes k.letters (k.links ++ map plain rs)
links_into_lem written_nil p k new = ap (made k.nodes k.letters) (sym (append-nil k.links))
links_into_lem (written_cons {x = r} {xs = rs} low w) p k new =
    let a = p r (Memᴰ.head refl) in
    let n : linked (ends r) k.links ≡ false = none_of (joins (ends r)) k.links (λ x m. new x r m (Memᴰ.head refl)) in
    let one : with_link k (ends r) ≡ made k.nodes k.letters (k.links ++ (plain r ∷ [])) = rw (n, a.as_written) in
    ap (λ (e : Edge). links_into (with_link k e) (map link_text rs)) a.said
    ∙ ap (λ (j : Graph). links_into j (map link_text rs)) one
    ∙ links_into_lem w (λ s m. p s (Memᴰ.tail m)) (made k.nodes k.letters (k.links ++ (plain r ∷ []))) (λ x s m q.
    ⊎_elim
    (λ i. new x s i (Memᴰ.tail q))
    (λ i. ap (joins (ends s)) (Memᴰ.eq_of_singleton i) ∙ other-link r s a (p s (Memᴰ.tail q)) (low s q))
    (Memᴰ.append_cases k.links m))
    ∙ ap (made k.nodes k.letters) (append_assoc k.links (plain r ∷ []) (map plain rs))

pub said-live : (g : Graph) → good_graph g ≡ true → graph_said (graph_text g) ≡ live_part g
unfolding graph_said
said-live g good =
    ap₂ (λ (a b : List (List ℕ)). links_into (segments_into empty a) b) (segments-kept g good) (links-kept g good)
    ∙ ap (λ (k : Graph). links_into k (map link_text (live_links g))) (segments_into_lem g (live_segments g.nodes) (λ h m. segment_said_lem g good m) empty)
    ∙ links_into_lem (links_rise g good)
    (λ r m. record { said = edge-said g good r m; as_written = (joined g good m).as_written })
    (made (placed (spell g) 0 (live_segments g.nodes)) (lines (spell g) (live_segments g.nodes)) [])
    (λ x r m q. absurd (Memᴰ.not-nil m))
