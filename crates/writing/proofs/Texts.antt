-- Lines part by part, and how long they are.
use Prim.Native.Nat.{ℕ, ◌+◌, ◌-◌, ◌^◌, ◌<◌}
use mathlib.Core.Path.{◌≡◌, refl, sym, ap, ◌∙◌, fun_ext}
use mathlib.Core.List.{List, [], ◌∷◌, ◌++◌, append_assoc}
use native.Mathlib.Omega.{arith}
use lib.ListN.{length, take, drop, length-append}
use Rattle.kit.specs.Decimal.{decimal}
use Rattle.kit.specs.Loops.{lines}
use Rattle.letters.specs.Sequences.{oriented}
use Rattle.handle.specs.declared.Handle.{Handle}
use Rattle.handle.specs.declared.Edge.{Edge}
use Rattle.handle.specs.Handle.{id_of, dir_of}
use Rattle.store.specs.declared.Counts.{Counts}
use Rattle.store.specs.Graph.{Graph, link, nodes_of, graph_of}
use Rattle.store.specs.declared.Link.{Link}
use Rattle.store.specs.Views.{spell}
use Rattle.affix.specs.declared.Reading.{Reading}
use Rattle.affix.specs.Reading.{Readable, reading_of}
use Rattle.affix.proofs.LookedUp.{reads}
use Rattle.text.specs.Bytes.{bytes}
use Rattle.writing.specs.Filled.{Filled}
use Rattle.writing.specs.Marks.{sign_of, link_end}
use Rattle.writing.specs.GraphText.{segment_line, link_line}

pub segment_size : (g : Graph) (h : Handle) → length (segment_line g h) ≡ 4 + length (decimal (id_of h)) + length (spell g h)
unfolding segment_line
segment_size g h = simp length-append (omega arith)

-- no link is read for it
pub segments-bare : (nodes letters links : List ℕ) (c : Counts) (hs : List Handle) → lines (segment_line (graph_of nodes letters [] c)) hs ≡ lines (segment_line (graph_of nodes letters links c)) hs
unfolding segment_line
segments-bare nodes letters links c hs =
    ap (λ (f : Handle → List ℕ). lines f hs) (fun_ext {f = segment_line (graph_of nodes letters [] c)} {g = segment_line (graph_of nodes letters links c)} (λ h. refl))

-- what its writer is handed
module _ (g : Graph) (h : Handle) (at id : ℕ) (letters : List ℕ) (e : id ≡ id_of h) (f : letters ≡ spell g h) where
  pub segment_fits : at + length (segment_line g h) < 2 ^ 64 → at + length (decimal id) + length letters + 4 < 2 ^ 64
  segment_fits k = rw (e, f) (omega (arith, segment_size g h))

  pub segment_filled : {l m : List ℕ} {next : ℕ} → Filled l at (bytes "S\t" ++ decimal id ++ bytes "\t" ++ letters ++ bytes "\n") m next → Filled l at (segment_line g h) m next
  unfolding segment_line
  segment_filled w = rw (← f, ← e) w

pub end_size : (h : Handle) → length (link_end h) ≡ length (decimal (id_of h)) + 3
end_size h = length-append (decimal (id_of h)) (9 ∷ sign_of h ∷ 9 ∷ [])

pub link_parts : (r : Link) → bytes "L\t" ++ link_end r.from ++ link_end r.to ++ bytes "0M\n" ≡ link_line r
unfolding link_line
link_parts r = simp append_assoc

pub link-size : (r : Link) → length (link_line r) ≡ 5 + length (link_end r.from) + length (link_end r.to)
unfolding link_line
link-size r = simp length-append (omega arith)

-- a line has the ends alone of a link
pub link-ends : (r : Link) (e : Edge) → e ≡ record { from = r.from; to = r.to } → link_line r ≡ link_line (link e 0)
unfolding link_line
link-ends r e q = rw q

-- the letters of a node that is looked up forward are a part of the text
pub forward-letters : (nodes letters : List ℕ) (c : Counts) → Readable nodes letters c → (h : Handle) → dir_of h ≡ 0 → (r : Reading) → r ≡ reading_of (nodes_of c.nodes nodes) h → take (r.start + r.len - r.start) (drop r.start letters) ≡ spell (graph_of nodes letters [] c) h
forward-letters nodes letters c ok h z r e =
    let n : r.start + r.len - r.start ≡ r.len = omega arith in
    let d : r.direction ≡ 0 = ap (λ (x : Reading). x.direction) e ∙ z in
    let p : List ℕ = take r.len (drop r.start letters) in
    ap (λ (k : ℕ). take k (drop r.start letters)) n
    ∙ sym (ap (λ (k : ℕ). oriented k p) d)
    ∙ reads nodes letters c ok h r e
