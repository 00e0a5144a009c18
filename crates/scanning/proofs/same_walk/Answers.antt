use Prim.Native.Nat.{ℕ, ◌+◌, ◌-◌, ◌*◌, ◌≤◌, ◌<◌}
use mathlib.Core.Path.{◌≡◌, sym, ap, ◌∙◌}
use mathlib.Core.Bool.{true, false}
use mathlib.Core.List.{[], List}
use native.Mathlib.Omega.{arith}
use borrow.Author.Tests.{not-true, not-false}
use lib.Dec.{eqb}
use lib.ListN.{length, take, drop, get_or}
use Rattle.letters.specs.Sequences.{same_spelling}
use Rattle.store.specs.declared.Counts.{Counts}
use Rattle.store.specs.Graph.{Graph, handle, nodes_of, graph_of}
use Rattle.events.specs.declared.Step.{Step}
use Rattle.affix.specs.declared.Reading.{Reading}
use Rattle.affix.specs.Reading.{Readable, reading_of, read}
use Rattle.affix.proofs.LookedUp.{inside, reads, length-read}
use Rattle.scanning.proofs.RuleTurns.{spelled, walk_short, walk_hit, walk_miss, walk_done}
use Rattle.scanning.proofs.same_walk.Goals as goal

-- one step's letters, s being where they were looked up
module _ (nodes text steps : List ℕ) (d : Counts) (ok : Readable nodes text d) (a : List ℕ) (end j off : ℕ) (h : j < end) (s : Reading) (e : s ≡ reading_of (nodes_of d.nodes nodes) (handle (get_or steps (2 * j) 0))) where
  abbrev new : Graph
  new = graph_of nodes text [] d

  lies : s.start + s.len ≤ length text
  lies = inside nodes text d ok (handle (get_or steps (2 * j) 0)) s e

  short : length a - off < s.len → same_spelling (drop off a) (spelled new steps end j) ≡ false
  short = walk_short new a steps end j off h (read text s) s.len (reads nodes text d ok (handle (get_or steps (2 * j) 0)) s e) (length-read text s lies)

  module _ (k : off + s.len ≤ length a) where
    hit : same_spelling (take s.len (drop off a)) (read text s) ≡ true → same_spelling (drop off a) (spelled new steps end j) ≡ same_spelling (drop (off + s.len) a) (spelled new steps end (j + 1))
    hit = walk_hit new a steps end j off h (read text s) s.len (reads nodes text d ok (handle (get_or steps (2 * j) 0)) s e) (length-read text s lies) k

    miss : same_spelling (take s.len (drop off a)) (read text s) ≡ false → same_spelling (drop off a) (spelled new steps end j) ≡ false
    miss = walk_miss new a steps end j off h (read text s) s.len (reads nodes text d ok (handle (get_or steps (2 * j) 0)) s e) (length-read text s lies) k

pub look_up-s-requires : goal.look_up-s-requires
look_up-s-requires c = c.requires.readable.node_room

pub returns-then-len-off : goal.returns-then-len-off
returns-then-len-off c =
    let a = c.args in
    let l = read a.old_text.now a.r in
    let size = length-read a.old_text.now a.r (omega arith) in
    sym (short a.nodes.now a.text.now a.steps.now a.d c.requires.readable l a.end c.loop-j.j c.loop-j.off (omega arith) c.look_up-s.result (c.look_up-s.ensures ∙ ap (λ (x : Step). reading_of (nodes_of a.d.nodes a.nodes.now) x.node) c.at.ensures) (omega arith)) ∙ c.loop-j.invariant.1

pub same_part-requires : goal.same_part-requires
same_part-requires c =
    let a = c.args in
    let l = read a.old_text.now a.r in
    let size = length-read a.old_text.now a.r (omega arith) in
    (omega arith, lies a.nodes.now a.text.now a.steps.now a.d c.requires.readable l a.end c.loop-j.j c.loop-j.off (omega arith) c.look_up-s.result (c.look_up-s.ensures ∙ ap (λ (x : Step). reading_of (nodes_of a.d.nodes a.nodes.now) x.node) c.at.ensures), omega arith)

pub returns-then-not-same_part : goal.returns-then-not-same_part
returns-then-not-same_part c =
    let a = c.args in
    let l = read a.old_text.now a.r in
    let size = length-read a.old_text.now a.r (omega arith) in
    sym (miss a.nodes.now a.text.now a.steps.now a.d c.requires.readable l a.end c.loop-j.j c.loop-j.off (omega arith) c.look_up-s.result (c.look_up-s.ensures ∙ ap (λ (x : Step). reading_of (nodes_of a.d.nodes a.nodes.now) x.node) c.at.ensures) (omega arith) (sym c.same_part.ensures ∙ not-true c.same_part.result c.if-not-same_part.true-raw)) ∙ c.loop-j.invariant.1

pub loop-j-preserved : goal.loop-j-preserved
loop-j-preserved c =
    let a = c.args in
    let l = read a.old_text.now a.r in
    let size = length-read a.old_text.now a.r (omega arith) in
    (omega arith, sym (hit a.nodes.now a.text.now a.steps.now a.d c.requires.readable l a.end c.loop-j.j c.loop-j.off (omega arith) c.look_up-s.result (c.look_up-s.ensures ∙ ap (λ (x : Step). reading_of (nodes_of a.d.nodes a.nodes.now) x.node) c.at.ensures) (omega arith) (sym c.same_part.ensures ∙ not-false c.same_part.result c.if-not-same_part.false-raw)) ∙ c.loop-j.invariant.1)

pub returns : goal.returns
returns c =
    let a = c.args in
    let l = read a.old_text.now a.r in
    let size = length-read a.old_text.now a.r (omega arith) in
    ap (λ (n : ℕ). eqb c.loop-j.off n) (sym size)
    ∙ walk_done (graph_of a.nodes.now a.text.now [] a.d) l a.steps.now a.end c.loop-j.j c.loop-j.off (omega arith) (omega arith) ∙ c.loop-j.invariant.1
