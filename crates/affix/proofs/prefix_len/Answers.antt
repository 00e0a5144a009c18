use Prim.Native.Nat.{ℕ, ◌+◌, ◌-◌, ◌≤◌, ◌<◌}
use mathlib.Core.List.{[], List, map}
use mathlib.Core.Path.{◌≡◌, refl, sym, ap, ap₂, ◌∙◌, fun_ext}
use native.Mathlib.Omega.{arith}
use lib.ListN.{length, take, drop, get_or}
use Rattle.handle.specs.declared.Handle.{Handle}
use Rattle.store.specs.declared.Counts.{Counts}
use Rattle.store.specs.Graph.{handle, nodes_of, graph_of}
use Rattle.affix.specs.Reading.{Readable, reading_of, read, agree}
use Rattle.affix.specs.Prefix.{handles_of, shared, group_prefix}
use Rattle.affix.specs.declared.Reading.{Reading}
use Rattle.affix.proofs.LookedUp.{inside, reads, length-read}
use Rattle.affix.proofs.Runs.{left-handle, no_handle, shared-cut, shared-fits}
use Rattle.affix.proofs.prefix_len.Invariants.{run, spelled}
use Rattle.affix.proofs.prefix_len.Goals as goal

module _ (nodes text : List ℕ) (count : ℕ) (members : List ℕ) (first : Reading) where
  run-next : (i : ℕ) → i < length members → run nodes text count first members i ≡ agree (take (run nodes text count first members (i + 1)) (read text first)) (spelled nodes text count (handle (get_or members i 0)))
  run-next i h =
      ap (λ hs. length (shared (read text first) (map (spelled nodes text count) hs))) (left-handle members i h)
      ∙ shared-cut (read text first) (spelled nodes text count (handle (get_or members i 0))) (map (spelled nodes text count) (drop (i + 1) (handles_of members)))

  turn : (i n m : ℕ) (other : Reading) → 1 < i → i ≤ length members → n ≡ run nodes text count first members i → other ≡ reading_of (nodes_of count nodes) (handle (get_or members (i - 1) 0)) → m ≡ agree (take n (read text first)) (read text other) → m ≡ run nodes text count first members (i - 1)
  turn i n m other h k p q e =
      let z : i ≡ i - 1 + 1 = omega arith in
      e ∙ ap₂ (λ x r. agree (take x (read text first)) (read text r)) (p ∙ ap (run nodes text count first members) z) q ∙ sym (run-next (i - 1) (omega arith))

  bounded : (i n : ℕ) → n ≡ run nodes text count first members i → first.start + first.len ≤ length text → n ≤ first.len
  bounded i n e h = omega (arith, e, shared-fits (read text first) (map (spelled nodes text count) (drop i (handles_of members))), length-read text first h)

whole : (nodes text : List ℕ) (c : Counts) (members : List ℕ) (first : Reading) → Readable nodes text c → 1 ≤ length members → first ≡ reading_of (nodes_of c.nodes nodes) (handle (get_or members 0 0)) → run nodes text c.nodes first members 1 ≡ length (group_prefix (graph_of nodes text [] c) (handles_of members))
whole nodes text c members first ok h e =
    let g = graph_of nodes text [] c in
    ap₂ (λ (s : List ℕ) (f : Handle → List ℕ). length (shared s (map f (drop 1 (handles_of members))))) (reads nodes text c ok (handle (get_or members 0 0)) first e) (fun_ext (λ u. reads nodes text c ok u (reading_of (nodes_of c.nodes nodes) u) refl))
    ∙ sym (ap (λ hs. length (group_prefix g hs)) (left-handle members 0 h))

pub look_up-first-requires : goal.look_up-first-requires
look_up-first-requires c = c.requires.0.node_room

pub base_run-n-requires : goal.base_run-n-requires
base_run-n-requires c =
    let a = c.args in
    inside a.nodes.now a.text.now a.c c.requires.0 (handle (get_or a.members.now 0 0)) _ c.look_up-first.ensures

pub loop-i-init : goal.loop-i-init
loop-i-init c =
    let a = c.args in
    let e : run a.nodes.now a.text.now a.c.nodes c.look_up-first.result a.members.now (length a.members.now) ≡ length (shared (read a.text.now c.look_up-first.result) []) = rw (no_handle a.members.now (length a.members.now) (omega arith)) in
    (omega arith, c.base_run-n.ensures ∙ sym e)

pub look_up-other-requires : goal.look_up-other-requires
look_up-other-requires c = c.requires.0.node_room

pub same_run-n-requires : goal.same_run-n-requires
same_run-n-requires c =
    let a = c.args in
    let p = inside a.nodes.now a.text.now a.c c.requires.0 (handle (get_or a.members.now 0 0)) _ c.look_up-first.ensures in
    (p, inside a.nodes.now a.text.now a.c c.requires.0 (handle (get_or a.members.now (c.loop-i.i - 1) 0)) _ c.look_up-other.ensures, bounded a.nodes.now a.text.now a.c.nodes a.members.now c.look_up-first.result c.loop-i.i c.loop-i.n c.loop-i.invariant.1 p)

pub loop-i-preserved : goal.loop-i-preserved
loop-i-preserved c =
    let a = c.args in
    (omega arith, turn a.nodes.now a.text.now a.c.nodes a.members.now c.look_up-first.result c.loop-i.i c.loop-i.n _ _ (omega arith) (omega arith) c.loop-i.invariant.1 c.look_up-other.ensures c.same_run-n.ensures)

pub returns : goal.returns
returns c =
    let a = c.args in
    let e : c.loop-i.i ≡ 1 = omega arith in
    c.loop-i.invariant.1 ∙ ap (run a.nodes.now a.text.now a.c.nodes c.look_up-first.result a.members.now) e ∙ whole a.nodes.now a.text.now a.c a.members.now c.look_up-first.result c.requires.0 (omega arith) c.look_up-first.ensures
