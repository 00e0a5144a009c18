use Prim.Native.Nat.{ℕ, ◌+◌, ◌≤◌}
use mathlib.Core.Path.{◌≡◌, ap, subst}
use mathlib.Core.List.{[], List}
use native.Mathlib.Omega.{arith}
use lib.ListN.{length}
use Rattle.kit.specs.Put.{Put}
use Rattle.store.specs.declared.Counts.{Counts}
use Rattle.store.specs.Graph.{handle, nodes_of, graph_of}
use Rattle.store.specs.Views.{spell}
use Rattle.affix.specs.declared.Reading.{Reading}
use Rattle.affix.specs.Reading.{Readable, reading_of, read}
use Rattle.affix.proofs.LookedUp.{inside, reads, length-read}
use Rattle.kit.proofs.Writes.{putting_none, putting_next, putting_all}
use Rattle.spelling.proofs.put_letters.Goals as goal

-- what was looked up: its letters are those of the step, and there is room for them
module _ (nodes text : List ℕ) (c : Counts) (step at : ℕ) (out : List ℕ) (r : Reading) (ok : Readable nodes text c) (e : r ≡ reading_of (nodes_of c.nodes nodes) (handle step)) where
  lies : r.start + r.len ≤ length text
  lies = inside nodes text c ok (handle step) r e

  size : length (read text r) ≡ r.len
  size = length-read text r lies

  is_read_lem : read text r ≡ spell (graph_of nodes text [] c) (handle step)
  is_read_lem = reads nodes text c ok (handle step) r e

  enough : at + length (spell (graph_of nodes text [] c) (handle step)) ≤ length out → at + r.len ≤ length out
  enough h = omega (arith, h, size, ap length is_read_lem)

  written : (m : List ℕ) → Put out at (read text r) m (at + length (read text r)) → Put out at (spell (graph_of nodes text [] c) (handle step)) m (at + r.len)
  written m p = subst (λ (s : List ℕ). Put out at s m (at + r.len)) is_read_lem (subst (λ (k : ℕ). Put out at (read text r) m (at + k)) size p)

pub look_up-r-requires : goal.look_up-r-requires
look_up-r-requires c = c.requires.readable.node_room

pub loop-i-init : goal.loop-i-init
loop-i-init c =
    let a = c.args in
    putting_none (read a.text.now c.look_up-r.result) a.at a.out.now

pub letter-requires : goal.letter-requires
letter-requires c =
    let a = c.args in
    let r = c.look_up-r.result in
    (lies a.nodes.now a.text.now a.c a.step a.at a.out.now r c.requires.readable c.look_up-r.ensures, omega arith)

pub overflow_add-out : goal.overflow_add-out
overflow_add-out c =
    let a = c.args in
    let r = c.look_up-r.result in
    omega (arith, enough a.nodes.now a.text.now a.c a.step a.at a.out.now r c.requires.readable c.look_up-r.ensures c.requires.step_in_bounds, c.loop-i.invariant.same)

pub bounds-out-at : goal.bounds-out-at
bounds-out-at c =
    let a = c.args in
    let r = c.look_up-r.result in
    omega (arith, enough a.nodes.now a.text.now a.c a.step a.at a.out.now r c.requires.readable c.look_up-r.ensures c.requires.step_in_bounds, c.loop-i.invariant.same)

pub loop-i-preserved : goal.loop-i-preserved
loop-i-preserved c =
    let a = c.args in
    let r = c.look_up-r.result in
    putting_next c.loop-i.invariant c.letter.result c.letter.ensures (omega (arith, size a.nodes.now a.text.now a.c a.step a.at a.out.now r c.requires.readable c.look_up-r.ensures))

pub overflow_add-result : goal.overflow_add-result
overflow_add-result c =
    let a = c.args in
    let r = c.look_up-r.result in
    omega (arith, enough a.nodes.now a.text.now a.c a.step a.at a.out.now r c.requires.readable c.look_up-r.ensures c.requires.step_in_bounds)

pub returns : goal.returns
returns c =
    let a = c.args in
    let r = c.look_up-r.result in
    written a.nodes.now a.text.now a.c a.step a.at a.out.now r c.requires.readable c.look_up-r.ensures _ (putting_all c.loop-i.invariant (omega (arith, size a.nodes.now a.text.now a.c a.step a.at a.out.now r c.requires.readable c.look_up-r.ensures)))
