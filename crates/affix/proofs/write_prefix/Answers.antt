use Prim.Native.Nat.{ℕ, ◌+◌, ◌≤◌, ◌<◌}
use mathlib.Core.List.{[], List, ◌++◌}
use mathlib.Core.Path.{◌≡◌, refl, sym, ap, ◌∙◌}
use native.Mathlib.Numerals.{add-one}
use native.Mathlib.Omega.{arith}
use borrow.Author.Rules.{rules}
use lib.Seq.{length-take-le, sets}
use lib.ListN.{length, take, drop, get_or, set, drop_of_length-le}
use Rattle.kit.proofs.Writes.{sets-front}
use Rattle.store.specs.declared.Counts.{Counts}
use Rattle.store.specs.Views.{spell}
use Rattle.store.specs.Graph.{handle, nodes_of, graph_of}
use Rattle.affix.specs.Reading.{Readable, reading_of, read}
use Rattle.affix.specs.declared.Reading.{Reading}
use Rattle.affix.proofs.LookedUp.{inside, reads, length-read}
use Rattle.affix.proofs.Runs.{left_of-first}
use Rattle.affix.proofs.write_prefix.Goals as goal

-- a turn's store, and what is left to store after the last one
module _ (n : ℕ) (s : List ℕ) (h : n ≤ length s) (out : List ℕ) (i : ℕ) where
  stored : i < n → sets (set out i (get_or s i 0)) (i + 1) (drop (i + 1) (take n s)) ≡ sets out i (drop i (take n s))
  stored k = rw (left_of-first n s i h k, add-one)

  finished : (out₀ : List ℕ) → n ≤ length out₀ → n ≤ i → sets out i (drop i (take n s)) ≡ sets out₀ 0 (take n s) → out ≡ take n s ++ drop n out₀
  finished out₀ k m e =
      let q : length (take n s) ≡ n = length-take-le n s h in
      let z : drop i (take n s) ≡ [] = drop_of_length-le (take n s) {i = i} (omega arith) in
      sym (ap (sets out i) z) ∙ e ∙ sets-front out₀ (take n s) (omega arith) ∙ ap (λ (x : ℕ). take n s ++ drop x out₀) q

-- what was looked up has n letters
enough : (nodes text : List ℕ) (c : Counts) (member n : ℕ) (r : Reading) → Readable nodes text c → r ≡ reading_of (nodes_of c.nodes nodes) (handle member) → n ≤ length (spell (graph_of nodes text [] c) (handle member)) → n ≤ length (read text r)
enough nodes text c member n r ok e h = rw (reads nodes text c ok (handle member) r e) h

pub look_up-r-requires : goal.look_up-r-requires
look_up-r-requires c = c.requires.readable.node_room

pub loop-i-init : goal.loop-i-init
loop-i-init c = (refl, omega arith, refl)

pub letter-requires : goal.letter-requires
letter-requires c =
    let a = c.args in
    let r = c.look_up-r.result in
    let p = inside a.nodes.now a.text.now a.c c.requires.readable (handle a.member) r c.look_up-r.ensures in
    let q = enough a.nodes.now a.text.now a.c a.member a.n r c.requires.readable c.look_up-r.ensures c.requires.n_in_bounds.0 in
    (p, omega (arith, length-read a.text.now r p))

pub loop-i-preserved : goal.loop-i-preserved
loop-i-preserved c =
    let a = c.args in
    let t = read a.text.now c.look_up-r.result in
    let q = enough a.nodes.now a.text.now a.c a.member a.n c.look_up-r.result c.requires.readable c.look_up-r.ensures c.requires.n_in_bounds.0 in
    (search rules, omega arith, rw c.letter.ensures (stored a.n t q c.loop-i.out c.loop-i.i (omega arith)) ∙ c.loop-i.invariant.2)

pub returns : goal.returns
returns c =
    let a = c.args in
    let t = read a.text.now c.look_up-r.result in
    let q = enough a.nodes.now a.text.now a.c a.member a.n c.look_up-r.result c.requires.readable c.look_up-r.ensures c.requires.n_in_bounds.0 in
    finished a.n t q c.loop-i.out c.loop-i.i a.out.now c.requires.n_in_bounds.1 (omega arith) c.loop-i.invariant.2
    ∙ ap (λ (x : List ℕ). take a.n x ++ drop a.n a.out.now) (reads a.nodes.now a.text.now a.c c.requires.readable (handle a.member) c.look_up-r.result c.look_up-r.ensures)
