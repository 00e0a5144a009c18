use Prim.Native.Nat.{ℕ, ◌+◌, ◌*◌}
use mathlib.Core.Path.{sym, ap, ◌∙◌}
use native.Mathlib.Omega.{arith}
use lib.ListN.{take, drop, get_or}
use Rattle.letters.specs.Sequences.{letter_at}
use Rattle.store.specs.Graph.{nodes_of}
use Rattle.store.specs.Views.{find_node}
use Rattle.groups.proofs.Keys.{Reads, reads_first, reads_none}
use Rattle.groups.proofs.first_letter.Goals as goal

pub returns-in_default : goal.returns-in_default
returns-in_default c =
    let a = c.args in
    reads_none a.nodes.now a.text.now a.c a.u
    (ap (λ (k : ℕ). find_node k (nodes_of a.c.nodes a.nodes.now)) (sym c.id.ensures) ∙ sym c.find_node.ensures.value ∙ c.in_default.is)

pub read_letter-requires : goal.read_letter-requires
read_letter-requires c =
    let found : Reads c.args.nodes.now c.args.text.now c.args.c c.args.u c.in-Some.i =
    let a = c.args in
    reads_first a.nodes.now a.text.now a.c a.u c.in-Some.i c.requires.nodes_in_bounds.1 c.requires.nodes_value
    (ap (λ (k : ℕ). find_node k (nodes_of a.c.nodes a.nodes.now)) (sym c.id.ensures) ∙ sym c.find_node.ensures.value ∙ c.in-Some.is)
    in
    let f = found in
    rw c.at-r.ensures (omega (arith, f.inside), f.some_letter)

pub returns : goal.returns
returns c =
    let found : Reads c.args.nodes.now c.args.text.now c.args.c c.args.u c.in-Some.i =
    let a = c.args in
    reads_first a.nodes.now a.text.now a.c a.u c.in-Some.i c.requires.nodes_in_bounds.1 c.requires.nodes_value
    (ap (λ (k : ℕ). find_node k (nodes_of a.c.nodes a.nodes.now)) (sym c.id.ensures) ∙ sym c.find_node.ensures.value ∙ c.in-Some.is)
    in
    let r = found in
    let a = c.args in
    let at = 4 * c.in-Some.i in
    (rw c.at-r.ensures at c.read_letter.ensures)
    ∙ ap (λ (d : ℕ). letter_at (take (get_or a.nodes.now (at + 2) 0) (drop (get_or a.nodes.now (at + 1) 0) a.text.now)) d 0) c.direction.ensures
    ∙ r.first
