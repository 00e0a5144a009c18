use Prim.Native.Nat.{ℕ}
use mathlib.Core.Path.{◌≡◌, sym, ap₂, ◌∙◌}
use mathlib.Core.Bool.{Bool, true, false, not}
use borrow.Author.Tests.{not-true, not-false}
use Rattle.letters.specs.Letters.{same_letter}
use Rattle.handle.specs.declared.Handle.{Handle}
use Rattle.store.specs.Graph.{Graph, graph_of}
use Rattle.store.specs.Views.{letter_of}
use Rattle.formed.proofs.Says.{formed_room, formed_good}
use Rattle.sides.specs.Sides.{same_left}
use Rattle.groups.specs.Groups.{same_key}
use Rattle.groups.proofs.same_key.Goals as goal

-- the first letters as they were read
module _ (g : Graph) (u w : Handle) (a b : ℕ) (t : Bool) (p : a ≡ letter_of g u 0) (q : b ≡ letter_of g w 0) (s : t ≡ same_letter a b) where
  read : same_letter (letter_of g u 0) (letter_of g w 0) ≡ t
  read = sym (s ∙ ap₂ same_letter p q)

  apart : not t ≡ true → false ≡ same_key g u w
  apart n = rw (read ∙ not-true t n)

  alike : (l : Bool) → l ≡ same_left g u w → not t ≡ false → l ≡ same_key g u w
  alike l e n = rw (read ∙ not-false t n) e

pub first_letter-a-requires : goal.first_letter-a-requires
first_letter-a-requires c =
    let a = c.args in
    let r = formed_room a.nodes.now a.text.now a.links.now a.c c.requires in
    record { nodes_in_bounds = (r.node_room, r.letter_room); nodes_value = (formed_good a.nodes.now a.text.now a.links.now a.c c.requires).nodes_good }

pub first_letter-b-requires : goal.first_letter-b-requires
first_letter-b-requires c =
    let a = c.args in
    let r = formed_room a.nodes.now a.text.now a.links.now a.c c.requires in
    record { nodes_in_bounds = (r.node_room, r.letter_room); nodes_value = (formed_good a.nodes.now a.text.now a.links.now a.c c.requires).nodes_good }

pub returns-then-not-same_letter : goal.returns-then-not-same_letter
returns-then-not-same_letter c =
    let a = c.args in
    apart (graph_of a.nodes.now a.text.now a.links.now a.c) a.u a.w _ _ _ c.first_letter-a.ensures c.first_letter-b.ensures c.same_letter.ensures c.if-not-same_letter.true-raw

pub same_left-requires : goal.same_left-requires
same_left-requires c =
    let a = c.args in
    let r = formed_room a.nodes.now a.text.now a.links.now a.c c.requires in
    (r.node_room, r.link_room)

pub returns : goal.returns
returns c =
    let a = c.args in
    alike (graph_of a.nodes.now a.text.now a.links.now a.c) a.u a.w _ _ _ c.first_letter-a.ensures c.first_letter-b.ensures c.same_letter.ensures _ c.same_left.ensures c.if-not-same_letter.false-raw
