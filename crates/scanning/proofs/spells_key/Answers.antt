use Prim.Native.Nat.{ℕ, ◌+◌, ◌*◌}
use mathlib.Core.Path.{◌≡◌, sym, ap, ap₂, ◌∙◌}
use mathlib.Core.Bool.{Bool, true, not, ◌&&◌, ◌||◌}
use mathlib.Core.List.{[], List}
use native.Mathlib.Omega.{arith}
use borrow.Author.Tests.{eq-eqb, ne_eqb}
use lib.Dec.{eqb}
use lib.ListN.{get_or}
use Rattle.std.specs.Prelude.{None}
use Rattle.letters.specs.Sequences.{same_spelling}
use Rattle.handle.specs.Handle.{pack}
use Rattle.handle.proofs.Handles.{id-pack, dir_pack}
use Rattle.store.specs.declared.Counts.{Counts}
use Rattle.store.specs.Graph.{Graph, nodes_of, graph_of}
use Rattle.store.specs.declared.Node.{Node}
use Rattle.store.specs.Views.{find_node, node_named}
use Rattle.store.proofs.Lookups.{NodeFound, node-found, node_nowhere}
use Rattle.affix.specs.declared.Reading.{Reading}
use Rattle.affix.specs.Reading.{reading, reading_of}
use Rattle.affix.proofs.LookedUp.{inside, reads}
use Rattle.events.specs.Events.{rule}
use Rattle.scanning.specs.Rules.{is_old_key}
use Rattle.scanning.proofs.RuleTurns.{spelled}
use Rattle.scanning.proofs.spells_key.Goals as goal

abbrev place : ℕ → ℕ → Reading
place start len = record { start = start; len = len; direction = 0 }

-- whether the key is an old node of its length; x is whether the walk spells it
module _ (nodes text : List ℕ) (c : Counts) (id len : ℕ) (x : Bool) where
  abbrev old : Graph
  old = graph_of nodes text [] c

  abbrev passes : Bool
  passes = not (is_old_key old (rule id len 0 0)) || x

  not-old : find_node id (nodes_of c.nodes nodes) ≡ None → true ≡ passes
  not-old q = rw (node_nowhere id (nodes_of c.nodes nodes) q)

  module _ (i : ℕ) (f : NodeFound c.nodes nodes id i) where
    is_key : is_old_key old (rule id len 0 0) ≡ eqb (get_or nodes (4 * i + 2) 0) len
    is_key = ap₂ (λ (b : Bool) (r : Node). b && eqb r.len len) f.is_stored f.here

    other_length : (get_or nodes (4 * i + 2) 0 ≡ len → ⊥) → true ≡ passes
    other_length n = sym (ap (λ (b : Bool). not b || x) (is_key ∙ ne_eqb _ _ n))

    is_old : get_or nodes (4 * i + 2) 0 ≡ len → x ≡ passes
    is_old e = sym (ap (λ (b : Bool). not b || x) (is_key ∙ eq-eqb _ _ e))

    -- where its letters stand
    at_key : get_or nodes (4 * i + 2) 0 ≡ len → place (get_or nodes (4 * i + 1) 0) len ≡ reading_of (nodes_of c.nodes nodes) (pack id 0)
    at_key e =
        ap (place (get_or nodes (4 * i + 1) 0)) (sym e)
        ∙ ap₂ reading (sym (dir_pack id 0 (omega arith))) (sym (ap (λ (k : ℕ). node_named k (nodes_of c.nodes nodes)) (id-pack id 0 (omega arith)) ∙ f.here))

pub find_node-requires : goal.find_node-requires
find_node-requires c = c.requires.0.node_room

pub returns-in_default : goal.returns-in_default
returns-in_default c =
    let a = c.args in
    not-old a.old_nodes.now a.old_text.now a.c a.id a.len _ (sym c.find_node.ensures.value ∙ c.in_default.is)

pub returns-then-old-len : goal.returns-then-old-len
returns-then-old-len c =
    let found : NodeFound c.args.c.nodes c.args.old_nodes.now c.args.id c.in-Some.i =
    let a = c.args in
    node-found a.c.nodes a.old_nodes.now a.id c.in-Some.i (sym c.find_node.ensures.value ∙ c.in-Some.is)
    in
    let a = c.args in
    other_length a.old_nodes.now a.old_text.now a.c a.id a.len _ c.in-Some.i (found) (λ q. c.if-old-len.true (ap (λ (r : Node). r.len) c.at-old.ensures ∙ q))

pub same_walk-requires : goal.same_walk-requires
same_walk-requires c =
    let found : NodeFound c.args.c.nodes c.args.old_nodes.now c.args.id c.in-Some.i =
    let a = c.args in
    node-found a.c.nodes a.old_nodes.now a.id c.in-Some.i (sym c.find_node.ensures.value ∙ c.in-Some.is)
    in
    let a = c.args in
    let e = at_key a.old_nodes.now a.old_text.now a.c a.id a.len true c.in-Some.i (found) (sym (ap (λ (r : Node). r.len) c.at-old.ensures) ∙ c.if-old-len.false) in
    rw c.at-old.ensures (record { len_in_bounds = (inside a.old_nodes.now a.old_text.now a.c c.requires.0 (pack a.id 0) _ e, c.requires.2); readable = c.requires.1 })

pub returns : goal.returns
returns c =
    let found : NodeFound c.args.c.nodes c.args.old_nodes.now c.args.id c.in-Some.i =
    let a = c.args in
    node-found a.c.nodes a.old_nodes.now a.id c.in-Some.i (sym c.find_node.ensures.value ∙ c.in-Some.is)
    in
    let a = c.args in
    let l = (sym (ap (λ (r : Node). r.len) c.at-old.ensures) ∙ c.if-old-len.false) in
    let e = at_key a.old_nodes.now a.old_text.now a.c a.id a.len true c.in-Some.i (found) l in
    let w = spelled (graph_of a.nodes.now a.text.now [] a.d) a.steps.now a.end a.first in
    (rw c.at-old.ensures at c.same_walk.ensures)
    ∙ ap (λ (t : List ℕ). same_spelling t w) (reads a.old_nodes.now a.old_text.now a.c c.requires.0 (pack a.id 0) _ e)
    ∙ is_old a.old_nodes.now a.old_text.now a.c a.id a.len _ c.in-Some.i (found) l
