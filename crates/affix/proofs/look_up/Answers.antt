use Prim.Native.Nat.{ℕ}
use mathlib.Core.List.{List}
use mathlib.Core.Path.{◌≡◌, sym, ap, ap₂, ◌∙◌}
use Rattle.std.specs.Prelude.{Some, None}
use Rattle.handle.specs.Handle.{id_of}
use Rattle.store.specs.Views.{find_node, node_named}
use Rattle.store.specs.Graph.{handle, node, nodes_of}
use Rattle.store.proofs.Lookups.{NodeFound, node-found, no_node}
use Rattle.affix.specs.Reading.{reading}
use Rattle.affix.proofs.look_up.Goals as goal

module _ (n : ℕ) (l : List ℕ) (id member : ℕ) (e : id ≡ id_of (handle member)) where
  here : (i : ℕ) → find_node id (nodes_of n l) ≡ Some i → NodeFound n l (id_of (handle member)) i
  here i f = node-found n l (id_of (handle member)) i (ap (λ (k : ℕ). find_node k (nodes_of n l)) (sym e) ∙ f)

  nowhere : find_node id (nodes_of n l) ≡ None → node_named (id_of (handle member)) (nodes_of n l) ≡ node 0 0 0 0
  nowhere f = no_node (id_of (handle member)) (nodes_of n l) (ap (λ (k : ℕ). find_node k (nodes_of n l)) (sym e) ∙ f)

pub returns-in_default : goal.returns-in_default
returns-in_default c =
    let a = c.args in
    ap₂ reading c.direction-direction.ensures (sym (nowhere a.count a.nodes.now _ a.member c.id.ensures (sym c.find_node.ensures.value ∙ c.in_default.is)))

pub returns : goal.returns
returns c =
    let found : NodeFound c.args.count c.args.nodes.now (id_of (handle c.args.member)) c.in-Some.i =
    let a = c.args in
    here a.count a.nodes.now _ a.member c.id.ensures c.in-Some.i (sym c.find_node.ensures.value ∙ c.in-Some.is)
    in
    ap₂ reading c.direction-direction.ensures (c.at-r.ensures ∙ sym (found).here)
