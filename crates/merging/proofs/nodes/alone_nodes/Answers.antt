use Prim.Native.Nat.{ℕ, ◌-◌, ◌<◌}
use mathlib.Core.Path.{◌≡◌, sym, ap, ◌∙◌}
use mathlib.Core.Bool.{cond}
use mathlib.Core.List.{List}
use native.Mathlib.Omega.{arith}
use Rattle.std.specs.Prelude.{Some}
use Rattle.kit.proofs.Laws.{length-decode}
use Rattle.handle.specs.Handle.{id_of}
use Rattle.store.specs.Graph.{node_layout, nodes_of}
use Rattle.store.specs.declared.Node.{Node}
use Rattle.store.specs.Views.{find_node, node_named}
use Rattle.store.proofs.Lookups.{NodeFound, node-found, no_node}
use Rattle.merging.specs.Merging.{is_forward}
use Rattle.merging.specs.Plan.{cut_by}
use Rattle.merging.proofs.NodeTurns.{cut-within, alone-kept, alone-cut, alone-more}
use Rattle.merging.proofs.nodes.alone_nodes.Goals as goal

pub returns-in_default : goal.returns-in_default
returns-in_default c =
    let a = c.args in
    let rs : List Node = nodes_of a.count a.nodes.now in
    let none = no_node (id_of a.m) rs (sym (c.find_node.ensures.value ∙ ap (λ (j : ℕ). find_node j rs) c.id-id.ensures) ∙ c.in_default.is) in
    let both = alone-kept a.p a.count a.nodes.now a.m c.requires.count_in_bounds.0 (omega (arith, ap (λ (r : Node). r.len) none)) in record { value = both.0; nodes_after = both.1 }

pub returns-then-len-p : goal.returns-then-len-p
returns-then-len-p c =
    let at_slot : find_node (id_of c.args.m) (nodes_of c.args.count c.args.nodes.now) ≡ Some c.in-Some.i =
    let a = c.args in
    sym (c.find_node.ensures.value ∙ ap (λ (j : ℕ). find_node j (nodes_of a.count a.nodes.now)) c.id-id.ensures) ∙ c.in-Some.is
    in
    let found : NodeFound c.args.count c.args.nodes.now (id_of c.args.m) c.in-Some.i =
    let a = c.args in
    node-found a.count a.nodes.now (id_of a.m) c.in-Some.i (at_slot)
    in
    let a = c.args in
    let both = alone-kept a.p a.count a.nodes.now a.m c.requires.count_in_bounds.0 (omega (arith, ap (λ (r : Node). r.len) c.at-len.ensures, ap (λ (r : Node). r.len) (found).here)) in record { value = both.0; nodes_after = both.1 }

pub split_nodes-requires : goal.split_nodes-requires
split_nodes-requires c =
    let at_slot : find_node (id_of c.args.m) (nodes_of c.args.count c.args.nodes.now) ≡ Some c.in-Some.i =
    let a = c.args in
    sym (c.find_node.ensures.value ∙ ap (λ (j : ℕ). find_node j (nodes_of a.count a.nodes.now)) c.id-id.ensures) ∙ c.in-Some.is
    in
    let found : NodeFound c.args.count c.args.nodes.now (id_of c.args.m) c.in-Some.i =
    let a = c.args in
    node-found a.count a.nodes.now (id_of a.m) c.in-Some.i (at_slot)
    in
    let long : c.args.p < (node_named (id_of c.args.m) (nodes_of c.args.count c.args.nodes.now)).len =
    omega (arith, c.if-len-p.false, ap (λ (r : Node). r.len) c.at-len.ensures, ap (λ (r : Node). r.len) (found).here)
    in
    let cut_is : c.cut_at-k.result ≡ cut_by c.args.p (nodes_of c.args.count c.args.nodes.now) c.args.m =
    let a = c.args in
    c.cut_at-k.ensures ∙ ap (λ (r : Node). cond (is_forward a.m) a.p (r.len - a.p)) (c.at-len.ensures ∙ sym (found).here)
    in
    let a = c.args in
    let rs : List Node = nodes_of a.count a.nodes.now in
    let v = ap (λ (j : ℕ). node_named j rs) c.id-id.ensures in
    let low = cut-within a.p rs a.m (omega (arith, long)) in record {
      count_in_bounds = omega (arith, c.requires.count_in_bounds.1, alone-more a.p rs a.m (long), length-decode node_layout a.count a.nodes.now);
      at_lt_count = ((found).within, sym c.find_node.ensures.value ∙ c.in-Some.is, c.requires.nodes_value.0);
      fresh_value = c.requires.nodes_value.1;
      k_bound = (
        omega (arith, cut_is, low, ap (λ (r : Node). r.len) v),
        omega (arith, cut_is, low, ap (λ (r : Node). r.start) v, c.requires.nodes_bound),
      );
    }

pub returns : goal.returns
returns c =
    let at_slot : find_node (id_of c.args.m) (nodes_of c.args.count c.args.nodes.now) ≡ Some c.in-Some.i =
    let a = c.args in
    sym (c.find_node.ensures.value ∙ ap (λ (j : ℕ). find_node j (nodes_of a.count a.nodes.now)) c.id-id.ensures) ∙ c.in-Some.is
    in
    let found : NodeFound c.args.count c.args.nodes.now (id_of c.args.m) c.in-Some.i =
    let a = c.args in
    node-found a.count a.nodes.now (id_of a.m) c.in-Some.i (at_slot)
    in
    let long : c.args.p < (node_named (id_of c.args.m) (nodes_of c.args.count c.args.nodes.now)).len =
    omega (arith, c.if-len-p.false, ap (λ (r : Node). r.len) c.at-len.ensures, ap (λ (r : Node). r.len) (found).here)
    in
    let cut_is : c.cut_at-k.result ≡ cut_by c.args.p (nodes_of c.args.count c.args.nodes.now) c.args.m =
    let a = c.args in
    c.cut_at-k.ensures ∙ ap (λ (r : Node). cond (is_forward a.m) a.p (r.len - a.p)) (c.at-len.ensures ∙ sym (found).here)
    in
    let a = c.args in
    let both = alone-cut a.p a.count a.nodes.now a.m (long) c.id-id.ensures (cut_is) c.split_nodes.ensures in record { value = both.0; nodes_after = both.1 }
