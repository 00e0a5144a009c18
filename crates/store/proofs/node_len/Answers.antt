use mathlib.Core.Path.{sym, ap, ◌∙◌}
use Rattle.store.specs.Graph.{nodes_of}
use Rattle.store.specs.declared.Node.{Node}
use Rattle.store.proofs.Lookups.{node-found, no_node}
use Rattle.store.proofs.node_len.Goals as goal

pub returns-in_default : goal.returns-in_default
returns-in_default c = sym (ap (λ (r : Node). r.len) (no_node c.args.id (nodes_of c.args.count c.args.nodes.now) (sym c.find_node.ensures.value ∙ c.in_default.is)))

pub returns : goal.returns
returns c = ap (λ (r : Node). r.len) c.at.ensures ∙ sym (ap (λ (r : Node). r.len) (node-found c.args.count c.args.nodes.now c.args.id c.in-Some.i (sym c.find_node.ensures.value ∙ c.in-Some.is)).here)
