use Prim.Native.Nat.{ℕ, ◌+◌, ◌-◌, ◌*◌}
use mathlib.Core.Path.{◌≡◌, sym, ap, ◌∙◌}
use mathlib.Core.Bool.{Bool, true, false}
use mathlib.Core.List.{[], List}
use borrow.Author.Tests.{eq-eqb, ne_eqb, not-true, not-false}
use lib.Dec.{eqb}
use lib.ListN.{get_or}
use Rattle.std.specs.Prelude.{Some, None}
use Rattle.handle.specs.Handle.{id_of}
use Rattle.handle.specs.Edge.{edge}
use Rattle.store.specs.declared.Counts.{Counts}
use Rattle.store.specs.Graph.{Graph, handle, nodes_of, graph_of}
use Rattle.store.specs.declared.Node.{Node}
use Rattle.store.specs.Views.{find_node, node_named, live_node, live_linked}
use Rattle.store.proofs.Lookups.{node-found, node_nowhere}
use Rattle.events.specs.declared.Step.{Step}
use Rattle.events.proofs.Fields.{step_at}
use Rattle.scanning.specs.Rules.{step_lives, length_true, follows, step_fault}
use Rattle.scanning.proofs.RuleTurns.{absent_dead, not_live, not_its_length, no_link, step-passes, step_before}
use Rattle.scanning.proofs.step_fault.Goals as goal

-- the step's number, as far as the tests have come; its node was looked up under `id`
module _ (nodes links steps : List ℕ) (d : Counts) (at id : ℕ) (before : List Step) (e : id ≡ id_of (handle (get_or steps (2 * at) 0))) where
  abbrev new : Graph
  new = graph_of nodes [] links d

  abbrev number : ℕ
  number = (step_fault new 0 0 before (step_at steps at)).number

  lives : {b : Bool} → live_node id (nodes_of d.nodes nodes) ≡ b → step_lives new (step_at steps at) ≡ b
  lives t = ap (λ (k : ℕ). live_node k (nodes_of d.nodes nodes)) (sym e) ∙ t

  dead : live_node id (nodes_of d.nodes nodes) ≡ false → 21 ≡ number
  dead t = not_live new before (step_at steps at) (lives t)

  absent : find_node id (nodes_of d.nodes nodes) ≡ None → 21 ≡ number
  absent q = dead (absent_dead id (nodes_of d.nodes nodes) (node_nowhere id (nodes_of d.nodes nodes) q))

  module _ (t : live_node id (nodes_of d.nodes nodes) ≡ true) (i : ℕ) (q : find_node id (nodes_of d.nodes nodes) ≡ Some i) where
    lengths : length_true new (step_at steps at) ≡ eqb (get_or steps (2 * at + 1) 0) (get_or nodes (4 * i + 2) 0)
    lengths =
        ap (λ (k : ℕ). eqb (get_or steps (2 * at + 1) 0) (node_named k (nodes_of d.nodes nodes)).len) (sym e)
        ∙ ap (λ (r : Node). eqb (get_or steps (2 * at + 1) 0) r.len) (node-found d.nodes nodes id i q).here

    other_length : (get_or steps (2 * at + 1) 0 ≡ get_or nodes (4 * i + 2) 0 → ⊥) → 22 ≡ number
    other_length n = not_its_length new before (step_at steps at) (lives t) (lengths ∙ ne_eqb _ _ n)

    follower : get_or steps (2 * at + 1) 0 ≡ get_or nodes (4 * i + 2) 0 → (follows new before (step_at steps at) ≡ false → 23 ≡ number) × (follows new before (step_at steps at) ≡ true → 0 ≡ number)
    follower s =
        let l = lengths ∙ eq-eqb _ _ s in
        (no_link new before (step_at steps at) (lives t) l, step-passes new before (step_at steps at) (lives t) l)

-- a first step follows on nothing, a later one on the step before
module _ (l : List ℕ) (g : Graph) (s : Step) (at j : ℕ) where
  first-follows : j ≡ 0 → follows g (step_before l at j) s ≡ true
  first-follows z = rw (eq-eqb j 0 z)

  later-follows : (j ≡ 0 → ⊥) → follows g (step_before l at j) s ≡ live_linked g (edge (handle (get_or l (2 * (at - 1)) 0)) s.node)
  later-follows z = rw (ne_eqb j 0 z)

pub returns-in_default : goal.returns-in_default
returns-in_default c =
    let a = c.args in
    absent a.nodes.now a.links.now a.steps.now a.d a.at c.id-id.result (step_before a.steps.now a.at a.j) (c.id-id.ensures ∙ ap (λ (x : Step). id_of x.node) c.at-s.ensures) (sym c.find_node.ensures.value ∙ c.in_default.is)

pub returns-then-not-live_node : goal.returns-then-not-live_node
returns-then-not-live_node c =
    let a = c.args in
    dead a.nodes.now a.links.now a.steps.now a.d a.at c.id-id.result (step_before a.steps.now a.at a.j) (c.id-id.ensures ∙ ap (λ (x : Step). id_of x.node) c.at-s.ensures) (sym c.live_node.ensures ∙ not-true c.live_node.result c.if-not-live_node.true-raw)

pub returns-then-s-at : goal.returns-then-s-at
returns-then-s-at c =
    let a = c.args in
    other_length a.nodes.now a.links.now a.steps.now a.d a.at c.id-id.result (step_before a.steps.now a.at a.j) (c.id-id.ensures ∙ ap (λ (x : Step). id_of x.node) c.at-s.ensures) (sym c.live_node.ensures ∙ not-false c.live_node.result c.if-not-live_node.false-raw) c.in-Some.i (sym c.find_node.ensures.value ∙ c.in-Some.is) (λ q. c.if-s-at.true (ap (λ (x : Step). x.len) c.at-s.ensures ∙ q ∙ sym (ap (λ (r : Node). r.len) c.at.ensures)))

pub returns-then-j-eq0 : goal.returns-then-j-eq0
returns-then-j-eq0 c =
    let told : let new = graph_of c.args.nodes.now [] c.args.links.now c.args.d in let b = step_before c.args.steps.now c.args.at c.args.j in let s = step_at c.args.steps.now c.args.at in (follows new b s ≡ false → 23 ≡ (step_fault new 0 0 b s).number) × (follows new b s ≡ true → 0 ≡ (step_fault new 0 0 b s).number) =
    let a = c.args in
    follower a.nodes.now a.links.now a.steps.now a.d a.at c.id-id.result (step_before a.steps.now a.at a.j) (c.id-id.ensures ∙ ap (λ (x : Step). id_of x.node) c.at-s.ensures) (sym c.live_node.ensures ∙ not-false c.live_node.result c.if-not-live_node.false-raw) c.in-Some.i (sym c.find_node.ensures.value ∙ c.in-Some.is) (sym (ap (λ (x : Step). x.len) c.at-s.ensures) ∙ c.if-s-at.false ∙ ap (λ (r : Node). r.len) c.at.ensures)
    in
    let a = c.args in
    (told).1 (first-follows a.steps.now (graph_of a.nodes.now [] a.links.now a.d) (step_at a.steps.now a.at) a.at a.j c.if-j-eq0.true)

pub returns-then-not-live_linked : goal.returns-then-not-live_linked
returns-then-not-live_linked c =
    let told : let new = graph_of c.args.nodes.now [] c.args.links.now c.args.d in let b = step_before c.args.steps.now c.args.at c.args.j in let s = step_at c.args.steps.now c.args.at in (follows new b s ≡ false → 23 ≡ (step_fault new 0 0 b s).number) × (follows new b s ≡ true → 0 ≡ (step_fault new 0 0 b s).number) =
    let a = c.args in
    follower a.nodes.now a.links.now a.steps.now a.d a.at c.id-id.result (step_before a.steps.now a.at a.j) (c.id-id.ensures ∙ ap (λ (x : Step). id_of x.node) c.at-s.ensures) (sym c.live_node.ensures ∙ not-false c.live_node.result c.if-not-live_node.false-raw) c.in-Some.i (sym c.find_node.ensures.value ∙ c.in-Some.is) (sym (ap (λ (x : Step). x.len) c.at-s.ensures) ∙ c.if-s-at.false ∙ ap (λ (r : Node). r.len) c.at.ensures)
    in
    let a = c.args in
    (told).0 (later-follows a.steps.now (graph_of a.nodes.now [] a.links.now a.d) (step_at a.steps.now a.at) a.at a.j c.if-j-eq0.false ∙ sym (rw (c.at-s.ensures, c.at-2.ensures) at c.live_linked.ensures) ∙ not-true c.live_linked.result c.if-not-live_linked.true-raw)

pub returns : goal.returns
returns c =
    let told : let new = graph_of c.args.nodes.now [] c.args.links.now c.args.d in let b = step_before c.args.steps.now c.args.at c.args.j in let s = step_at c.args.steps.now c.args.at in (follows new b s ≡ false → 23 ≡ (step_fault new 0 0 b s).number) × (follows new b s ≡ true → 0 ≡ (step_fault new 0 0 b s).number) =
    let a = c.args in
    follower a.nodes.now a.links.now a.steps.now a.d a.at c.id-id.result (step_before a.steps.now a.at a.j) (c.id-id.ensures ∙ ap (λ (x : Step). id_of x.node) c.at-s.ensures) (sym c.live_node.ensures ∙ not-false c.live_node.result c.if-not-live_node.false-raw) c.in-Some.i (sym c.find_node.ensures.value ∙ c.in-Some.is) (sym (ap (λ (x : Step). x.len) c.at-s.ensures) ∙ c.if-s-at.false ∙ ap (λ (r : Node). r.len) c.at.ensures)
    in
    let a = c.args in
    (told).1 (later-follows a.steps.now (graph_of a.nodes.now [] a.links.now a.d) (step_at a.steps.now a.at) a.at a.j c.if-j-eq0.false ∙ sym (rw (c.at-s.ensures, c.at-2.ensures) at c.live_linked.ensures) ∙ not-false c.live_linked.result c.if-not-live_linked.false-raw)
