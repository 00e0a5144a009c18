-- A collapse that nothing but the room for links can refuse: what its parts ask for holds, and what they leave is its outcome.
use Prim.Native.Nat.{ℕ, ◌+◌, ◌*◌, ◌≤◌}
use mathlib.Core.Path.{◌≡◌, refl, sym, ap, ap₂, ◌∙◌}
use mathlib.Core.Bool.{Bool, true, false, cond, not, ◌&&◌}
use mathlib.Core.List.{List, [], ◌∷◌, map}
use native.Mathlib.Omega.{arith}
use borrow.Author.Tests.{eqb-true, eqb-false, leb-true}
use lib.Dec.{eqb, leb}
use lib.ListN.{length, take, length-take}
use Rattle.kit.specs.Loops.{all, count}
use Rattle.kit.proofs.Bools.{and_true_l, and_true_r}
use Rattle.kit.proofs.Laws.{length-decode}
use Rattle.handle.specs.declared.Handle.{Handle}
use Rattle.store.specs.declared.Counts.{Counts}
use Rattle.store.specs.Graph.{Graph, node_layout, nodes_of, graph_of}
use Rattle.store.specs.declared.Node.{Node}
use Rattle.store.specs.declared.Link.{Link}
use Rattle.store.specs.Views.{named, node_named}
use Rattle.formed.specs.WellFormed.{good_node, good_graph, well_formed, ids_once, room_for}
use Rattle.formed.proofs.Says.{Room, node_says, formed_room, formed_good}
use Rattle.events.specs.declared.Used.{Used}
use Rattle.events.specs.Events.{Rules, Event, list_of, append_all}
use Rattle.merging.specs.Merging.{shared_node}
use Rattle.merging.specs.Plan.{dim, long_by, planned}
use Rattle.linking.specs.Fit.{Plans}
use Rattle.merged.proofs.Asked.{plans_good}
use Rattle.merged.proofs.Members.{Collapses}
use Rattle.merged.proofs.NodesAlone.{nodes_are}
use Rattle.merged.proofs.Theorems.{links_are, counts_same}
use Rattle.collapsing.specs.Making.{State, state_after, members_number, group_number, fits}
use Rattle.collapsing.specs.Ready.{lists_fit, links_fit, ready_number}
use Rattle.longer.specs.Ahead.{events_by}
use Rattle.longer.specs.Longer.{Passed, RoomFor, beginning}
use Rattle.collapsing.specs.Put.{Storable, state_by, link_room}
use Rattle.collapsing.specs.Outcome.{Lent, Outcome, room_of, state_in, refused, made, first_of, group_outcome}
use Rattle.collapsing.proofs.Foreseen.{events_are}
use Rattle.collapsing.proofs.Before.{passed_members, passed_events, nodes-after}
use Rattle.collapsing.proofs.Outcomes.{number-late, room_holds, fits-plan}

pub first-pass : (n k : ℕ) → cond (not (eqb n 0)) n k ≡ 0 → (n ≡ 0) × (k ≡ 0)
first-pass n k z = by (eqb n 0) refl z
  where
    by : (b : Bool) → eqb n 0 ≡ b → cond (not b) n k ≡ 0 → (n ≡ 0) × (k ≡ 0)
    by true e q = (eqb-true n 0 e, q)
    by false e q = absurd (eqb-false n 0 e q)

pub seven : (b : Bool) → ◌≡◌ {A = ℕ} (cond (not b) 7 0) 0 → b ≡ true
seven true e = refl
seven false e = absurd (omega arith)

spans_low : (letters : List ℕ) (rs : List Node) → all (good_node letters) rs ≡ true → (id : ℕ) → (node_named id rs).start + (node_named id rs).len ≤ length letters
spans_low letters [] t id = omega arith
spans_low letters (r ∷ rs) t id =
    by (named id r) (spans_low letters rs (and_true_r (good_node letters r) (all (good_node letters) rs) t) id)
  where
    by : (b : Bool) → (node_named id rs).start + (node_named id rs).len ≤ length letters → (cond b r (node_named id rs)).start + (cond b r (node_named id rs)).len ≤ length letters
    by true h = (node_says letters r (and_true_l (good_node letters r) (all (good_node letters) rs) t)).inside
    by false h = h

shared_is : (p : ℕ) (g : Graph) (ms : List Handle) → 1 ≤ length ms → (beginning p g.nodes (first_of ms)).x ≡ shared_node p g ms
shared_is p g [] h = absurd (omega arith)
shared_is p g (m ∷ ms) h = refl

module _ (l : Lent) (letters : List ℕ) (c : Counts) (u : Used) (p : ℕ) (ms : List Handle) (wf : well_formed l.nodes letters l.links c ≡ true) (once : ids_once (nodes_of c.nodes l.nodes) ≡ true) (z : ready_number (room_of l) p (state_in l letters c u) ms ≡ 0) where
  abbrev g : Graph
  g = graph_of l.nodes letters l.links c

  abbrev t : Rules
  t = list_of l.rules l.steps u

  abbrev s : State
  s = state_in l letters c u

  abbrev after : State
  after = state_after p s ms

  abbrev es : List Event
  es = events_by p g.nodes ms

  abbrev plan : List Link
  plan = planned p g.nodes (map (dim g.nodes) g.links) ms

  group-zero : group_number p s ms ≡ 0
  group-zero = (first-pass (group_number p s ms) _ z).0

  members_zero : members_number p g ms ≡ 0
  members_zero = (first-pass (members_number p g ms) _ group-zero).0

  lists : lists_fit (room_of l) after ≡ true
  lists = seven (lists_fit (room_of l) after) (first-pass (group_number p s ms) _ z).1

  good : good_graph g ≡ true
  good = and_true_r (room_for l.nodes letters l.links c) (good_graph g) wf

  holds : Room l.nodes letters l.links c
  holds = formed_room l.nodes letters l.links c wf

  pub collapses : Collapses p g ms
  collapses = passed_members p g ms good once members_zero

  passed : Passed p g.nodes ms
  passed = passed_events p g ms members_zero

  -- room for nodes, rules and steps
  fits_nodes : fits 4 65536 (length after.graph.nodes) (length l.nodes) ≡ true
  fits_nodes = and_true_l (fits 4 65536 (length after.graph.nodes) (length l.nodes)) _ lists

  fits_lists : (fits 4 65536 (length after.events.rules) (length l.rules) && fits 2 262144 (length after.events.steps) (length l.steps)) ≡ true
  fits_lists = and_true_r (fits 4 65536 (length after.graph.nodes) (length l.nodes)) _ lists

  pub node_room : 4 * (c.nodes + count (long_by p g.nodes) ms) ≤ length l.nodes
  node_room =
      let h = leb-true (4 * length after.graph.nodes) (length l.nodes) (and_true_r (leb (length after.graph.nodes) 65536) _ fits_nodes) in
      omega (arith, h, nodes-after (room_of l) p g t ms members_zero collapses, length-decode node_layout c.nodes l.nodes)

  longer_is : append_all t es ≡ after.events
  longer_is = ap (append_all t) (sym (events_are p g ms collapses))

  pub room_for_lem : RoomFor (append_all t es) l.rules l.steps
  room_for_lem =
      rw longer_is
      record {
        rule_room = leb-true (4 * length after.events.rules) (length l.rules) (and_true_r (leb (length after.events.rules) 65536) _ (and_true_l (fits 4 65536 (length after.events.rules) (length l.rules)) _ fits_lists));
        step_room = leb-true (2 * length after.events.steps) (length l.steps) (and_true_r (leb (length after.events.steps) 262144) _ (and_true_r (fits 4 65536 (length after.events.rules) (length l.rules)) _ fits_lists));
      }

  pub plans : Plans p g.nodes (map (dim g.nodes) g.links) ms
  plans = plans_good g good p ms passed.some passed.live passed.once passed.enough

  pub storable : Storable p g.nodes ms
  storable =
      record {
        passed = passed;
        once = once;
        spans = λ id. omega (arith, spans_low (take c.letters letters) g.nodes (formed_good l.nodes letters l.links c wf).nodes_good id, length-take c.letters letters, holds.few_letters);
      }

  pub plan-room : 3 * c.links ≤ link_room (length l.links)
  plan-room = room_holds c.links (length l.links) holds.few_links holds.link_room

  -- what the parts leave
  made-same : made (beginning p g.nodes (first_of ms)).x (state_by p g.nodes g.links t plan ms) c l ≡ made (shared_node p g ms) after c l
  made-same = rw (shared_is p g ms passed.some, ← (nodes_are p g ms), ← (links_are p g ms collapses), longer_is)

  fit_same : leb (3 * length plan) (link_room (length l.links)) ≡ links_fit (room_of l) after
  fit_same = fits-plan (length plan) (length l.links) ∙ ap (λ (n : ℕ). fits 3 131072 n (length l.links)) (counts_same p g ms collapses)

  pub outcome_is : cond (leb (3 * length plan) (link_room (length l.links))) (made (beginning p g.nodes (first_of ms)).x (state_by p g.nodes g.links t plan ms) c l) (refused 7 c u l) ≡ group_outcome l letters c u ms p
  outcome_is =
      ap₂ (λ (b : Bool) (o : Outcome). cond b o (refused 7 c u l)) fit_same made-same
      ∙ by (links_fit (room_of l) after)
      ∙ ap (λ (n : ℕ). cond (not (eqb n 0)) (refused n c u l) (made (shared_node p g ms) after c l)) (sym (number-late (room_of l) p s ms z))
    where
      by : (b : Bool) → cond b (made (shared_node p g ms) after c l) (refused 7 c u l) ≡ cond (not (eqb (cond b 0 7) 0)) (refused (cond b 0 7) c u l) (made (shared_node p g ms) after c l)
      by true = refl
      by false = refl
