-- A collapse that is made leaves graph and events that give no number, so that the next can follow.
use Prim.Native.Nat.{ℕ, ◌*◌, ◌≤◌}
use mathlib.Core.Path.{◌≡◌, refl, ap, subst, ◌∙◌}
use mathlib.Core.Bool.{Bool, true, not, ◌&&◌}
use mathlib.Core.List.{List, Memᴰ}
use borrow.Author.Tests.{leb-true, not-false}
use lib.Dec.{leb}
use lib.ListN.{length, take}
use Rattle.kit.proofs.Bools.{and_true_l, and_true_r, and_both}
use Rattle.handle.specs.declared.Handle.{Handle}
use Rattle.store.specs.declared.Counts.{Counts}
use Rattle.store.specs.Graph.{Graph, node_layout, link_layout, graph_of}
use Rattle.formed.specs.WellFormed.{good_graph, room_for, well_formed, ids_once}
use Rattle.formed.proofs.Says.{formed_room, formed_good, says_room}
use Rattle.events.specs.declared.Used.{Used}
use Rattle.events.specs.Events.{Event, rule_layout, step_layout}
use Rattle.events.specs.WellFormed.{room_for_rules, keys_once, in_order}
use Rattle.merged.proofs.Members.{Collapses}
use Rattle.merged.proofs.Theorems as merged
use Rattle.collapsing.specs.Making.{State, Room, events_for, longer, state_after, members_number, group_number, fits, state_fits, collapse_number}
use Rattle.collapsing.specs.Outcome.{Lent, room_of, state_in, holding, counts_of, used_of}
use Rattle.collapsing.proofs.Before.{untold, tested, passed_members, fits_few}
use Rattle.collapsing.proofs.Foreseen.{events_are}
use Rattle.longer.proofs.Front.{decode-front, length_front}
use Rattle.collapsing.proofs.Given.{Sound}
use Rattle.collapsing.proofs.GoodEvents.{GoodEvent, events_good, live-handles, formed_longer}
use Rattle.collapsing.proofs.Grouped.{first-pass, seven}

-- what a collapse that gives no number has passed
pub record Passes (room : Room) (p : ℕ) (s : State) (ms : List Handle) : Type 0 where
  pub members : members_number p s.graph ms ≡ 0
  pub keys : keys_once (longer p s ms).rules ≡ true
  pub order : in_order (longer p s ms) ≡ true
  pub room_left : state_fits room (state_after p s ms) ≡ true

pub passes : (room : Room) (p : ℕ) (s : State) (ms : List Handle) → collapse_number room p s ms ≡ 0 → Passes room p s ms
passes room p s ms z =
    let a = first-pass (group_number p s ms) _ z in
    let b = first-pass (members_number p s.graph ms) _ a.0 in
    let d = untold (not (keys_once (longer p s ms).rules)) 4 _ b.1 in
    let e = untold (not (in_order (longer p s ms))) 11 0 d.1 in
    record {
      members = b.0;
      keys = not-false _ d.0;
      order = not-false _ e.0;
      room_left = seven (state_fits room (state_after p s ms)) a.1;
    }

-- the room that is left, array by array
fits-room : (stride limit n room : ℕ) → fits stride limit n room ≡ true → stride * n ≤ room
fits-room stride limit n room t = leb-true (stride * n) room (and_true_r (leb n limit) (leb (stride * n) room) t)

module _ (room : Room) (s : State) (t : state_fits room s ≡ true) where
  abbrev fits_nodes : Bool
  fits_nodes = fits 4 65536 (length s.graph.nodes) room.nodes

  abbrev fits_links : Bool
  fits_links = fits 3 131072 (length s.graph.links) room.links

  abbrev fits_rules : Bool
  fits_rules = fits 4 65536 (length s.events.rules) room.rules

  abbrev fits_steps : Bool
  fits_steps = fits 2 262144 (length s.events.steps) room.steps

  graph_fits : (fits_nodes && fits_links) ≡ true
  graph_fits = and_true_l (fits_nodes && fits_links) (fits_rules && fits_steps) t

  lists_fit_lem : (fits_rules && fits_steps) ≡ true
  lists_fit_lem = and_true_r (fits_nodes && fits_links) (fits_rules && fits_steps) t

  nodes_fit : fits_nodes ≡ true
  nodes_fit = and_true_l fits_nodes fits_links graph_fits

  links_fit_lem : fits_links ≡ true
  links_fit_lem = and_true_r fits_nodes fits_links graph_fits

  rules_fit : fits_rules ≡ true
  rules_fit = and_true_l fits_rules fits_steps lists_fit_lem

  steps_fit : fits_steps ≡ true
  steps_fit = and_true_r fits_rules fits_steps lists_fit_lem

-- a state stored in arrays that have the room: their lengths stay
module _ (l : Lent) (s : State) (t : state_fits (room_of l) s ≡ true) where
  nodes-length : length (holding s l).nodes ≡ length l.nodes
  nodes-length = length_front node_layout s.graph.nodes l.nodes (fits-room 4 65536 _ _ (nodes_fit (room_of l) s t))

  links-length : length (holding s l).links ≡ length l.links
  links-length = length_front link_layout s.graph.links l.links (fits-room 3 131072 _ _ (links_fit_lem (room_of l) s t))

  rules-length : length (holding s l).rules ≡ length l.rules
  rules-length = length_front rule_layout s.events.rules l.rules (fits-room 4 65536 _ _ (rules_fit (room_of l) s t))

  steps-length : length (holding s l).steps ≡ length l.steps
  steps-length = length_front step_layout s.events.steps l.steps (fits-room 2 262144 _ _ (steps_fit (room_of l) s t))

  pub room-same : room_of (holding s l) ≡ room_of l
  room-same = rw (nodes-length, links-length, rules-length, steps-length)

  rules-room : room_for_rules (holding s l).rules (holding s l).steps (used_of s) ≡ true
  rules-room = rw (rules-length, steps-length) (lists_fit_lem (room_of l) s t)

-- and the state is what they then say
pub stored_back : (l : Lent) (letters : List ℕ) (c : Counts) (s : State) → s.graph.letters ≡ take c.letters letters → state_in (holding s l) letters (counts_of s c) (used_of s) ≡ s
stored_back l letters c s e =
    rw (
      decode-front node_layout (length s.graph.nodes) s.graph.nodes l.nodes refl,
      decode-front link_layout (length s.graph.links) s.graph.links l.links refl,
      decode-front rule_layout (length s.events.rules) s.events.rules l.rules refl,
      decode-front step_layout (length s.events.steps) s.events.steps l.steps refl,
      ← e,
    )

module _ (l : Lent) (letters : List ℕ) (c : Counts) (u : Used) (p : ℕ) (ms : List Handle) (sound : Sound l letters c u) (z : collapse_number (room_of l) p (state_in l letters c u) ms ≡ 0) where
  abbrev g : Graph
  g = graph_of l.nodes letters l.links c

  abbrev s : State
  s = state_in l letters c u

  abbrev after : State
  after = state_after p s ms

  passed : Passes (room_of l) p s ms
  passed = passes (room_of l) p s ms z

  good : good_graph g ≡ true
  good = and_true_r (room_for l.nodes letters l.links c) (good_graph g) sound.graph

  pub collapses : Collapses p g ms
  collapses = passed_members p g ms good sound.ids passed.members

  pub back_after : state_in (holding after l) letters (counts_of after c) (used_of after) ≡ after
  back_after = stored_back l letters c after (merged.after p g ms collapses).letters_same

  pub room_after : room_of (holding after l) ≡ room_of l
  room_after = room-same l after passed.room_left

  graph_after : well_formed (holding after l).nodes letters (holding after l).links (counts_of after c) ≡ true
  graph_after =
      let room = formed_room l.nodes letters l.links c sound.graph in
      let n = nodes_fit (room_of l) after passed.room_left in
      let k = links_fit_lem (room_of l) after passed.room_left in
      and_both _ _
      (says_room (holding after l).nodes letters (holding after l).links (counts_of after c)
      (record {
        few_nodes = fits_few 4 65536 _ _ n;
        node_room = rw (nodes-length l after passed.room_left) (fits-room 4 65536 _ _ n);
        few_letters = room.few_letters;
        letter_room = room.letter_room;
        few_links = fits_few 3 131072 _ _ k;
        link_room = rw (links-length l after passed.room_left) (fits-room 3 131072 _ _ k);
      }))
      (ap (λ (x : State). good_graph x.graph) back_after ∙ merged.good_after p g ms collapses)

  new_good : (e : Event) → Memᴰ e (events_for p g ms) → GoodEvent e
  new_good e i =
      let k = tested p g ms passed.members in
      let nodes_good = (formed_good l.nodes letters l.links c sound.graph).nodes_good in
      events_good p g.nodes ms (live-handles g.letters g.nodes ms nodes_good k.live) k.enough
      (subst (λ (es : List Event). Memᴰ e es) (events_are p g ms collapses) i)

  pub sound-after : Sound (holding after l) letters (counts_of after c) (used_of after)
  sound-after =
      record {
        graph = graph_after;
        events = formed_longer l.rules l.steps u (events_for p g ms) new_good sound.events (record { used = refl; rules_now = refl; steps_now = refl }) (rules-room l after passed.room_left);
        ids = ap (λ (x : State). ids_once x.graph.nodes) back_after ∙ merged.once_after p g ms collapses;
        keys = ap (λ (x : State). keys_once x.events.rules) back_after ∙ passed.keys;
      }
