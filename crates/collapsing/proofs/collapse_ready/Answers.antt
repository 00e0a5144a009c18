use Prim.Native.Nat.{◌≤◌}
use mathlib.Core.Path.{◌≡◌, sym, ◌∙◌}
use native.Mathlib.Omega.{arith}
use lib.ListN.{length, take}
use lib.Seq.{length-take-le}
use Rattle.affix.specs.Prefix.{handles_of}
use Rattle.collapsing.specs.Put.{link_room}
use Rattle.collapsing.specs.Outcome.{lent}
use Rattle.collapsing.proofs.Outcomes.{room_least}
use Rattle.collapsing.proofs.Grouped.{node_room, room_for_lem, plans, storable, plan-room, outcome_is}
use borrow.Author.Rules.{rules}
use Rattle.collapsing.proofs.collapse_ready.Goals as goal

pub slice_bounds-collapse_in-end : goal.slice_bounds-collapse_in-end
slice_bounds-collapse_in-end c =
    let few : c.link_room-n.result ≤ length c.args.room.now =
    omega (arith, c.link_room-n.ensures, (room_least (length c.args.links.now)).1, c.requires.c_value.2)
    in
    let h = few in search rules

pub slice_bounds-collapse_in-end-2 : goal.slice_bounds-collapse_in-end-2
slice_bounds-collapse_in-end-2 c =
    let few : c.link_room-n.result ≤ length c.args.room.now =
    omega (arith, c.link_room-n.ensures, (room_least (length c.args.links.now)).1, c.requires.c_value.2)
    in
    sym (length-take-le c.link_room-n.result c.args.room.now (few))

pub collapse_in-requires : goal.collapse_in-requires
collapse_in-requires c =
    let few : c.link_room-n.result ≤ length c.args.room.now =
    omega (arith, c.link_room-n.ensures, (room_least (length c.args.links.now)).1, c.requires.c_value.2)
    in
    let size : length (take c.link_room-n.result c.args.room.now) ≡ link_room (length c.args.links.now) =
    length-take-le c.link_room-n.result c.args.room.now (few) ∙ c.link_room-n.ensures
    in
    let a = c.args in
    let l = (lent c.args.nodes.now c.args.links.now c.args.rules.now c.args.steps.now) in
    let ms = handles_of a.members.now in
    let w = c.requires.c_value.0 in
    let o = c.requires.c_value.1 in
    let z = c.requires.members_value in
    record { members_in_bounds = (node_room l a.text.now a.c a.u a.p ms w o z, rw (size) (plan-room l a.text.now a.c a.u a.p ms w o z), rw (size) (room_least (length a.links.now)).0); plans = plans l a.text.now a.c a.u a.p ms w o z; storable = storable l a.text.now a.c a.u a.p ms w o z; room_for = room_for_lem l a.text.now a.c a.u a.p ms w o z }

pub returns : goal.returns
returns c =
    let few : c.link_room-n.result ≤ length c.args.room.now =
    omega (arith, c.link_room-n.ensures, (room_least (length c.args.links.now)).1, c.requires.c_value.2)
    in
    let size : length (take c.link_room-n.result c.args.room.now) ≡ link_room (length c.args.links.now) =
    length-take-le c.link_room-n.result c.args.room.now (few) ∙ c.link_room-n.ensures
    in
    let a = c.args in
    c.collapse_in.ensures ∙ rw (size) (outcome_is ((lent c.args.nodes.now c.args.links.now c.args.rules.now c.args.steps.now)) a.text.now a.c a.u a.p (handles_of a.members.now) c.requires.c_value.0 c.requires.c_value.1 c.requires.members_value)
