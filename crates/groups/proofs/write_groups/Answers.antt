use Prim.Native.Nat.{ℕ, suc, ◌+◌, ◌≤◌, ◌<◌}
use mathlib.Core.Path.{◌≡◌, refl, sym, ap, ap₂, ◌∙◌}
use mathlib.Core.List.{[], List, ◌∷◌, map, map-append}
use native.Mathlib.Numerals.{add-one}
use native.Mathlib.Omega.{arith}
use lib.ListN.{length, set, length-set, length-append, length-map}
use lib.Seq.{sets, length-sets}
use Rattle.kit.specs.Put.{Put}
use Rattle.kit.proofs.Writes.{sets-front, put-left}
use Rattle.handle.specs.declared.Handle.{Handle}
use Rattle.store.specs.Graph.{Graph, graph_of, handle}
use Rattle.sides.specs.Sides.{right_of}
use Rattle.sides.proofs.Rising.{rest_above, Step, next-step, next_end}
use Rattle.groups.specs.Groups.{group_of, groups_of, members_of, ends_from, numbers, over}
use Rattle.groups.specs.Search.{of_key, heads_of}
use Rattle.groups.proofs.Along.{heads-all, heads_sorted}
use Rattle.groups.proofs.Placing.{length-arranged}
use Rattle.groups.proofs.Groups.{groups-length}
use Rattle.groups.proofs.write_groups.Invariants.{Inv, left}
use Rattle.groups.proofs.write_groups.Goals as goal

ends-length : (k : ℕ) (gs : List (List Handle)) → length (ends_from k gs) ≡ length gs
ends-length k [] = refl
ends-length k (ms ∷ gs) = ap suc (ends-length (k + length ms) gs)

module _ (g : Graph) (v : Handle) (m₀ e₀ : List ℕ) where
  start : rest_above 0 (heads_of g v) ≡ heads_of g v → Inv g v m₀ e₀ m₀ e₀ 0 0 0
  start e =
      let q : left g v 0 ≡ groups_of g v = ap (map (group_of g (right_of g v))) e in
      record {
        member_room = refl;
        end_room = refl;
        places = omega (arith, ap (λ (gs : List (List Handle)). length (members_of gs)) q, groups-length g v);
        number = omega (arith, ap length q);
        members_todo = ap (λ (gs : List (List Handle)). sets m₀ 0 (numbers (members_of gs))) q;
        ends_todo = ap (λ (gs : List (List Handle)). sets e₀ 0 (ends_from 0 gs)) q;
      }

  module _ (m e : List ℕ) (n at above : ℕ) (i : Inv g v m₀ e₀ m e n at above) where
    -- none is left
    module _ (z : rest_above above (heads_of g v) ≡ []) where
      members_done : length (right_of g v) ≤ length m₀ → m ≡ over (numbers (members_of (groups_of g v))) m₀
      members_done room =
          sym (ap (λ (hs : List Handle). sets m at (numbers (members_of (map (group_of g (right_of g v)) hs)))) z) ∙ i.members_todo
          ∙ sets-front m₀ (numbers (members_of (groups_of g v))) (omega (arith, length-map (members_of (groups_of g v)) (λ h. h.packed), groups-length g v))

      ends-done : length (groups_of g v) ≤ length e₀ → e ≡ over (ends_from 0 (groups_of g v)) e₀
      ends-done room =
          sym (ap (λ (hs : List Handle). sets e n (ends_from at (map (group_of g (right_of g v)) hs))) z) ∙ i.ends_todo
          ∙ sets-front e₀ (ends_from 0 (groups_of g v)) (omega (arith, ends-length 0 (groups_of g v)))

    -- u is the next head
    module _ (u : ℕ) (s : Step above (heads_of g v) u) where
      abbrev group : List Handle
      group = group_of g (right_of g v) (handle u)

      cut : left g v above ≡ group ∷ left g v u
      cut = ap (map (group_of g (right_of g v))) s.rest

      fits : at + length (of_key g v (handle u)) ≤ length (right_of g v)
      fits =
          omega (arith, i.places, ap (λ (gs : List (List Handle)). length (members_of gs)) cut, length-append group (members_of (left g v u)), length-arranged (of_key g v (handle u)))

      free : n < length (groups_of g v)
      free = omega (arith, i.number, ap length cut)

      next : (l : List ℕ) (end : ℕ) → Put m at (numbers group) l end → Inv g v m₀ e₀ l (set e n end) (n + 1) end u
      next l end p =
          let k : end ≡ at + length group = omega (arith, p.place, length-map group (λ h. h.packed)) in
          let rest = members_of (left g v u) in
          record {
            member_room = ap length p.bytes ∙ length-sets m at (numbers group) ∙ i.member_room;
            end_room = length-set e n end ∙ i.end_room;
            places = omega (arith, i.places, ap (λ (gs : List (List Handle)). length (members_of gs)) cut, length-append group rest, k);
            number = omega (arith, i.number, ap length cut);
            members_todo =
                put-left (numbers rest) p
                ∙ ap (sets m at) (sym (map-append (λ (h : Handle). h.packed) group rest))
                ∙ sym (ap (λ (gs : List (List Handle)). sets m at (numbers (members_of gs))) cut) ∙ i.members_todo;
            ends_todo =
                ap₂ (λ (x y : ℕ). sets (set e n x) y (ends_from x (left g v u))) k (add-one n)
                ∙ sym (ap (λ (gs : List (List Handle)). sets e n (ends_from at gs)) cut) ∙ i.ends_todo;
          }

pub loop-u-init : goal.loop-u-init
loop-u-init c =
    let a = c.args in
    start (graph_of a.nodes.now a.text.now a.links.now a.c) a.v a.members.now a.ends.now (heads-all a.nodes.now a.text.now a.links.now a.c c.requires.c_value a.v)

pub shape_of-members : goal.shape_of-members
shape_of-members c = c.loop-u.invariant.member_room

pub shape_of-ends : goal.shape_of-ends
shape_of-ends c = c.loop-u.invariant.end_room

pub returns : goal.returns
returns c =
    let a = c.args in
    let g : Graph = graph_of a.nodes.now a.text.now a.links.now a.c in
    let z = next_end c.loop-u.above (heads_of g a.v) c.in_default.ensures.value in record { members_after = members_done g a.v a.members.now a.ends.now c.loop-u.members c.loop-u.ends c.loop-u.n c.loop-u.at c.loop-u.above c.loop-u.invariant z c.requires.v_in_bounds.0; ends_after = ends-done g a.v a.members.now a.ends.now c.loop-u.members c.loop-u.ends c.loop-u.n c.loop-u.at c.loop-u.above c.loop-u.invariant z c.requires.v_in_bounds.1 }

pub write_group-at-requires : goal.write_group-at-requires
write_group-at-requires c =
    let step : Step c.loop-u.above (heads_of (graph_of c.args.nodes.now c.args.text.now c.args.links.now c.args.c) c.args.v) c.in-Some.u.packed =
    let a = c.args in
    next-step c.loop-u.above c.in-Some.u.packed (heads_sorted (graph_of a.nodes.now a.text.now a.links.now a.c) a.v) c.in-Some.ensures.value c.in-Some.ensures.some
    in
    let a = c.args in
    let g : Graph = graph_of a.nodes.now a.text.now a.links.now a.c in
    record { c_value = c.requires.c_value; u_in_bounds = omega (arith, fits g a.v a.members.now a.ends.now c.loop-u.members c.loop-u.ends c.loop-u.n c.loop-u.at c.loop-u.above c.loop-u.invariant c.in-Some.u.packed (step), c.loop-u.invariant.member_room, c.requires.v_in_bounds.0) }

pub offset_bounds-ends-n : goal.offset_bounds-ends-n
offset_bounds-ends-n c =
    let step : Step c.loop-u.above (heads_of (graph_of c.args.nodes.now c.args.text.now c.args.links.now c.args.c) c.args.v) c.in-Some.u.packed =
    let a = c.args in
    next-step c.loop-u.above c.in-Some.u.packed (heads_sorted (graph_of a.nodes.now a.text.now a.links.now a.c) a.v) c.in-Some.ensures.value c.in-Some.ensures.some
    in
    let a = c.args in
    let g : Graph = graph_of a.nodes.now a.text.now a.links.now a.c in
    omega (arith, free g a.v a.members.now a.ends.now c.loop-u.members c.loop-u.ends c.loop-u.n c.loop-u.at c.loop-u.above c.loop-u.invariant c.in-Some.u.packed (step), c.loop-u.invariant.end_room, c.requires.v_in_bounds.1, c.well_formed)

pub bounds-ends-n : goal.bounds-ends-n
bounds-ends-n c =
    let step : Step c.loop-u.above (heads_of (graph_of c.args.nodes.now c.args.text.now c.args.links.now c.args.c) c.args.v) c.in-Some.u.packed =
    let a = c.args in
    next-step c.loop-u.above c.in-Some.u.packed (heads_sorted (graph_of a.nodes.now a.text.now a.links.now a.c) a.v) c.in-Some.ensures.value c.in-Some.ensures.some
    in
    let a = c.args in
    let g : Graph = graph_of a.nodes.now a.text.now a.links.now a.c in
    omega (arith, free g a.v a.members.now a.ends.now c.loop-u.members c.loop-u.ends c.loop-u.n c.loop-u.at c.loop-u.above c.loop-u.invariant c.in-Some.u.packed (step), c.loop-u.invariant.end_room, c.requires.v_in_bounds.1, c.well_formed)

pub overflow_add-n : goal.overflow_add-n
overflow_add-n c =
    let step : Step c.loop-u.above (heads_of (graph_of c.args.nodes.now c.args.text.now c.args.links.now c.args.c) c.args.v) c.in-Some.u.packed =
    let a = c.args in
    next-step c.loop-u.above c.in-Some.u.packed (heads_sorted (graph_of a.nodes.now a.text.now a.links.now a.c) a.v) c.in-Some.ensures.value c.in-Some.ensures.some
    in
    let a = c.args in
    let g : Graph = graph_of a.nodes.now a.text.now a.links.now a.c in
    omega (arith, free g a.v a.members.now a.ends.now c.loop-u.members c.loop-u.ends c.loop-u.n c.loop-u.at c.loop-u.above c.loop-u.invariant c.in-Some.u.packed (step), c.loop-u.invariant.end_room, c.requires.v_in_bounds.1, c.well_formed)

pub loop-u-smaller : goal.loop-u-smaller
loop-u-smaller c =
    let step : Step c.loop-u.above (heads_of (graph_of c.args.nodes.now c.args.text.now c.args.links.now c.args.c) c.args.v) c.in-Some.u.packed =
    let a = c.args in
    next-step c.loop-u.above c.in-Some.u.packed (heads_sorted (graph_of a.nodes.now a.text.now a.links.now a.c) a.v) c.in-Some.ensures.value c.in-Some.ensures.some
    in
    let s = step in omega (arith, ap length s.rest)

pub loop-u-preserved : goal.loop-u-preserved
loop-u-preserved c =
    let step : Step c.loop-u.above (heads_of (graph_of c.args.nodes.now c.args.text.now c.args.links.now c.args.c) c.args.v) c.in-Some.u.packed =
    let a = c.args in
    next-step c.loop-u.above c.in-Some.u.packed (heads_sorted (graph_of a.nodes.now a.text.now a.links.now a.c) a.v) c.in-Some.ensures.value c.in-Some.ensures.some
    in
    let a = c.args in
    let g : Graph = graph_of a.nodes.now a.text.now a.links.now a.c in
    next g a.v a.members.now a.ends.now c.loop-u.members c.loop-u.ends c.loop-u.n c.loop-u.at c.loop-u.above c.loop-u.invariant c.in-Some.u.packed (step) _ c.write_group-at.result c.write_group-at.ensures
