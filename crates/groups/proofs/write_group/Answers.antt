use Prim.Native.Nat.{ℕ, ◌+◌, ◌-◌, ◌<◌}
use mathlib.Core.Path.{◌≡◌, refl, sym, ap, ◌∙◌}
use mathlib.Core.Bool.{cond}
use mathlib.Core.List.{List, ◌∷◌}
use native.Mathlib.Omega.{arith}
use lib.Dec.{eqb}
use lib.ListN.{length, set, length-set}
use Rattle.handle.specs.declared.Handle.{Handle}
use Rattle.handle.specs.Handle.{dir_of}
use Rattle.store.specs.Graph.{Graph, graph_of, handle}
use Rattle.sides.proofs.Rising.{rest_above, Step, next-step, next_end}
use Rattle.groups.specs.Groups.{same_key, is_reverse}
use Rattle.groups.specs.Search.{of_key}
use Rattle.groups.proofs.Along.{part-all, key_sorted}
use Rattle.groups.proofs.Placing.{downs, ups, placed, Placed, placed_one, placed-all, length-split, length-written}
use Rattle.groups.proofs.write_group.Invariants.{Inv}
use Rattle.groups.proofs.write_group.Goals as goal

module _ (ms : List Handle) (base : ℕ) (l₀ : List ℕ) where
  start : (n : ℕ) → rest_above 0 ms ≡ ms → n ≡ length (downs ms) → Inv ms base l₀ l₀ (base + n) (base + n) 0
  start n e q =
      rw q
      (record {
        size = refl;
        at_low = rw e;
        at_high = rw e (omega (arith, length-split ms));
        order = omega arith;
        todo = rw e (placed-all l₀ base ms);
      })

  module _ (l : List ℕ) (low high above w : ℕ) (i : Inv ms base l₀ l low high above) (s : Step above ms w) where
    one : Placed l base low high (handle w) (rest_above w ms) (is_reverse (handle w)) (dir_of (handle w))
    one = placed_one l base low high (handle w) (rest_above w ms) i.order (i.at_low ∙ ap (λ (r : List Handle). base + length (downs r)) s.rest)

    top : high + length (ups (handle w ∷ rest_above w ms)) ≡ base + length ms
    top = ap (λ (r : List Handle). high + length (ups r)) (sym s.rest) ∙ i.at_high

    next : (d p : ℕ) → d ≡ dir_of (handle w) → p ≡ cond (eqb d 1) (low - 1) high → Inv ms base l₀ (set l p w) (low - d) (high + (1 - d)) w
    next d p e f =
        rw (f, e)
        (record {
          size = length-set l _ w ∙ i.size;
          at_low = one.below;
          at_high = one.above ∙ top;
          order = one.between;
          todo = one.todo ∙ ap (placed l base high) (sym s.rest) ∙ i.todo;
        })

    inside : (d p : ℕ) → d ≡ dir_of (handle w) → p ≡ cond (eqb d 1) (low - 1) high → p < base + length ms
    inside d p e f = rw (f, e) (omega (arith, one.inside, top))

pub overflow_add-low : goal.overflow_add-low
overflow_add-low c =
    let a = c.args in
    omega (arith, c.count_reversed.ensures, length-split (of_key (graph_of a.nodes.now a.text.now a.links.now a.c) a.v a.u))

pub loop-w-init : goal.loop-w-init
loop-w-init c =
    let a = c.args in
    let g : Graph = graph_of a.nodes.now a.text.now a.links.now a.c in
    start (of_key g a.v a.u) a.base a.members.now c.count_reversed.result (part-all a.nodes.now a.text.now a.links.now a.c c.requires.c_value (same_key g a.u) a.v) c.count_reversed.ensures

pub shape_of-members : goal.shape_of-members
shape_of-members c = c.loop-w.invariant.size

pub returns : goal.returns
returns c =
    let a = c.args in
    let ms : List Handle = of_key (graph_of a.nodes.now a.text.now a.links.now a.c) a.v a.u in
    let e = next_end c.loop-w.above ms c.in_default.ensures.value in
    record {
      place = omega (arith, ap (λ (r : List Handle). length (ups r)) e, c.loop-w.invariant.at_high, length-written ms);
      bytes = sym (ap (placed c.loop-w.members a.base c.loop-w.high) e) ∙ c.loop-w.invariant.todo;
    }

pub place-at-requires : goal.place-at-requires
place-at-requires c =
    let step : Step c.loop-w.above ((of_key (graph_of c.args.nodes.now c.args.text.now c.args.links.now c.args.c) c.args.v c.args.u)) c.in-Some.w.packed =
    let a = c.args in
    next-step c.loop-w.above c.in-Some.w.packed (key_sorted (graph_of a.nodes.now a.text.now a.links.now a.c) a.v a.u) c.in-Some.ensures.value c.in-Some.ensures.some
    in
    let a = c.args in
    omega (arith, c.direction-direction.ensures, (one ((of_key (graph_of c.args.nodes.now c.args.text.now c.args.links.now c.args.c) c.args.v c.args.u)) a.base a.members.now c.loop-w.members c.loop-w.low c.loop-w.high c.loop-w.above c.in-Some.w.packed c.loop-w.invariant (step)).room)

pub offset_bounds-members-at : goal.offset_bounds-members-at
offset_bounds-members-at c =
    let step : Step c.loop-w.above ((of_key (graph_of c.args.nodes.now c.args.text.now c.args.links.now c.args.c) c.args.v c.args.u)) c.in-Some.w.packed =
    let a = c.args in
    next-step c.loop-w.above c.in-Some.w.packed (key_sorted (graph_of a.nodes.now a.text.now a.links.now a.c) a.v a.u) c.in-Some.ensures.value c.in-Some.ensures.some
    in
    let a = c.args in
    omega (arith, inside ((of_key (graph_of c.args.nodes.now c.args.text.now c.args.links.now c.args.c) c.args.v c.args.u)) a.base a.members.now c.loop-w.members c.loop-w.low c.loop-w.high c.loop-w.above c.in-Some.w.packed c.loop-w.invariant (step) c.direction-direction.result c.place-at.result c.direction-direction.ensures c.place-at.ensures, c.loop-w.invariant.size, c.requires.u_in_bounds, c.well_formed)

pub bounds-members-at : goal.bounds-members-at
bounds-members-at c =
    let step : Step c.loop-w.above ((of_key (graph_of c.args.nodes.now c.args.text.now c.args.links.now c.args.c) c.args.v c.args.u)) c.in-Some.w.packed =
    let a = c.args in
    next-step c.loop-w.above c.in-Some.w.packed (key_sorted (graph_of a.nodes.now a.text.now a.links.now a.c) a.v a.u) c.in-Some.ensures.value c.in-Some.ensures.some
    in
    let a = c.args in
    omega (arith, inside ((of_key (graph_of c.args.nodes.now c.args.text.now c.args.links.now c.args.c) c.args.v c.args.u)) a.base a.members.now c.loop-w.members c.loop-w.low c.loop-w.high c.loop-w.above c.in-Some.w.packed c.loop-w.invariant (step) c.direction-direction.result c.place-at.result c.direction-direction.ensures c.place-at.ensures, c.loop-w.invariant.size, c.requires.u_in_bounds)

pub overflow_sub-low : goal.overflow_sub-low
overflow_sub-low c =
    let step : Step c.loop-w.above ((of_key (graph_of c.args.nodes.now c.args.text.now c.args.links.now c.args.c) c.args.v c.args.u)) c.in-Some.w.packed =
    let a = c.args in
    next-step c.loop-w.above c.in-Some.w.packed (key_sorted (graph_of a.nodes.now a.text.now a.links.now a.c) a.v a.u) c.in-Some.ensures.value c.in-Some.ensures.some
    in
    let a = c.args in
    omega (arith, c.direction-direction.ensures, (one ((of_key (graph_of c.args.nodes.now c.args.text.now c.args.links.now c.args.c) c.args.v c.args.u)) a.base a.members.now c.loop-w.members c.loop-w.low c.loop-w.high c.loop-w.above c.in-Some.w.packed c.loop-w.invariant (step)).room)

pub overflow_add-high : goal.overflow_add-high
overflow_add-high c =
    let step : Step c.loop-w.above ((of_key (graph_of c.args.nodes.now c.args.text.now c.args.links.now c.args.c) c.args.v c.args.u)) c.in-Some.w.packed =
    let a = c.args in
    next-step c.loop-w.above c.in-Some.w.packed (key_sorted (graph_of a.nodes.now a.text.now a.links.now a.c) a.v a.u) c.in-Some.ensures.value c.in-Some.ensures.some
    in
    let a = c.args in
    omega (arith, (next ((of_key (graph_of c.args.nodes.now c.args.text.now c.args.links.now c.args.c) c.args.v c.args.u)) a.base a.members.now c.loop-w.members c.loop-w.low c.loop-w.high c.loop-w.above c.in-Some.w.packed c.loop-w.invariant (step) c.direction-direction.result c.place-at.result c.direction-direction.ensures c.place-at.ensures).at_high, c.requires.u_in_bounds, c.well_formed)

pub loop-w-smaller : goal.loop-w-smaller
loop-w-smaller c =
    let step : Step c.loop-w.above ((of_key (graph_of c.args.nodes.now c.args.text.now c.args.links.now c.args.c) c.args.v c.args.u)) c.in-Some.w.packed =
    let a = c.args in
    next-step c.loop-w.above c.in-Some.w.packed (key_sorted (graph_of a.nodes.now a.text.now a.links.now a.c) a.v a.u) c.in-Some.ensures.value c.in-Some.ensures.some
    in
    let s = step in omega (arith, ap length s.rest)

pub loop-w-preserved : goal.loop-w-preserved
loop-w-preserved c =
    let step : Step c.loop-w.above ((of_key (graph_of c.args.nodes.now c.args.text.now c.args.links.now c.args.c) c.args.v c.args.u)) c.in-Some.w.packed =
    let a = c.args in
    next-step c.loop-w.above c.in-Some.w.packed (key_sorted (graph_of a.nodes.now a.text.now a.links.now a.c) a.v a.u) c.in-Some.ensures.value c.in-Some.ensures.some
    in
    let a = c.args in
    next ((of_key (graph_of c.args.nodes.now c.args.text.now c.args.links.now c.args.c) c.args.v c.args.u)) a.base a.members.now c.loop-w.members c.loop-w.low c.loop-w.high c.loop-w.above c.in-Some.w.packed c.loop-w.invariant (step) c.direction-direction.result c.place-at.result c.direction-direction.ensures c.place-at.ensures
