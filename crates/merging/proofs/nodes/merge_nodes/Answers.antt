use Prim.Native.Nat.{ℕ, ◌+◌, ◌*◌, ◌≤◌, ◌<◌}
use mathlib.Core.Path.{◌≡◌, refl, sym, ap, ◌∙◌, subst}
use mathlib.Core.List.Memᴰ
use mathlib.Core.List.{List, ◌∷◌, ◌++◌, map}
use native.Mathlib.Omega.{arith}
use lib.ListN.{length, drop, get_or}
use Rattle.kit.specs.Layout.{encode}
use Rattle.kit.proofs.Laws.{length-decode, encode-decode, alike_further}
use Rattle.kit.proofs.Meaning.{all_mem}
use Rattle.handle.specs.declared.Handle.{Handle}
use Rattle.handle.specs.Handle.{id_of}
use Rattle.store.specs.Graph.{handle, node_layout, nodes_of}
use Rattle.store.specs.declared.Node.{Node}
use Rattle.store.specs.Views.{stored}
use Rattle.merging.specs.Plan.{alone_nodes, later_nodes, later_nodes_all, merged_nodes}
use Rattle.merging.proofs.NodeTurns.{Ready, ready_alone, ready_later, alone_space, later_more, holds, beyond, left_member, no_member}
use Rattle.merging.proofs.nodes.merge_nodes.Invariants.{Inv}
use Rattle.merging.proofs.nodes.merge_nodes.Goals as goal

-- a turn of the loop
module _ (l₁ : List ℕ) (n₁ : ℕ) (ns : List ℕ) (p : ℕ) (l : List ℕ) (n i : ℕ) (v : Inv l₁ n₁ ns p l n i) (h : i < length ns) where
  abbrev rs : List Node
  rs = nodes_of n l

  abbrev m : Handle
  m = handle (get_or ns i 0)

  abbrev after : List Handle
  after = drop (i + 1) (map handle ns)

  ready_next : Ready p (length l₁) rs (m ∷ after)
  ready_next = subst (Ready p (length l₁) rs) (left_member ns i h) v.ready

  turn : (r : ℕ) (l' : List ℕ) → r ≡ length (later_nodes p rs m) → l' ≡ encode node_layout (later_nodes p rs m) ++ drop (4 * r) l → length l' ≡ length l → Inv l₁ n₁ ns p l' r (i + 1)
  turn r l' e q s =
      let is = holds (later_nodes p rs m) r l l' e q in
      let k : n ≤ r = omega (arith, e, later_more p rs m, length-decode node_layout n l) in
      record {
        bound = omega arith;
        size = s ∙ v.size;
        more = omega (arith, v.more);
        todo = ap (λ (ts : List Node). later_nodes_all p ts after) is ∙ sym (ap (later_nodes_all p rs) (left_member ns i h)) ∙ v.todo;
        rest = beyond (later_nodes p rs m) r l l' e q ∙ alike_further (4 * n) (4 * r) l l₁ (omega arith) v.rest;
        ready = rw is (ready_later p (length l₁) rs m after ready_next);
      }

-- the first member, before the loop, and what stands after it
module _ (l₀ : List ℕ) (n₀ : ℕ) (ns : List ℕ) (p : ℕ) (h : 0 < length ns) (ok : Ready p (length l₀) (nodes_of n₀ l₀) (map handle ns)) where
  abbrev rs₀ : List Node
  rs₀ = nodes_of n₀ l₀

  abbrev ms : List Handle
  ms = map handle ns

  abbrev first : Handle
  first = handle (get_or ns 0 0)

  abbrev others : List Handle
  others = drop 1 (map handle ns)

  ready_first : Ready p (length l₀) rs₀ (first ∷ others)
  ready_first = subst (Ready p (length l₀) rs₀) (left_member ns 0 h) ok

  module _ (n₁ : ℕ) (l₁ : List ℕ) (e : n₁ ≡ length (alone_nodes p rs₀ first)) (q : l₁ ≡ encode node_layout (alone_nodes p rs₀ first) ++ drop (4 * n₁) l₀) (s : length l₁ ≡ length l₀) where
    start : Inv l₁ n₁ ns p l₁ n₁ 1
    start =
        record {
          bound = h;
          size = refl;
          more = omega arith;
          todo = refl;
          rest = refl;
          ready = rw (holds (alone_nodes p rs₀ first) n₁ l₀ l₁ e q, s) (ready_alone p (length l₀) rs₀ first others ready_first);
        }

    -- none is left
    module _ (l : List ℕ) (n i : ℕ) (v : Inv l₁ n₁ ns p l n i) (end : length ns ≤ i) where
      all_made : nodes_of n l ≡ merged_nodes p rs₀ ms
      all_made =
          sym (ap (later_nodes_all p (nodes_of n l)) (no_member ns i end)) ∙ v.todo
          ∙ ap (λ (rs : List Node). later_nodes_all p rs others) (holds (alone_nodes p rs₀ first) n₁ l₀ l₁ e q)
          ∙ sym (ap (merged_nodes p rs₀) (left_member ns 0 h))

      room : 4 * n ≤ length l
      room = omega (arith, v.ready.space, v.size, length-decode node_layout n l)

      as_it_was : drop (4 * n) l ≡ drop (4 * n) l₀
      as_it_was = v.rest ∙ alike_further (4 * n₁) (4 * n) l₁ l₀ (omega (arith, v.more)) (beyond (alone_nodes p rs₀ first) n₁ l₀ l₁ e q)

      done : (n ≡ length (merged_nodes p rs₀ ms)) × (l ≡ encode node_layout (merged_nodes p rs₀ ms) ++ drop (4 * n) l₀)
      done = (
        sym (length-decode node_layout n l) ∙ ap length all_made,
        sym (encode-decode node_layout n l room) ∙ rw (all_made, as_it_was),
      )

pub alone_nodes-n-requires : goal.alone_nodes-n-requires
alone_nodes-n-requires c =
    let ready : Ready c.args.p (length c.args.nodes.now) (nodes_of c.args.node_count c.args.nodes.now) (map handle c.args.members.now) =
    let a = c.args in
    let rs : List Node = nodes_of a.node_count a.nodes.now in
    record {
      once = c.requires.in_bounds.1;
      apart = c.requires.members_value.1;
      there = λ m k. all_mem (λ h. stored (id_of h) rs) c.requires.members_value.0 k;
      ends = λ m k. c.requires.by_index (id_of m);
      fits = c.requires.members_bound;
      space = omega (arith, c.requires.members_in_bounds, length-decode node_layout a.node_count a.nodes.now);
    }
    in
    let a = c.args in
    let r = ready_first a.nodes.now a.node_count a.members.now a.p c.requires.in_bounds.0 (ready) in
    record { count_in_bounds = (omega (arith, c.requires.members_in_bounds), alone_space a.p _ _ _ _ r); nodes_value = (c.requires.in_bounds.1, ap (λ (x : ℕ). x + 1) c.largest_id-fresh.ensures); nodes_bound = c.requires.by_index _ }

pub loop-i-init : goal.loop-i-init
loop-i-init c =
    let ready : Ready c.args.p (length c.args.nodes.now) (nodes_of c.args.node_count c.args.nodes.now) (map handle c.args.members.now) =
    let a = c.args in
    let rs : List Node = nodes_of a.node_count a.nodes.now in
    record {
      once = c.requires.in_bounds.1;
      apart = c.requires.members_value.1;
      there = λ m k. all_mem (λ h. stored (id_of h) rs) c.requires.members_value.0 k;
      ends = λ m k. c.requires.by_index (id_of m);
      fits = c.requires.members_bound;
      space = omega (arith, c.requires.members_in_bounds, length-decode node_layout a.node_count a.nodes.now);
    }
    in
    let a = c.args in
    start a.nodes.now a.node_count a.members.now a.p c.requires.in_bounds.0 (ready) _ _ c.alone_nodes-n.ensures.value c.alone_nodes-n.ensures.nodes_after (omega arith)

pub later_nodes-n-requires : goal.later_nodes-n-requires
later_nodes-n-requires c =
    let a = c.args in
    let r = ready_next _ _ a.members.now a.p c.loop-i.nodes c.loop-i.n c.loop-i.i c.loop-i.invariant (omega arith) in record { count_in_bounds = (omega (arith, r.space, c.loop-i.invariant.size, length-decode node_layout c.loop-i.n c.loop-i.nodes), omega (arith, alone_space a.p _ _ _ _ r, c.loop-i.invariant.size)); nodes_value = (r.once, r.there _ (Memᴰ.head refl), omega (arith, r.fits)); nodes_bound = r.ends _ (Memᴰ.head refl) }

pub loop-i-preserved : goal.loop-i-preserved
loop-i-preserved c =
    let a = c.args in
    turn _ _ a.members.now a.p c.loop-i.nodes c.loop-i.n c.loop-i.i c.loop-i.invariant (omega arith) _ _ c.later_nodes-n.ensures.value c.later_nodes-n.ensures.nodes_after (omega arith)

pub returns : goal.returns
returns c =
    let ready : Ready c.args.p (length c.args.nodes.now) (nodes_of c.args.node_count c.args.nodes.now) (map handle c.args.members.now) =
    let a = c.args in
    let rs : List Node = nodes_of a.node_count a.nodes.now in
    record {
      once = c.requires.in_bounds.1;
      apart = c.requires.members_value.1;
      there = λ m k. all_mem (λ h. stored (id_of h) rs) c.requires.members_value.0 k;
      ends = λ m k. c.requires.by_index (id_of m);
      fits = c.requires.members_bound;
      space = omega (arith, c.requires.members_in_bounds, length-decode node_layout a.node_count a.nodes.now);
    }
    in
    let a = c.args in
    let both = done a.nodes.now a.node_count a.members.now a.p c.requires.in_bounds.0 (ready) _ _ c.alone_nodes-n.ensures.value c.alone_nodes-n.ensures.nodes_after (omega arith) c.loop-i.nodes c.loop-i.n c.loop-i.i c.loop-i.invariant (omega arith) in record { value = both.0; nodes_after = both.1 }
