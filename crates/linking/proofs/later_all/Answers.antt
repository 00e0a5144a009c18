use Prim.Native.Nat.{ℕ, ◌+◌, ◌≤◌}
use mathlib.Core.Path.{◌≡◌, refl, sym, ap, ◌∙◌, subst}
use mathlib.Core.Bool.{Bool, true, cond}
use mathlib.Core.List.{List, ◌∷◌, map}
use native.Mathlib.Omega.{arith}
use lib.ListN.{length, drop, get_or}
use Rattle.handle.specs.declared.Handle.{Handle}
use Rattle.handle.specs.Handle.{max_id}
use Rattle.store.specs.Graph.{handle, nodes_of, links_of}
use Rattle.store.specs.declared.Node.{Node}
use Rattle.merging.specs.Plan.{long_by, later_links_all}
use Rattle.linking.specs.Fit.{Later, later_by}
use Rattle.linking.proofs.Growth.{later_more, later_all-more}
use Rattle.linking.proofs.Fitting.{Holds, holds_links, holds_size, starts, made-count, made_as, then-own, then_full}
use Rattle.merging.proofs.NodeTurns.{left_member, no_member}
use Rattle.linking.proofs.Rounds.{Round, round}
use Rattle.linking.proofs.later_all.Invariants.{Inv}
use Rattle.linking.proofs.later_all.Goals as goal

-- a turn, with the member m once it was looked at
record Met (p : ℕ) (nodes : List Node) (x : Handle) (fresh : ℕ) (links₀ : List ℕ) (count : ℕ) (ms : List Handle) (links : List ℕ) (n next i : ℕ) (m : Handle) (long : Bool) : Type 0 where
  inv : Inv p nodes x fresh links₀ count ms links n next i
  front : drop i ms ≡ m ∷ drop (i + 1) ms
  long_is : long ≡ long_by p nodes m

module _ {p : ℕ} {nodes : List Node} {x m : Handle} {fresh count n next i : ℕ} {links₀ links : List ℕ} {ms : List Handle} {long : Bool} (k : Met p nodes x fresh links₀ count ms links n next i m long) where
  now : Round p nodes x next (links_of n links) m (drop (i + 1) ms)
  now = round p nodes x next (links_of n links) m (drop (i + 1) ms) (subst (Later p nodes x next (links_of n links)) k.front k.inv.later)

  free : long ≡ true → next ≤ max_id
  free t = now.free (sym k.long_is ∙ t)

  one : later_links_all p nodes x (cond long (next + 1) next) (later_by long x next (links_of n links) m) (drop (i + 1) ms) ≡ later_links_all p nodes x fresh (links_of count links₀) (drop 1 ms)
  one = rw k.long_is (ap (later_links_all p nodes x next (links_of n links)) (sym k.front) ∙ k.inv.todo)

  grown : length (later_by long x next (links_of n links) m) ≤ length (later_links_all p nodes x fresh (links_of count links₀) (drop 1 ms))
  grown =
      omega (arith, ap length one, later_all-more p nodes x (cond long (next + 1) next) (later_by long x next (links_of n links) m) (drop (i + 1) ms))

  turn : {after : List ℕ} (j f : ℕ) → Holds links (later_by long x next (links_of n links) m) j after → f ≡ cond long (next + 1) next → Inv p nodes x fresh links₀ count ms after j f (i + 1)
  turn j f s q =
      let own = then-own k.inv.holds j s (later_more long x next (links_of n links) m) in
      record {
        size = holds_size own;
        holds = own;
        later = rw (holds_links s, q, k.long_is) now.next;
        todo = rw (holds_links s, q) one;
      }

pub loop-i-init : goal.loop-i-init
loop-i-init c =
    let a = c.args in
    record { size = refl; holds = starts a.count a.links.now (omega arith); later = c.requires.later; todo = refl }

pub later_links-requires : goal.later_links-requires
later_links-requires c =
    let met : Met c.args.p (nodes_of c.args.node_count c.args.nodes.now) c.args.x c.args.fresh c.args.links.now c.args.count (map handle c.args.members.now) c.loop-i.links c.loop-i.n c.loop-i.next c.loop-i.i (handle (get_or c.args.members.now c.loop-i.i 0)) c.is_long-long.result =
    record { inv = c.loop-i.invariant; front = left_member c.args.members.now c.loop-i.i (omega arith); long_is = c.is_long-long.ensures }
    in
    let k = met in
    record { count_in_bounds = omega arith; m_bound = ((now k).high, free k); m_value = ((now k).away, k.inv.later.ends) }

pub returns-in_err-more : goal.returns-in_err-more
returns-in_err-more c =
    let met : Met c.args.p (nodes_of c.args.node_count c.args.nodes.now) c.args.x c.args.fresh c.args.links.now c.args.count (map handle c.args.members.now) c.loop-i.links c.loop-i.n c.loop-i.next c.loop-i.i (handle (get_or c.args.members.now c.loop-i.i 0)) c.is_long-long.result =
    record { inv = c.loop-i.invariant; front = left_member c.args.members.now c.loop-i.i (omega arith); long_is = c.is_long-long.ensures }
    in
    let k = met in
    rw c.from_residual.ensures (then_full k.inv.holds c.later_links.ensures c.in_err-more.was (grown k))

pub fresh_after-next-requires : goal.fresh_after-next-requires
fresh_after-next-requires c t =
    let met : Met c.args.p (nodes_of c.args.node_count c.args.nodes.now) c.args.x c.args.fresh c.args.links.now c.args.count (map handle c.args.members.now) c.loop-i.links c.loop-i.n c.loop-i.next c.loop-i.i (handle (get_or c.args.members.now c.loop-i.i 0)) c.is_long-long.result =
    record { inv = c.loop-i.invariant; front = left_member c.args.members.now c.loop-i.i (omega arith); long_is = c.is_long-long.ensures }
    in
    omega (arith, free (met) t)

pub loop-i-preserved : goal.loop-i-preserved
loop-i-preserved c =
    let met : Met c.args.p (nodes_of c.args.node_count c.args.nodes.now) c.args.x c.args.fresh c.args.links.now c.args.count (map handle c.args.members.now) c.loop-i.links c.loop-i.n c.loop-i.next c.loop-i.i (handle (get_or c.args.members.now c.loop-i.i 0)) c.is_long-long.result =
    record { inv = c.loop-i.invariant; front = left_member c.args.members.now c.loop-i.i (omega arith); long_is = c.is_long-long.ensures }
    in
    turn (met) c.in_ok-more.more c.fresh_after-next.result (made-count c.in_ok-more.more c.later_links.ensures c.in_ok-more.was) c.fresh_after-next.ensures

pub returns : goal.returns
returns c =
    let a = c.args in
    made_as c.loop-i.invariant.holds (sym (ap (later_links_all a.p (nodes_of a.node_count a.nodes.now) a.x c.loop-i.next (links_of c.loop-i.n c.loop-i.links)) (no_member a.members.now c.loop-i.i (omega arith))) ∙ c.loop-i.invariant.todo)
