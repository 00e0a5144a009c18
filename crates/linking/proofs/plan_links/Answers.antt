use Prim.Native.Nat.{ℕ, ◌+◌, ◌≤◌}
use mathlib.Core.Path.{◌≡◌, refl, sym, ap, ◌∙◌, subst}
use mathlib.Core.Bool.{Bool, true, cond}
use mathlib.Core.List.{List, ◌∷◌, map}
use native.Mathlib.Omega.{arith}
use lib.ListN.{length, drop, get_or, length-map}
use Rattle.handle.specs.declared.Handle.{Handle}
use Rattle.handle.specs.Handle.{max_id, id_of}
use Rattle.store.specs.Graph.{handle, nodes_of, links_of}
use Rattle.store.specs.declared.Node.{Node}
use Rattle.store.specs.declared.Link.{Link}
use Rattle.store.specs.Views.{largest}
use Rattle.split.specs.Split.{split_links}
use Rattle.std.specs.Prelude.{Option}
use Rattle.merging.specs.Plan.{long_by, later_links_all, planned, prefix_if}
use Rattle.linking.specs.Fit.{Makes, Later, Plans}
use Rattle.linking.proofs.Growth.{later_all-more}
use Rattle.linking.proofs.Fitting.{Holds, holds_links, holds_size, starts, made-count, then_makes, then_full}
use Rattle.merging.proofs.NodeTurns.{left_member}
use Rattle.linking.proofs.Rounds.{First, first}
use Rattle.linking.proofs.plan_links.Goals as goal

-- what is known of the first member once it was looked at
record Known (p : ℕ) (nodes : List Node) (rs : List Link) (members : List ℕ) (fresh : ℕ) (long : Bool) : Type 0 where
  plans : Plans p nodes rs (map handle members)
  fresh_is : fresh ≡ largest nodes + 1
  long_is : long ≡ long_by p nodes (handle (get_or members 0 0))

module _ {p : ℕ} {nodes : List Node} {rs : List Link} {members : List ℕ} {fresh : ℕ} {long : Bool} (k : Known p nodes rs members fresh long) where
  abbrev m : Handle
  m = handle (get_or members 0 0)

  abbrev ms : List Handle
  ms = drop 1 (map handle members)

  abbrev alone : List Link
  alone = cond long (split_links (id_of m) fresh rs) rs

  front : map handle members ≡ m ∷ ms
  front = left_member members 0 (omega (arith, k.plans.some, length-map members handle))

  start : First p nodes rs m ms
  start = first p nodes rs m ms (subst (Plans p nodes rs) front k.plans)

  free : long ≡ true → fresh ≤ max_id
  free t = omega (arith, start.free (sym k.long_is ∙ t), k.fresh_is)

  module _ (x : Handle) (next : ℕ) (q : x ≡ prefix_if long fresh m) (e : next ≡ cond long (fresh + 1) fresh) where
    later : Later p nodes x next alone ms
    later = rw (q, e, k.long_is, k.fresh_is) start.next

    whole : later_links_all p nodes x next alone ms ≡ planned p nodes rs (map handle members)
    whole = rw (q, e, k.long_is, k.fresh_is) (ap (planned p nodes rs) (sym front))

    planned_so : {l mid out : List ℕ} {r : Option ℕ} (n : ℕ) → Holds l alone n mid → Makes mid (later_links_all p nodes x next (links_of n mid) ms) r out → Makes l (planned p nodes rs (map handle members)) r out
    planned_so n h s = rw whole at (then_makes h (later_all-more p nodes x next alone ms) (rw (holds_links h) at s))

  grown : length alone ≤ length (planned p nodes rs (map handle members))
  grown =
      let x : Handle = prefix_if long fresh m in
      let next : ℕ = cond long (fresh + 1) fresh in
      omega (arith, ap length (whole x next refl refl), later_all-more p nodes x next alone ms)

pub bounds-members-0 : goal.bounds-members-0
bounds-members-0 c = omega (arith, c.requires.plans.some, length-map c.args.members.now handle)

pub alone_links-requires : goal.alone_links-requires
alone_links-requires c =
    let known : Known c.args.p (nodes_of c.args.node_count c.args.nodes.now) (links_of c.args.count c.args.links.now) c.args.members.now (c.largest_id-fresh.result + 1) c.is_long-long.result =
    record {
      plans = c.requires.plans;
      fresh_is = ap (λ (n : ℕ). n + 1) c.largest_id-fresh.ensures;
      long_is = c.is_long-long.ensures;
    }
    in
    record { count_in_bounds = omega arith; m_bound = ((start (known)).high, free (known)) }

pub returns-in_err-n : goal.returns-in_err-n
returns-in_err-n c =
    let known : Known c.args.p (nodes_of c.args.node_count c.args.nodes.now) (links_of c.args.count c.args.links.now) c.args.members.now (c.largest_id-fresh.result + 1) c.is_long-long.result =
    record {
      plans = c.requires.plans;
      fresh_is = ap (λ (n : ℕ). n + 1) c.largest_id-fresh.ensures;
      long_is = c.is_long-long.ensures;
    }
    in
    let a = c.args in
    rw c.from_residual.ensures (then_full (starts a.count a.links.now (omega arith)) c.alone_links.ensures c.in_err-n.was (grown (known)))

pub prefix_of-x-requires : goal.prefix_of-x-requires
prefix_of-x-requires c =
    let known : Known c.args.p (nodes_of c.args.node_count c.args.nodes.now) (links_of c.args.count c.args.links.now) c.args.members.now (c.largest_id-fresh.result + 1) c.is_long-long.result =
    record {
      plans = c.requires.plans;
      fresh_is = ap (λ (n : ℕ). n + 1) c.largest_id-fresh.ensures;
      long_is = c.is_long-long.ensures;
    }
    in
    free (known)

pub fresh_after-next-requires : goal.fresh_after-next-requires
fresh_after-next-requires c t =
    let known : Known c.args.p (nodes_of c.args.node_count c.args.nodes.now) (links_of c.args.count c.args.links.now) c.args.members.now (c.largest_id-fresh.result + 1) c.is_long-long.result =
    record {
      plans = c.requires.plans;
      fresh_is = ap (λ (n : ℕ). n + 1) c.largest_id-fresh.ensures;
      long_is = c.is_long-long.ensures;
    }
    in
    omega (arith, free (known) t)

pub later_all-requires : goal.later_all-requires
later_all-requires c =
    let known : Known c.args.p (nodes_of c.args.node_count c.args.nodes.now) (links_of c.args.count c.args.links.now) c.args.members.now (c.largest_id-fresh.result + 1) c.is_long-long.result =
    record {
      plans = c.requires.plans;
      fresh_is = ap (λ (n : ℕ). n + 1) c.largest_id-fresh.ensures;
      long_is = c.is_long-long.ensures;
    }
    in
    let h = made-count c.in_ok-n.n c.alone_links.ensures c.in_ok-n.was in
    record { node_count_in_bounds = (c.requires.node_count_in_bounds.0, omega (arith, h.room, holds_size h)); later = rw (holds_links h) (later (known) c.prefix_of-x.result c.fresh_after-next.result c.prefix_of-x.ensures c.fresh_after-next.ensures) }

pub returns : goal.returns
returns c =
    let known : Known c.args.p (nodes_of c.args.node_count c.args.nodes.now) (links_of c.args.count c.args.links.now) c.args.members.now (c.largest_id-fresh.result + 1) c.is_long-long.result =
    record {
      plans = c.requires.plans;
      fresh_is = ap (λ (n : ℕ). n + 1) c.largest_id-fresh.ensures;
      long_is = c.is_long-long.ensures;
    }
    in
    planned_so (known) c.prefix_of-x.result c.fresh_after-next.result c.prefix_of-x.ensures c.fresh_after-next.ensures c.in_ok-n.n (made-count c.in_ok-n.n c.alone_links.ensures c.in_ok-n.was) c.later_all.ensures
