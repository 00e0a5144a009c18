use Prim.Native.Nat.{ℕ, ◌≤◌}
use mathlib.Core.Path.{◌≡◌}
use mathlib.Core.Bool.{true}
use mathlib.Core.List.{List}
use native.Mathlib.Omega.{arith}
use borrow.Author.Tests.{not-true, not-false}
use lib.ListN.{length}
use Rattle.handle.specs.declared.Handle.{Handle}
use Rattle.handle.specs.Handle.{id_of}
use Rattle.handle.specs.Edge.{edge}
use Rattle.store.specs.Graph.{links_of}
use Rattle.store.specs.declared.Link.{Link}
use Rattle.split.specs.Split.{split_links}
use Rattle.std.specs.Prelude.{Option}
use Rattle.merging.specs.Merging.{add_link}
use Rattle.merging.specs.Plan.{suffix_by}
use Rattle.linking.specs.Fit.{Makes, given_by}
use Rattle.linking.proofs.Growth.{add_more}
use Rattle.linking.proofs.Fitting.{Holds, holds_links, holds_size, starts, made-count, then_makes, then_full}
use Rattle.linking.proofs.give_links.Goals as goal

-- a long member: the links are split, and then x is linked to its suffix
module _ (x m : Handle) (fresh : ℕ) (rs : List Link) where
  grown : length (split_links (id_of m) fresh rs) ≤ length (given_by true x fresh rs m)
  grown = add_more (edge x (suffix_by fresh m)) (split_links (id_of m) fresh rs)

  given : {l mid k : List ℕ} {r : Option ℕ} (n : ℕ) (to : Handle) → Holds l (split_links (id_of m) fresh rs) n mid → to ≡ suffix_by fresh m → Makes mid (add_link (edge x to) (links_of n mid)) r k → Makes l (given_by true x fresh rs m) r k
  given n to h q s = then_makes h grown (rw (holds_links h, q) at s)

pub returns-then-not-long : goal.returns-then-not-long
returns-then-not-long c = rw (not-true c.args.long c.if-not-long.true-raw) c.pass_on.ensures

pub split_off-requires : goal.split_off-requires
split_off-requires c = record { count_in_bounds = omega arith; id_le_max_id = (omega (arith, c.id.ensures), c.requires.m_bound.1 (not-false c.args.long c.if-not-long.false-raw)) }

pub returns-in_err-n : goal.returns-in_err-n
returns-in_err-n c =
    let a = c.args in
    rw (not-false a.long c.if-not-long.false-raw, c.from_residual.ensures)
    (then_full (starts a.count a.links.now (omega arith)) (rw c.id.ensures at c.split_off.ensures) c.in_err-n.was (grown a.x a.m a.fresh (links_of a.count a.links.now)))

pub suffix_of-requires : goal.suffix_of-requires
suffix_of-requires c = c.requires.m_bound.1 (not-false c.args.long c.if-not-long.false-raw)

pub add_link-requires : goal.add_link-requires
add_link-requires c =
    let h = made-count c.in_ok-n.n c.split_off.ensures c.in_ok-n.was in
    omega (arith, h.room, holds_size h)

pub returns : goal.returns
returns c =
    let a = c.args in
    rw (not-false a.long c.if-not-long.false-raw)
    (given a.x a.m a.fresh (links_of a.count a.links.now) c.in_ok-n.n c.suffix_of.result (made-count c.in_ok-n.n (rw c.id.ensures at c.split_off.ensures) c.in_ok-n.was) c.suffix_of.ensures c.add_link.ensures)
