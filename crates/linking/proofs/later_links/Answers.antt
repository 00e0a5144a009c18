use Prim.Native.Nat.{ℕ, ◌*◌}
use mathlib.Core.Path.{◌≡◌, ap, ◌∙◌}
use mathlib.Core.List.{List, ◌++◌, map}
use native.Mathlib.Omega.{arith}
use lib.ListN.{drop}
use Rattle.kit.specs.Layout.{encode}
use Rattle.handle.specs.Handle.{id_of}
use Rattle.store.specs.Graph.{link_layout, links_of}
use Rattle.store.specs.declared.Link.{Link}
use Rattle.merging.specs.Plan.{bury, prefix_if}
use Rattle.linking.specs.Fit.{given_by}
use Rattle.linking.proofs.Growth.{bury-same}
use Rattle.linking.proofs.Fitting.{Holds, holds_links, holds_size, holds_rest, starts, made, made-count, then_full}
use Rattle.linking.proofs.later_links.Goals as goal

-- the last step marks links, and makes none
buries : {l mid k : List ℕ} {rs : List Link} {n : ℕ} (i id : ℕ) → Holds l rs n mid → i ≡ id → k ≡ encode link_layout (map (bury i) (links_of n mid)) ++ drop (3 * n) mid → Holds l (map (bury id) rs) n k
buries {rs = rs} {n = n} i id h q e =
    record { many = bury-same id rs ∙ h.many; room = h.room; is = e ∙ rw (holds_links h, q, holds_rest h n (omega arith)) }

pub returns-in_err-n : goal.returns-in_err-n
returns-in_err-n c =
    let a = c.args in
    let rs = given_by a.long a.x a.fresh (links_of a.count a.links.now) a.m in
    rw c.from_residual.ensures
    (then_full (starts a.count a.links.now (omega arith)) c.give_links.ensures c.in_err-n.was
    (omega (arith, bury-same (id_of (prefix_if a.long a.fresh a.m)) rs)))

pub prefix_of-prefix-requires : goal.prefix_of-prefix-requires
prefix_of-prefix-requires c = c.requires.m_bound.1

pub bury_links-requires : goal.bury_links-requires
bury_links-requires c =
    let h = made-count c.in_ok-n.n c.give_links.ensures c.in_ok-n.was in
    omega (arith, h.room, holds_size h)

pub returns : goal.returns
returns c =
    made (buries c.id.result (id_of (prefix_if c.args.long c.args.fresh c.args.m)) (made-count c.in_ok-n.n c.give_links.ensures c.in_ok-n.was) (c.id.ensures ∙ ap id_of c.prefix_of-prefix.ensures) c.bury_links.ensures)
