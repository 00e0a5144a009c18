use Prim.Native.Nat.{◌+◌}
use mathlib.Core.Bool.{false}
use mathlib.Core.Path.{◌≡◌, sym, ap, ◌∙◌}
use native.Mathlib.Omega.{arith}
use lib.ListN.{drop}
use Rattle.store.proofs.Fields.{link_at, left-link}
use Rattle.store.specs.Views.{joins_live, live_link}
use Rattle.store.specs.Graph.{link_layout, nodes_of, links_of, ends}
use Rattle.handle.specs.Edge.{edge, same_link}
use Rattle.kit.proofs.Bools.{and_both}
use Rattle.kit.proofs.Steps.{any_hit, any_miss, any_end}
use Rattle.kit.proofs.Laws.{left_none}
use Rattle.kit.specs.Loops.{any}
use Rattle.store.proofs.live_linked.Goals as goal
use Rattle.store.proofs.live_linked.Goals.{else-same_link-via-then-same_link+else-live_link, else-same_link-via-else-same_link}

pub returns-then-live_link : goal.returns-then-live_link
returns-then-live_link c =
    let a = c.args in
    let i = c.loop-i.i in
    let ns = nodes_of a.c.nodes a.nodes.now in
    let p = joins_live ns (edge a.u a.v) in
    let more = left-link a.c.links i a.links.now (omega arith) in
    let one : c.same_link.result ≡ same_link (edge a.u a.v) (ends (link_at a.links.now i)) =
    c.same_link.ensures ∙ ap (same_link (edge a.u a.v)) (c.ends.ensures ∙ ap ends c.unmarked_at.ensures)
    in
    let t = and_both _ _ (sym one ∙ c.if-same_link.true) (ap (live_link ns) (sym c.at.ensures) ∙ sym c.live_link.ensures ∙ c.if-live_link.true) in
    sym (any_hit p more t) ∙ c.loop-i.invariant

pub loop-i-preserved : goal.loop-i-preserved
loop-i-preserved c =
    let a = c.args in
    let i = c.loop-i.i in
    let ns = nodes_of a.c.nodes a.nodes.now in
    let p = joins_live ns (edge a.u a.v) in
    let more = left-link a.c.links i a.links.now (omega arith) in
    let one : c.same_link.result ≡ same_link (edge a.u a.v) (ends (link_at a.links.now i)) =
    c.same_link.ensures ∙ ap (same_link (edge a.u a.v)) (c.ends.ensures ∙ ap ends c.unmarked_at.ensures)
    in
    let pass : p (link_at a.links.now i) ≡ false → any p (drop (i + 1) (links_of a.c.links a.links.now)) ≡ any p (links_of a.c.links a.links.now) =
    λ t. sym (any_miss p more t) ∙ c.loop-i.invariant
    in elim c.else-same_link.branch [
      | else-same_link-via-then-same_link+else-live_link w ↦ pass (rw (sym one ∙ w.if-same_link.true) (ap (live_link ns) (sym w.at.ensures) ∙ sym w.live_link.ensures ∙ w.if-live_link.false))
      | else-same_link-via-else-same_link w ↦ pass (rw (sym one ∙ w.if-same_link.false))
    ]

pub returns : goal.returns
returns c =
    let a = c.args in
    let i = c.loop-i.i in
    sym (any_end (joins_live (nodes_of a.c.nodes a.nodes.now) (edge a.u a.v)) (left_none link_layout a.c.links i a.links.now (omega arith))) ∙ c.loop-i.invariant
