use Prim.Native.Nat.{ℕ, ◌+◌, ◌*◌, ◌≤◌, ◌<◌}
use mathlib.Core.Path.{sym, ap, ◌∙◌}
use mathlib.Core.List.{[], List, ◌∷◌, ◌++◌}
use native.Mathlib.Omega.{arith}
use borrow.Author.Tests.{leb-true, leb-false, not-true, not-false}
use lib.ListN.{length, drop}
use Rattle.kit.specs.Layout.{encode}
use Rattle.kit.proofs.Laws.{length-decode}
use Rattle.handle.specs.declared.Edge.{Edge}
use Rattle.handle.specs.Edge.{edge, written}
use Rattle.store.specs.Graph.{link, link_layout, links_of}
use Rattle.store.specs.declared.Link.{Link}
use Rattle.linking.proofs.Growth.{one_more}
use Rattle.linking.proofs.Fitting.{full, made}
use Rattle.linking.proofs.append_link.Goals as goal

pub returns-then-not-one_fits : goal.returns-then-not-one_fits
returns-then-not-one_fits c =
    let lacks : length c.args.links.now < 3 * (c.args.count + 1) =
    leb-false _ _ (sym c.one_fits.ensures ∙ not-true _ c.if-not-one_fits.true-raw)
    in
    let a = c.args in
    let rs = links_of a.count a.links.now in
    let r : Link = link (written (edge a.x a.y)) 0 in
    full (rs ++ (r ∷ [])) (omega (arith, lacks, one_more rs r, length-decode link_layout a.count a.links.now))

pub push_link-requires : goal.push_link-requires
push_link-requires c =
    let fits : 3 * (c.args.count + 1) ≤ length c.args.links.now =
    leb-true _ _ (sym c.one_fits.ensures ∙ not-false _ c.if-not-one_fits.false-raw)
    in
    fits

pub returns : goal.returns
returns c =
    let fits : 3 * (c.args.count + 1) ≤ length c.args.links.now =
    leb-true _ _ (sym c.one_fits.ensures ∙ not-false _ c.if-not-one_fits.false-raw)
    in
    let a = c.args in
    let l : List ℕ = a.links.now in
    let rs = links_of a.count l in
    made (record {
      many = one_more rs (link (written (edge a.x a.y)) 0) ∙ ap (λ (n : ℕ). n + 1) (length-decode link_layout a.count l);
      room = fits;
      is = c.push_link.ensures ∙ ap (λ (e : Edge). encode link_layout (rs ++ (link e 0 ∷ [])) ++ drop (3 * (a.count + 1)) l) c.written-e.ensures;
    })
