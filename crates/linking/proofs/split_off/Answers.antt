use Prim.Native.Nat.{ℕ, ◌+◌, ◌*◌, ◌≤◌, ◌<◌}
use mathlib.Core.Path.{sym, ap, ◌∙◌}
use mathlib.Core.List.{List}
use native.Mathlib.Omega.{arith}
use borrow.Author.Tests.{leb-true, leb-false, not-true, not-false}
use lib.ListN.{length}
use Rattle.kit.proofs.Laws.{length-decode}
use Rattle.store.specs.Graph.{link_layout, links_of}
use Rattle.split.specs.Split.{split_links}
use Rattle.linking.proofs.Growth.{split-more}
use Rattle.linking.proofs.Fitting.{full, made}
use Rattle.linking.proofs.split_off.Goals as goal

pub returns-then-not-one_fits : goal.returns-then-not-one_fits
returns-then-not-one_fits c =
    let lacks : length c.args.links.now < 3 * (c.args.count + 1) =
    leb-false _ _ (sym c.one_fits.ensures ∙ not-true _ c.if-not-one_fits.true-raw)
    in
    let a = c.args in
    let rs = links_of a.count a.links.now in
    full (split_links a.id a.fresh rs) (omega (arith, lacks, split-more a.id a.fresh rs, length-decode link_layout a.count a.links.now))

pub split_links-requires : goal.split_links-requires
split_links-requires c =
    let fits : 3 * (c.args.count + 1) ≤ length c.args.links.now =
    leb-true _ _ (sym c.one_fits.ensures ∙ not-false _ c.if-not-one_fits.false-raw)
    in
    record { count_in_bounds = fits; id_le_max_id = c.requires.id_le_max_id }

pub overflow_add-result : goal.overflow_add-result
overflow_add-result c =
    let fits : 3 * (c.args.count + 1) ≤ length c.args.links.now =
    leb-true _ _ (sym c.one_fits.ensures ∙ not-false _ c.if-not-one_fits.false-raw)
    in
    omega (arith, fits)

pub returns : goal.returns
returns c =
    let fits : 3 * (c.args.count + 1) ≤ length c.args.links.now =
    leb-true _ _ (sym c.one_fits.ensures ∙ not-false _ c.if-not-one_fits.false-raw)
    in
    let a = c.args in
    let l : List ℕ = a.links.now in
    made (record {
      many = split-more a.id a.fresh (links_of a.count l) ∙ ap (λ (n : ℕ). n + 1) (length-decode link_layout a.count l);
      room = fits;
      is = c.split_links.ensures;
    })
