use Prim.Native.Nat.{ℕ, ◌≤◌, ◌<◌}
use mathlib.Core.Path.{◌≡◌, refl, sym, ap, ◌∙◌}
use mathlib.Core.Bool.{false}
use mathlib.Core.List.{List, map}
use native.Mathlib.Omega.{arith}
use lib.Dec.{eqb}
use lib.ListN.{length}
use Rattle.handle.specs.declared.Handle.{Handle}
use Rattle.handle.specs.Handle.{id_of}
use Rattle.handle.specs.Edge.{edge}
use Rattle.store.specs.Graph.{handle, links_of}
use Rattle.store.specs.declared.Link.{Link}
use Rattle.sides.specs.Sides.{next_above}
use Rattle.sides.proofs.Rising.{rest_above}
use Rattle.merging.specs.Merging.{add_link, add_links, read_as}
use Rattle.merging.specs.Plan.{right_in}
use Rattle.linking.proofs.Growth.{add_more, adds_more}
use Rattle.linking.proofs.Fitting.{Holds, holds_links, starts, made-count, made_as, holds_size, then-own, then_full}
use Rattle.linking.proofs.Passing.{to_pass, right-all, pass-one, pass_less, pass_end}
use Rattle.linking.proofs.pass_on.Invariants.{Inv}
use Rattle.linking.proofs.pass_on.Goals as goal

-- a turn, which found y next and reads it as `to`
record Met (links₀ : List ℕ) (count : ℕ) (m x : Handle) (links : List ℕ) (n above y : ℕ) (to : Handle) : Type 0 where
  inv : Inv links₀ count m x links n above
  away : eqb (id_of x) (id_of m) ≡ false
  next_is : y ≡ next_above above (right_in (links_of n links) m)
  some : 0 < y
  to_is : to ≡ read_as m x (handle y)

module _ {links₀ links : List ℕ} {count n above y : ℕ} {m x to : Handle} (k : Met links₀ count m x links n above y to) where
  abbrev rs : List Link
  rs = links_of n links

  one : to_pass m x y (add_link (edge x to) rs) ≡ add_links x (map (read_as m x) (right_in (links_of count links₀) m)) (links_of count links₀)
  one = rw k.to_is (sym (pass-one m x rs above y k.next_is k.away k.some) ∙ k.inv.todo)

  grown : length (add_link (edge x to) rs) ≤ length (add_links x (map (read_as m x) (right_in (links_of count links₀) m)) (links_of count links₀))
  grown =
      omega (arith, adds_more x (map (read_as m x) (rest_above y (right_in (add_link (edge x to) rs) m))) (add_link (edge x to) rs), ap length one)

  module _ {after : List ℕ} (i : ℕ) (s : Holds links (add_link (edge x to) rs) i after) where
    turn : Inv links₀ count m x after i y
    turn =
        let own = then-own k.inv.holds i s (add_more (edge x to) rs) in
        record { size = holds_size own; holds = own; todo = ap (to_pass m x y) (holds_links s) ∙ one }

    less : length (rest_above y (right_in (links_of i after) m)) < length (rest_above above (right_in rs m))
    less = rw (holds_links s, k.to_is) (pass_less m x rs above y k.next_is k.away k.some)

pub loop-y-init : goal.loop-y-init
loop-y-init c =
    let a = c.args in
    let rs = links_of a.count a.links.now in
    record {
      size = refl;
      holds = starts a.count a.links.now (omega arith);
      todo = ap (λ (hs : List Handle). add_links a.x (map (read_as a.m a.x) hs) rs) (right-all a.m rs c.requires.m_value.1);
    }

pub returns : goal.returns
returns c =
    let a = c.args in
    made_as c.loop-y.invariant.holds (sym (pass_end a.m a.x (links_of c.loop-y.n c.loop-y.links) c.loop-y.above c.in_default.ensures.value) ∙ c.loop-y.invariant.todo)

pub returns-in_err-more : goal.returns-in_err-more
returns-in_err-more c =
    let met : Met c.args.links.now c.args.count c.args.m c.args.x c.loop-y.links c.loop-y.n c.loop-y.above c.in-Some.y.packed c.read_as-to.result =
    record { inv = c.loop-y.invariant; away = c.requires.m_value.0; next_is = c.in-Some.ensures.value; some = c.in-Some.ensures.some; to_is = c.read_as-to.ensures }
    in
    let k = met in
    rw c.from_residual.ensures (then_full k.inv.holds c.add_link.ensures c.in_err-more.was (grown k))

pub loop-y-smaller : goal.loop-y-smaller
loop-y-smaller c =
    let met : Met c.args.links.now c.args.count c.args.m c.args.x c.loop-y.links c.loop-y.n c.loop-y.above c.in-Some.y.packed c.read_as-to.result =
    record { inv = c.loop-y.invariant; away = c.requires.m_value.0; next_is = c.in-Some.ensures.value; some = c.in-Some.ensures.some; to_is = c.read_as-to.ensures }
    in
    less (met) c.in_ok-more.more (made-count c.in_ok-more.more c.add_link.ensures c.in_ok-more.was)

pub loop-y-preserved : goal.loop-y-preserved
loop-y-preserved c =
    let met : Met c.args.links.now c.args.count c.args.m c.args.x c.loop-y.links c.loop-y.n c.loop-y.above c.in-Some.y.packed c.read_as-to.result =
    record { inv = c.loop-y.invariant; away = c.requires.m_value.0; next_is = c.in-Some.ensures.value; some = c.in-Some.ensures.some; to_is = c.read_as-to.ensures }
    in
    turn (met) c.in_ok-more.more (made-count c.in_ok-more.more c.add_link.ensures c.in_ok-more.was)
