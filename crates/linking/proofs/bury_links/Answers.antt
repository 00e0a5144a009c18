use Prim.Native.Nat.{ℕ, ◌+◌, ◌*◌, ◌≤◌, ◌<◌}
use mathlib.Core.Path.{◌≡◌, refl, sym, ap, ◌∙◌}
use mathlib.Core.Bool.{Bool, true, false, cond, ◌||◌}
use mathlib.Core.List.{List}
use native.Mathlib.Omega.{arith}
use lib.Dec.{eqb}
use lib.ListN.{length, drop, set, length-set}
use Rattle.kit.specs.Loops.{map_from}
use Rattle.kit.proofs.Laws.{length-decode, decode-at, decode-store, rest-set, by_decode}
use Rattle.kit.proofs.Steps.{map-stored, map-done}
use Rattle.handle.specs.Handle.{id_of}
use Rattle.store.specs.Graph.{link, ends, link_layout, links_of, unpack_link}
use Rattle.store.specs.declared.Link.{Link}
use Rattle.store.proofs.Fields.{link_at, link_is}
use Rattle.merging.specs.Plan.{bury}
use Rattle.linking.proofs.bury_links.Goals as goal

buried : (b : Bool) (r : Link) → link (ends r) (cond b 1 r.mark) ≡ cond b (link (ends r) 1) r
buried true r = refl
buried false r = refl

-- a turn's store
module _ (n i id k : ℕ) (l : List ℕ) (h : i < n) (room : 3 * n ≤ length l) where
  abbrev on : Link → Bool
  on r = eqb (id_of r.from) id || eqb (id_of r.to) id

  unpacked : unpack_link (drop (3 * i) l) ≡ link_at l i
  unpacked = sym (decode-at link_layout n i l (link_at l i) h) ∙ link_is n i l h (link_at l i)

  turn : k ≡ cond (on (link_at l i)) 1 (link_at l i).mark → map_from (bury id) (i + 1) (links_of n (set l (3 * i + 2) k)) ≡ map_from (bury id) i (links_of n l)
  turn e =
      ap (map_from (bury id) (i + 1)) (decode-store link_layout n i 2 l k (λ r. link (ends r) k) (λ r t. refl) h (omega arith) room)
      ∙ map-stored (bury id) i (links_of n l) (link_at l i) (link (ends (unpack_link (drop (3 * i) l))) k) (rw length-decode h)
      (ap (λ (r : Link). link (ends r) k) unpacked ∙ ap (link (ends (link_at l i))) e ∙ buried (on (link_at l i)) (link_at l i) ∙ ap (bury id) (sym (link_is n i l h (link_at l i))))

pub loop-i-preserved : goal.loop-i-preserved
loop-i-preserved c =
    let a = c.args in
    let i = c.loop-i.i in
    let l : List ℕ = c.loop-i.links in
    let h : i < a.count = omega arith in
    let room : 3 * a.count ≤ length l = omega arith in
    record {
      bound = omega arith;
      size = simp length-set c.loop-i.invariant.size;
      todo = turn a.count i a.id c.bury_mark.result l h room (c.bury_mark.ensures ∙ ap (λ (r : Link). cond (eqb (id_of r.from) a.id || eqb (id_of r.to) a.id) 1 r.mark) c.at.ensures) ∙ c.loop-i.invariant.todo;
      rest = rest-set link_layout a.count i 2 l c.bury_mark.result h (omega arith) ∙ c.loop-i.invariant.rest;
    }

pub returns : goal.returns
returns c =
    let a = c.args in
    let l : List ℕ = c.loop-i.links in
    by_decode link_layout a.count l _ _ (omega arith)
    (sym (map-done (bury a.id) c.loop-i.i (links_of a.count l) (length-decode link_layout a.count l ∙ omega arith)) ∙ c.loop-i.invariant.todo)
    c.loop-i.invariant.rest
