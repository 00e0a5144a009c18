use Prim.Native.Nat.{ℕ, ◌+◌, ◌*◌, ◌≤◌, ◌<◌}
use mathlib.Core.Path.{◌≡◌, sym, ap, ◌∙◌}
use mathlib.Core.List.{List}
use native.Mathlib.Nat.{add-zero}
use native.Mathlib.Omega.{arith}
use lib.ListN.{length, drop, set, length-set, length-drop}
use lib.Seq.{drop-set-lt, drop-set-add, set-set}
use Rattle.kit.specs.Loops.{map_from}
use Rattle.kit.proofs.Laws.{length-decode, decode-at, decode-set, front, by_decode}
use Rattle.kit.proofs.Steps.{map-stored, map-done}
use Rattle.handle.specs.declared.Handle.{Handle}
use Rattle.handle.specs.declared.Edge.{Edge}
use Rattle.handle.specs.Edge.{written}
use Rattle.store.specs.Graph.{link, ends, link_layout, links_of, unpack_link}
use Rattle.store.specs.declared.Link.{Link}
use Rattle.store.proofs.Fields.{link_at, link_is}
use Rattle.split.specs.Split.{move_ends, move_link}
use Rattle.split.proofs.move_links.Goals as goal

-- a turn's two stores, of the ends e
module _ (n i : ℕ) (l : List ℕ) (e : Edge) (h : i < n) (room : 3 * n ≤ length l) where
  abbrev x : ℕ
  x = e.from.packed

  abbrev y : ℕ
  y = e.to.packed

  abbrev at : List ℕ
  at = drop (3 * i) l

  within : i < length (links_of n l)
  within = rw length-decode h

  unpacked : unpack_link at ≡ link_at l i
  unpacked = sym (decode-at link_layout n i l (link_at l i) h) ∙ link_is n i l h (link_at l i)

  first : links_of n (set l (3 * i) x) ≡ set (links_of n l) i (unpack_link (set at 0 x))
  first = rw add-zero at (decode-set link_layout n i 0 l x h (omega arith))

  left : drop (3 * i) (set l (3 * i) x) ≡ set at 0 x
  left = rw add-zero at (drop-set-add (3 * i) l 0 x)

  both : unpack_link (set (set at 0 x) 1 y) ≡ link e (link_at l i).mark
  both =
      ap (λ (m : List ℕ). unpack_link (set (set m 0 x) 1 y)) (front link_layout at (omega (arith, length-drop (3 * i) l)))
      ∙ ap (λ (r : Link). link e r.mark) unpacked

  stored : links_of n (set (set l (3 * i) x) (3 * i + 1) y) ≡ set (links_of n l) i (link e (link_at l i).mark)
  stored =
      decode-set link_layout n i 1 (set l (3 * i) x) y h (omega arith)
      ∙ rw (first, left, both, set-set)

  turn : (v f : Handle) → e ≡ written (move_ends v f (ends (link_at l i))) → map_from (move_link v f) (i + 1) (links_of n (set (set l (3 * i) x) (3 * i + 1) y)) ≡ map_from (move_link v f) i (links_of n l)
  turn v f is =
      rw stored
      (map-stored (move_link v f) i (links_of n l) (link_at l i) (link e (link_at l i).mark) within
      (rw (link_is n i l h (link_at l i), is)))

  kept : drop (3 * n) (set (set l (3 * i) x) (3 * i + 1) y) ≡ drop (3 * n) l
  kept =
      drop-set-lt (3 * n) (set l (3 * i) x) (3 * i + 1) y (omega arith)
      ∙ drop-set-lt (3 * n) l (3 * i) x (omega arith)

pub bounds-links-i-in-loop-i-3 : goal.bounds-links-i-in-loop-i-3
bounds-links-i-in-loop-i-3 c = simp length-set (omega arith)

pub loop-i-preserved : goal.loop-i-preserved
loop-i-preserved c =
    let a = c.args in
    let i = c.loop-i.i in
    let l : List ℕ = c.loop-i.links in
    let e = c.move_ends-e in
    let h : i < a.count = omega arith in
    let room : 3 * a.count ≤ length l = omega arith in
    record {
      bound = omega arith;
      size = simp length-set c.loop-i.invariant.size;
      todo = turn a.count i l e.result h room a.v a.f e.ensures ∙ c.loop-i.invariant.todo;
      rest = kept a.count i l e.result h room ∙ c.loop-i.invariant.rest;
    }

pub returns : goal.returns
returns c =
    let a = c.args in
    let l : List ℕ = c.loop-i.links in
    by_decode link_layout a.count l _ _ (omega arith)
    (sym (map-done (move_link a.v a.f) c.loop-i.i (links_of a.count l) (length-decode link_layout a.count l ∙ omega arith)) ∙ c.loop-i.invariant.todo)
    c.loop-i.invariant.rest
