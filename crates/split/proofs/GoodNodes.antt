-- A split leaves the nodes well formed.
use Prim.Native.Nat.{ℕ, ◌+◌, ◌≤◌, ◌<◌}
use mathlib.Core.Path.{◌≡◌, refl, sym, ap, ◌∙◌, subst}
use mathlib.Core.Bool.{Bool, true, false, ◌&&◌}
use mathlib.Core.List.{List, [], ◌∷◌, map, Memᴰ}
use native.Mathlib.Omega.{arith}
use borrow.Author.Tests.{le-leb, leb-true, eqb-true}
use lib.Dec.{leb}
use lib.ListN.{length}
use Rattle.kit.specs.Loops.{all}
use Rattle.kit.proofs.Bools.{and_both, and_true_l, and_true_r}
use Rattle.kit.proofs.Meaning.{all_append, all_map, all_mem, all_of}
use Rattle.letters.specs.Letters.{is_letter}
use Rattle.letters.specs.Sequences.{all_letters}
use Rattle.handle.specs.Handle.{is_id, max_id}
use Rattle.store.specs.Graph.{node}
use Rattle.store.specs.declared.Node.{Node}
use Rattle.store.specs.Views.{named, stored, node_named, largest, span}
use Rattle.formed.specs.WellFormed.{is_mark, good_node, ids_once}
use Rattle.split.specs.Split.{cut, rest, split_nodes}
use Rattle.split.proofs.Nodes.{names, only, cut-v, span-split}

-- the parts of the test
record Good (letters : List ℕ) (r : Node) : Type 0 where
  range : is_id r.id ≡ true
  mark : is_mark r.mark ≡ true
  some : 1 ≤ r.len
  inside : r.start + r.len ≤ length letters
  bytes : all_letters (span letters r) ≡ true

module _ (letters : List ℕ) (r : Node) where
  abbrev fits : Bool
  fits = leb (r.start + r.len) (length letters)

  abbrev two : Bool
  two = is_id r.id && is_mark r.mark

  abbrev three : Bool
  three = two && leb 1 r.len

  good : good_node letters r ≡ true → Good letters r
  good t =
      let a = and_true_l (three && fits) (all_letters (span letters r)) t in
      let b = and_true_l three fits a in
      let c = and_true_l two (leb 1 r.len) b in
      record {
        range = and_true_l (is_id r.id) (is_mark r.mark) c;
        mark = and_true_r (is_id r.id) (is_mark r.mark) c;
        some = leb-true _ _ (and_true_r two (leb 1 r.len) b);
        inside = leb-true _ _ (and_true_r three fits a);
        bytes = and_true_r (three && fits) (all_letters (span letters r)) t;
      }

  passes : Good letters r → good_node letters r ≡ true
  passes g =
      and_both _ _ (and_both _ _ (and_both _ _ (and_both _ _ g.range g.mark) (le-leb 1 r.len g.some)) (le-leb _ _ g.inside)) g.bytes

-- the two parts of a node
module _ (letters : List ℕ) (fresh k : ℕ) (r : Node) (g : Good letters r) (low : 0 < k) (high : k < r.len) where
  abbrev kept : Node
  kept = node r.id r.start k r.mark

  both : (all_letters (span letters kept) && all_letters (span letters (rest fresh k r))) ≡ true
  both =
      sym (all_append is_letter (span letters kept) (span letters (rest fresh k r)))
      ∙ ap all_letters (sym (span-split letters fresh k r (omega arith))) ∙ g.bytes

  good_kept : good_node letters kept ≡ true
  good_kept =
      passes letters kept (record {
        range = g.range;
        mark = g.mark;
        some = low;
        inside = omega (arith, g.inside);
        bytes = and_true_l (all_letters (span letters kept)) (all_letters (span letters (rest fresh k r))) both;
      })

  good_rest : is_id fresh ≡ true → good_node letters (rest fresh k r) ≡ true
  good_rest h =
      passes letters (rest fresh k r) (record {
        range = h;
        mark = g.mark;
        some = omega arith;
        inside = omega (arith, g.inside);
        bytes = and_true_r (all_letters (span letters kept)) (all_letters (span letters (rest fresh k r))) both;
      })

module _ (letters : List ℕ) (id k : ℕ) (rs : List Node) (once : ids_once rs ≡ true) (is : stored id rs ≡ true) (t : all (good_node letters) rs ≡ true) (low : 0 < k) (high : k < (node_named id rs).len) where
  v_good : Good letters (node_named id rs)
  v_good = good letters (node_named id rs) (all_mem (good_node letters) t (names id rs is).mem)

  good_cut : (r : Node) → Memᴰ r rs → (b : Bool) → named id r ≡ b → good_node letters (cut id k r) ≡ true
  good_cut r m true e =
      let q : node_named id rs ≡ r = ap (λ (n : ℕ). node_named n rs) (sym (eqb-true _ _ e)) ∙ only rs once m in
      subst (λ (x : Node). good_node letters (cut id k x) ≡ true) q
      (ap (good_node letters) (cut-v id k rs once is) ∙ good_kept letters 0 k (node_named id rs) v_good low high)
  good_cut r m false e = rw e (all_mem (good_node letters) t m)

  pub nodes_good : largest rs + 1 ≤ max_id → all (good_node letters) (split_nodes id k rs) ≡ true
  nodes_good fits =
      all_append (good_node letters) (map (cut id k) rs) (rest (largest rs + 1) k (node_named id rs) ∷ [])
      ∙ and_both _ _
      (all_map (good_node letters) (cut id k) rs ∙ all_of _ rs (λ r m. good_cut r m (named id r) refl))
      (and_both _ true (good_rest letters (largest rs + 1) k (node_named id rs) v_good low high (and_both _ _ (le-leb 1 (largest rs + 1) (omega arith)) (le-leb (largest rs + 1) max_id fits))) refl)
