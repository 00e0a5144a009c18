-- The key: the first letter as the code reads it, and that keys are alike as numbers are.
use Prim.Native.Nat.{ℕ, zero, suc, ◌+◌, ◌*◌, ◌≤◌, ◌<◌}
use mathlib.Core.Path.{◌≡◌, refl, sym, ap, ◌∙◌}
use mathlib.Core.Bool.{Bool, true, false, cond}
use mathlib.Core.List.{List, [], ◌∷◌}
use native.Mathlib.Omega.{arith}
use borrow.Author.Tests.{eq-eqb, eqb-true}
use lib.Dec.{eqb}
use lib.ListN.{length, take, drop, get_or, length-take}
use lib.Seq.{take-take}
use Rattle.kit.specs.Loops.{all}
use Rattle.std.specs.Prelude.{Some, None}
use Rattle.kit.proofs.Bools.{and_true_l, and_true_r, and_both}
use Rattle.kit.proofs.Laws.{length-decode}
use Rattle.kit.proofs.Meaning.{all-at}
use Rattle.letters.specs.Letters.{complement_of, upper_of}
use Rattle.letters.specs.Sequences.{letter_at}
use Rattle.handle.specs.declared.Handle.{Handle}
use Rattle.handle.specs.Handle.{id_of, dir_of}
use Rattle.store.specs.declared.Counts.{Counts}
use Rattle.store.specs.Graph.{Graph, node_layout, nodes_of, graph_of}
use Rattle.store.specs.declared.Node.{Node}
use Rattle.store.specs.Views.{find_node, letter_of, span}
use Rattle.store.proofs.Fields.{node_at, node_is}
use Rattle.store.proofs.Lookups.{node-found, no_node}
use Rattle.formed.specs.WellFormed.{good_node}
use Rattle.formed.proofs.Says.{node_says}
use Rattle.sides.specs.Sides.{same_left}
use Rattle.sides.proofs.Sides.{same_left-refl, same_left-sym, same_left_trans}
use Rattle.groups.specs.Groups.{same_key}

-- a part that stands in the front of a list is a part of the list
part-front : (k s n : ℕ) (l : List ℕ) → s + k ≤ n → take k (drop s (take n l)) ≡ take k (drop s l)
part-front k zero n l h = take-take k n l (omega arith)
part-front k (suc s) zero l h = absurd (omega arith)
part-front k (suc s) (suc n) [] h = refl
part-front k (suc s) (suc n) (a ∷ l) h = part-front k s n l (omega arith)

module _ (nodes letters : List ℕ) (c : Counts) (u : Handle) where
  -- what slot i tells the reader, and its first letter
  pub record Reads (i : ℕ) : Type 0 where
    pub slot : i < c.nodes
    pub inside : get_or nodes (4 * i + 1) 0 + get_or nodes (4 * i + 2) 0 ≤ c.letters
    pub some_letter : 0 < get_or nodes (4 * i + 2) 0
    pub first : letter_at (take (get_or nodes (4 * i + 2) 0) (drop (get_or nodes (4 * i + 1) 0) letters)) (dir_of u) 0 ≡ letter_of (graph_of nodes letters [] c) u 0

  pub reads_first : (i : ℕ) → c.letters ≤ length letters → all (good_node (take c.letters letters)) (nodes_of c.nodes nodes) ≡ true → find_node (id_of u) (nodes_of c.nodes nodes) ≡ Some i → Reads i
  reads_first i room good e =
      let f = node-found c.nodes nodes (id_of u) i e in
      let used = take c.letters letters in
      let r = node_at nodes i in
      let q : get_or (nodes_of c.nodes nodes) i r ≡ r = node_is c.nodes i nodes f.within r in
      let t : good_node used r ≡ true = sym (ap (good_node used) q) ∙ all-at (good_node used) (nodes_of c.nodes nodes) good i (omega (arith, f.within, length-decode node_layout c.nodes nodes)) r in
      let n = node_says used r t in
      let k : r.start + r.len ≤ c.letters = omega (arith, n.inside, length-take c.letters letters) in
      record {
        slot = f.within;
        inside = k;
        some_letter = n.some_letter;
        first = ap (λ (s : List ℕ). letter_at s (dir_of u) 0) (sym (part-front r.len r.start c.letters letters k))
            ∙ ap (λ (x : Node). letter_at (span used x) (dir_of u) 0) (sym f.here);
      }

  no_letter : (b : Bool) → ◌≡◌ {A = ℕ} 0 (cond b 0 (complement_of 0))
  unfolding complement_of
  no_letter true = refl
  no_letter false = refl

  pub reads_none : find_node (id_of u) (nodes_of c.nodes nodes) ≡ None → 0 ≡ letter_of (graph_of nodes letters [] c) u 0
  reads_none e = rw (no_node (id_of u) (nodes_of c.nodes nodes) e) (no_letter (eqb (dir_of u) 0))

-- keys are alike as letters and left sets are
module _ (g : Graph) where
  abbrev first : Handle → ℕ
  first u = upper_of (letter_of g u 0)

  key_letter : (u w : Handle) → same_key g u w ≡ true → first u ≡ first w
  key_letter u w t = eqb-true (first u) (first w) (and_true_l (eqb (first u) (first w)) (same_left g u w) t)

  key_left : (u w : Handle) → same_key g u w ≡ true → same_left g u w ≡ true
  key_left u w t = and_true_r (eqb (first u) (first w)) (same_left g u w) t

  key : (u w : Handle) → first u ≡ first w → same_left g u w ≡ true → same_key g u w ≡ true
  key u w e l = and_both _ _ (eq-eqb (first u) (first w) e) l

  pub key_refl : (u : Handle) → same_key g u u ≡ true
  key_refl u = key u u refl (same_left-refl g u)

  pub key_sym : (u w : Handle) → same_key g u w ≡ true → same_key g w u ≡ true
  key_sym u w t = key w u (sym (key_letter u w t)) (same_left-sym g u w (key_left u w t))

  pub key_trans : (u w x : Handle) → same_key g u w ≡ true → same_key g w x ≡ true → same_key g u x ≡ true
  key_trans u w x s t = key u x (key_letter u w s ∙ key_letter w x t) (same_left_trans g u w x (key_left u w s) (key_left w x t))
