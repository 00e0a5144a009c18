-- What a node of a good graph reads: letters among the ten, as many as its length says; also where none is stored.
use Prim.Native.Nat.{ℕ, ◌+◌, ◌≤◌}
use mathlib.Core.Path.{◌≡◌, refl, ◌∙◌}
use mathlib.Core.Bool.{Bool, true, false, cond}
use mathlib.Core.List.{List, [], ◌∷◌}
use native.Mathlib.Omega.{arith}
use lib.ListN.{length, drop, length-drop}
use lib.Seq.{length-take-le}
use Rattle.kit.specs.Loops.{all}
use Rattle.kit.proofs.Bools.{and_true_l, and_true_r, and_both}
use Rattle.kit.proofs.Meaning.{all_append}
use Rattle.letters.specs.Letters.{is_letter}
use Rattle.letters.specs.Sequences.{all_letters}
use Rattle.letters.proofs.Sequences.{oriented-letters, length-oriented}
use Rattle.handle.specs.declared.Handle.{Handle}
use Rattle.handle.specs.Handle.{id_of, dir_of}
use Rattle.store.specs.Graph.{Graph}
use Rattle.store.specs.declared.Node.{Node}
use Rattle.store.specs.Views.{named, node_named, span, spell, len_of}
use Rattle.formed.specs.WellFormed.{good_node, good_graph}
use Rattle.formed.proofs.Says.{node_says, graph_says}
use Rattle.spelling.specs.Spelling.{spell_walk}

record Reads (letters : List ℕ) (r : Node) : Type 0 where
  inside : r.start + r.len ≤ length letters
  ten_letters : all_letters (span letters r) ≡ true

named_reads : (letters : List ℕ) (id : ℕ) (rs : List Node) → all (good_node letters) rs ≡ true → Reads letters (node_named id rs)
named_reads letters id [] t = record { inside = omega arith; ten_letters = refl }
named_reads letters id (r ∷ rs) t = by (named id r) (named_reads letters id rs (and_true_r (good_node letters r) (all (good_node letters) rs) t))
  where
    by : (b : Bool) → Reads letters (node_named id rs) → Reads letters (cond b r (node_named id rs))
    by true h =
        let n = node_says letters r (and_true_l (good_node letters r) (all (good_node letters) rs) t) in
        record { inside = n.inside; ten_letters = n.ten_letters }
    by false h = h

module _ (g : Graph) (ok : good_graph g ≡ true) (h : Handle) where
  r : Node
  r = node_named (id_of h) g.nodes

  reads : Reads g.letters r
  unfolding r
  reads = named_reads g.letters (id_of h) g.nodes (graph_says g ok).nodes_good

  pub spell-letters : all_letters (spell g h) ≡ true
  unfolding r
  spell-letters = oriented-letters (dir_of h) (span g.letters r) reads.ten_letters

  pub spell-length : length (spell g h) ≡ len_of g (id_of h)
  unfolding r
  spell-length =
      length-oriented (dir_of h) (span g.letters r)
      ∙ length-take-le r.len (drop r.start g.letters) (omega (arith, reads.inside, length-drop r.start g.letters))

module _ (g : Graph) (ok : good_graph g ≡ true) where
  pub walk_letters : (hs : List Handle) → all_letters (spell_walk g hs) ≡ true
  walk_letters [] = refl
  walk_letters (h ∷ hs) = all_append is_letter (spell g h) (spell_walk g hs) ∙ and_both _ _ (spell-letters g ok h) (walk_letters hs)
