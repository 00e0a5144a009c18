-- New lines, part by part.
use Prim.Native.Nat.{ℕ, suc}
use mathlib.Core.Path.{◌≡◌, ap}
use mathlib.Core.Bool.{true, ◌&&◌}
use mathlib.Core.List.{List, [], ◌∷◌, ◌++◌, append_assoc}
use native.Mathlib.Omega.{arith}
use lib.Dec.{eqb}
use lib.ListN.{length, get_or}
use Rattle.kit.proofs.Bools.{tests, and_true_l, and_true_r}
use Rattle.store.specs.Graph.{Graph}
use Rattle.events.specs.Events.{Rules}
use Rattle.rewriting.specs.Rewriting.{transform_walk}
use Rattle.text.specs.Bytes.{bytes}
use Rattle.text.specs.Pieces.{field, is_line}
use Rattle.text.specs.Steps.{path_handles, walk_handles}
use Rattle.writing.specs.Marks.{path_text, walk_text}
use Rattle.paths.specs.PathText.{new_path, new_walk}
use Rattle.drawing.specs.Drawn.{fields_text}

-- a line's letter is its first field
one_byte : (b : ℕ) (f : List ℕ) → (eqb (length f) 1 && eqb (get_or f 0 0) b) ≡ true → f ≡ b ∷ []
one_byte b [] t = let e : eqb 0 1 ≡ true = and_true_l (eqb 0 1) (eqb 0 b) t in absurd (omega (arith, tests))
one_byte b (x ∷ []) t =
    let e : eqb x b ≡ true = and_true_r (eqb 1 1) (eqb x b) t in
    let q : x ≡ b = omega (arith, tests) in
    ap (λ (y : ℕ). y ∷ []) q
one_byte b (x ∷ y ∷ f) t =
    let e : eqb (suc (suc (length f))) 1 ≡ true = and_true_l (eqb (suc (suc (length f))) 1) (eqb x b) t in
    absurd (omega (arith, tests))

module _ (g : Graph) (t : Rules) (line x : List ℕ) where
  pub path_line : is_line 80 line ≡ true → x ≡ field 2 line → (fields_text 0 2 line ++ path_text (transform_walk g t (path_handles x))) ++ bytes "\t*\n" ≡ new_path g t line
  unfolding new_path
  path_line p e = rw (e, one_byte 80 (field 0 line) p) (simp append_assoc)

  pub walk_line : is_line 87 line ≡ true → x ≡ field 6 line → (fields_text 0 6 line ++ walk_text (transform_walk g t (walk_handles x))) ++ bytes "\n" ≡ new_walk g t line
  unfolding new_walk
  walk_line p e = rw (e, one_byte 87 (field 0 line) p) (simp append_assoc)
