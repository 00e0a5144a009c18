-- What a lookup tells of a node's expansion, and which steps an expansion reads.
use Prim.Native.Nat.{ℕ, suc, ◌+◌, ◌-◌}
use mathlib.Core.Path.{◌≡◌, refl, sym, ap, ap₂, ◌∙◌}
use mathlib.Core.Bool.{Bool, true, false, cond}
use mathlib.Core.List.{List, [], ◌∷◌, ◌++◌}
use native.Mathlib.Omega.{arith}
use lib.Dec.{eqb}
use lib.ListN.{drop, get_or}
use Rattle.std.specs.Prelude.{Some, None}
use Rattle.kit.specs.Loops.{find_from, lines, all}
use Rattle.kit.proofs.Bools.{and_true_l, and_true_r}
use Rattle.kit.proofs.Steps.{found_at}
use Rattle.handle.specs.Handle.{id_of, dir_of}
use Rattle.events.specs.Events.{walk_of, keyed}
use Rattle.events.specs.declared.Rule.{Rule}
use Rattle.events.specs.declared.Step.{Step}
use Rattle.expansion.specs.Expansion.{expand_node, expand_walk}
use Rattle.expansion.specs.Filling.{toward}
use Rattle.expansion.proofs.Turn.{walk_turn}

abbrev pub is_forward : Step → Bool
is_forward s = eqb (dir_of s.node) 0

abbrev pub has_key_of : Step → Rule → Bool
has_key_of s r = keyed (id_of s.node) s.len r

module _ (steps : List Step) where
  -- a walk turned or not, expanded
  pub toward_walk : (forward : Bool) (rs : List Rule) (ws : List Step) → expand_walk steps rs (toward forward ws) ≡ toward forward (expand_walk steps rs ws)
  toward_walk true rs ws = refl
  toward_walk false rs ws = walk_turn steps rs ws

  pub node_none : (s : Step) (i : ℕ) (rs : List Rule) → find_from (has_key_of s) i rs ≡ None → expand_node steps rs s ≡ s ∷ []
  node_none s i [] e = refl
  node_none s i (r ∷ rs) e = by (has_key_of s r) e (node_none s (i + 1) rs)
    where
      by : (b : Bool) → cond b (Some i) (find_from (has_key_of s) (i + 1) rs) ≡ None → (find_from (has_key_of s) (i + 1) rs ≡ None → expand_node steps rs s ≡ s ∷ []) → cond b (toward (is_forward s) (expand_walk steps rs (walk_of steps r))) (expand_node steps rs s) ≡ s ∷ []
      by true q go = let z : ◌≡◌ {A = ℕ} 0 1 = cc in absurd (omega arith)
      by false q go = go q

  node_at_lem : (s : Step) (i k : ℕ) (rs : List Rule) (d : Rule) → find_from (has_key_of s) i rs ≡ Some k → expand_node steps rs s ≡ toward (is_forward s) (expand_walk steps (drop (k - i + 1) rs) (walk_of steps (get_or rs (k - i) d)))
  node_at_lem s i k [] d e = let z : ◌≡◌ {A = ℕ} 0 1 = cc in absurd (omega arith)
  node_at_lem s i k (r ∷ rs) d e = by (has_key_of s r) e (node_at_lem s (i + 1) k rs d)
    where
      by : (b : Bool) → cond b (Some i) (find_from (has_key_of s) (i + 1) rs) ≡ Some k → (find_from (has_key_of s) (i + 1) rs ≡ Some k → expand_node steps rs s ≡ toward (is_forward s) (expand_walk steps (drop (k - (i + 1) + 1) rs) (walk_of steps (get_or rs (k - (i + 1)) d)))) → cond b (toward (is_forward s) (expand_walk steps rs (walk_of steps r))) (expand_node steps rs s) ≡ toward (is_forward s) (expand_walk steps (drop (k - i + 1) (r ∷ rs)) (walk_of steps (get_or (r ∷ rs) (k - i) d)))
      by true q go =
          let same : i ≡ k = cc in
          let z : k - i ≡ 0 = omega arith in
          rw z
      by false q go =
          let low = (found_at (has_key_of s) (i + 1) k rs q).low in
          let y : k - i ≡ suc (k - (i + 1)) = omega arith in
          let z : k - i + 1 ≡ suc (k - (i + 1) + 1) = omega arith in
          rw (z, y) (go q)

  -- the rule that a lookup finds: its walk, as the step is oriented, by the rules after it
  pub node-found : (s : Step) (i k : ℕ) (rs : List Rule) (d : Rule) → find_from (has_key_of s) i rs ≡ Some k → expand_node steps rs s ≡ expand_walk steps (drop (k - i + 1) rs) (toward (is_forward s) (walk_of steps (get_or rs (k - i) d)))
  node-found s i k rs d e = node_at_lem s i k rs d e ∙ sym (toward_walk (is_forward s) (drop (k - i + 1) rs) (walk_of steps (get_or rs (k - i) d)))

-- two lists of steps in which the rules' walks are the same
pub lines_same : (f g : Step → List Step) (ws : List Step) → ((s : Step) → f s ≡ g s) → lines f ws ≡ lines g ws
lines_same f g [] h = refl
lines_same f g (s ∷ ws) h = ap₂ ◌++◌ (h s) (lines_same f g ws h)

module _ (steps others : List Step) (p : Rule → Bool) (same : (r : Rule) → p r ≡ true → walk_of steps r ≡ walk_of others r) where
  pub node-same : (rs : List Rule) → all p rs ≡ true → (s : Step) → expand_node steps rs s ≡ expand_node others rs s
  node-same [] t s = refl
  node-same (r ∷ rs) t s =
      let rest = node-same rs (and_true_r (p r) (all p rs) t) in
      let walk : expand_walk steps rs (walk_of steps r) ≡ expand_walk others rs (walk_of others r) = lines_same (expand_node steps rs) (expand_node others rs) (walk_of steps r) rest ∙ ap (expand_walk others rs) (same r (and_true_l (p r) (all p rs) t)) in
      ap₂ (λ (a b : List Step). cond (has_key_of s r) (toward (is_forward s) a) b) walk (rest s)
