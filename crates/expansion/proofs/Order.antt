-- In a list whose every step's own rule comes later, no step of an expansion has a rule left, and expanding by rules
-- whose walks are expanded already is the same as expanding by the list's own.
use Prim.Native.Nat.{ℕ, zero, suc, ◌+◌}
use mathlib.Core.Path.{◌≡◌, refl, sym, ap, ap₂, ◌∙◌}
use mathlib.Core.Bool.{Bool, true, false, cond, not}
use mathlib.Core.List.{List, [], ◌∷◌, ◌++◌, append_assoc, append-nil}
use borrow.Author.Tests.{not-true}
use lib.ListN.{length, take, drop}
use lib.Seq.{take-append_seam, drop-append_seam, drop-drop}
use Rattle.kit.specs.Loops.{all, any, lines}
use Rattle.kit.proofs.Bools.{and_true_l, and_true_r, and_both, or_neither, or_false_l, or_false_r, not_of}
use Rattle.kit.proofs.Meaning.{all_append, any_append}
use Rattle.handle.proofs.Handles.{id-flip}
use Rattle.events.specs.Events.{walk_of, keyed, turn_steps, walks_of, rules_from}
use Rattle.events.specs.declared.Rule.{Rule}
use Rattle.events.specs.declared.Step.{Step}
use Rattle.events.specs.WellFormed.{steps_later, in_order_from}
use Rattle.expansion.specs.Expansion.{expand_node, expand_walk, expand_from}
use Rattle.expansion.specs.Filling.{toward}
use Rattle.expansion.proofs.Nodes.{is_forward, has_key_of, lines_same}
use Rattle.expansion.proofs.Turn.{flip_step}

-- a step has no rule among rs
abbrev pub free : List Rule → Step → Bool
free rs s = not (any (has_key_of s) rs)

free-flip : (rs : List Rule) (s : Step) → free rs (flip_step s) ≡ free rs s
free-flip rs s = ap (λ (i : ℕ). not (any (keyed i s.len) rs)) (id-flip s.node)

free-turn : (rs : List Rule) (ws : List Step) → steps_later rs ws ≡ true → steps_later rs (turn_steps ws) ≡ true
free-turn rs [] t = refl
free-turn rs (s ∷ ws) t =
    all_append (free rs) (turn_steps ws) (flip_step s ∷ [])
    ∙ and_both (steps_later rs (turn_steps ws)) (steps_later rs (flip_step s ∷ [])) (free-turn rs ws (and_true_r (free rs s) (steps_later rs ws) t))
    (and_both (free rs (flip_step s)) true (free-flip rs s ∙ and_true_l (free rs s) (steps_later rs ws) t) refl)

free-toward : (forward : Bool) (rs : List Rule) (ws : List Step) → steps_later rs ws ≡ true → steps_later rs (toward forward ws) ≡ true
free-toward true rs ws t = t
free-toward false rs ws t = free-turn rs ws t

free_snoc : (rs : List Rule) (r : Rule) (s : Step) → free rs s ≡ true → has_key_of s r ≡ false → free (rs ++ (r ∷ [])) s ≡ true
free_snoc rs r s t k =
    not_of (any (has_key_of s) (rs ++ (r ∷ [])))
    (any_append (has_key_of s) rs (r ∷ []) ∙ or_neither (any (has_key_of s) rs) (any (has_key_of s) (r ∷ [])) (not-true (any (has_key_of s) rs) t) (or_neither (has_key_of s r) false k refl))

-- what each step gives passes, so what the walk gives passes
all_lines : (p q : Step → Bool) (f : Step → List Step) (ws : List Step) → ((s : Step) → p s ≡ true → all q (f s) ≡ true) → all p ws ≡ true → all q (lines f ws) ≡ true
all_lines p q f [] h t = refl
all_lines p q f (s ∷ ws) h t =
    all_append q (f s) (lines f ws)
    ∙ and_both (all q (f s)) (all q (lines f ws)) (h s (and_true_l (p s) (all p ws) t)) (all_lines p q f ws h (and_true_r (p s) (all p ws) t))

module _ (steps : List Step) where
  -- neither what is met nor what is ahead has a rule for a step of the expansion
  pub node-free : (met rs : List Rule) → in_order_from met steps rs ≡ true → (s : Step) → free met s ≡ true → steps_later (met ++ rs) (expand_node steps rs s) ≡ true
  node-free met [] t s f = and_both (free (met ++ []) s) true (rw append-nil f) refl
  node-free met (r ∷ rs) t s f = by (has_key_of s r) refl (node-free (met ++ (r ∷ [])) rs (and_true_r (steps_later (met ++ (r ∷ [])) (walk_of steps r)) (in_order_from (met ++ (r ∷ [])) steps rs) t))
    where
      by : (b : Bool) → has_key_of s r ≡ b → ((x : Step) → free (met ++ (r ∷ [])) x ≡ true → steps_later ((met ++ (r ∷ [])) ++ rs) (expand_node steps rs x) ≡ true) → steps_later (met ++ (r ∷ rs)) (cond b (toward (is_forward s) (expand_walk steps rs (walk_of steps r))) (expand_node steps rs s)) ≡ true
      by true k go =
          let e : (met ++ (r ∷ [])) ++ rs ≡ met ++ (r ∷ rs) = append_assoc met (r ∷ []) rs in
          free-toward (is_forward s) (met ++ (r ∷ rs)) (expand_walk steps rs (walk_of steps r))
          (rw e at (all_lines (free (met ++ (r ∷ []))) (free ((met ++ (r ∷ [])) ++ rs)) (expand_node steps rs) (walk_of steps r) go (and_true_l (steps_later (met ++ (r ∷ [])) (walk_of steps r)) (in_order_from (met ++ (r ∷ [])) steps rs) t)))
      by false k go =
          let e : (met ++ (r ∷ [])) ++ rs ≡ met ++ (r ∷ rs) = append_assoc met (r ∷ []) rs in
          rw e at (go s (free_snoc met r s f k))

  pub walk_free : (met rs : List Rule) → in_order_from met steps rs ≡ true → (ws : List Step) → steps_later met ws ≡ true → steps_later (met ++ rs) (expand_walk steps rs ws) ≡ true
  walk_free met rs t ws f = all_lines (free met) (free (met ++ rs)) (expand_node steps rs) ws (node-free met rs t) f

  -- a step without a rule stays
  pub node_stays : (rs : List Rule) (s : Step) → any (has_key_of s) rs ≡ false → expand_node steps rs s ≡ s ∷ []
  node_stays [] s f = refl
  node_stays (r ∷ rs) s f = rw (or_false_l (has_key_of s r) (any (has_key_of s) rs) f) (node_stays rs s (or_false_r (has_key_of s r) (any (has_key_of s) rs) f))

  pub walk_stays : (rs : List Rule) (ws : List Step) → steps_later rs ws ≡ true → expand_walk steps rs ws ≡ ws
  walk_stays rs [] t = refl
  walk_stays rs (s ∷ ws) t =
      ap₂ ◌++◌ (node_stays rs s (not-true (any (has_key_of s) rs) (and_true_l (free rs s) (steps_later rs ws) t))) (walk_stays rs ws (and_true_r (free rs s) (steps_later rs ws) t))

  -- in order from any event on
  pub order_from : (i : ℕ) (met rs : List Rule) → in_order_from met steps rs ≡ true → in_order_from (met ++ take i rs) steps (drop i rs) ≡ true
  order_from zero met [] t = refl
  order_from zero met (r ∷ rs) t = rw append-nil t
  order_from (suc i) met [] t = refl
  order_from (suc i) met (r ∷ rs) t =
      let e : (met ++ (r ∷ [])) ++ take i rs ≡ met ++ (r ∷ take i rs) = append_assoc met (r ∷ []) (take i rs) in
      rw e at (order_from i (met ++ (r ∷ [])) rs (and_true_r (steps_later (met ++ (r ∷ [])) (walk_of steps r)) (in_order_from (met ++ (r ∷ [])) steps rs) t))

-- a step that no rule of two lists has, has none in either
free-right : (met rs : List Rule) (ws : List Step) → steps_later (met ++ rs) ws ≡ true → steps_later rs ws ≡ true
free-right met rs [] t = refl
free-right met rs (s ∷ ws) t =
    let n = not-true (any (has_key_of s) (met ++ rs)) (and_true_l (free (met ++ rs) s) (steps_later (met ++ rs) ws) t) in
    and_both (free rs s) (steps_later rs ws)
    (not_of (any (has_key_of s) rs) (or_false_r (any (has_key_of s) met) (any (has_key_of s) rs) (sym (any_append (has_key_of s) met rs) ∙ n)))
    (free-right met rs ws (and_true_r (free (met ++ rs) s) (steps_later (met ++ rs) ws) t))

module _ (steps others : List Step) (r : Rule) (rs : List Rule) (first : ℕ) where
  -- others holds, from `first` on, the expanded walks of r and rs: those of rs stand after that of r
  pub memo_next : drop first others ≡ walks_of (expand_from steps (r ∷ rs)) → drop (first + length (expand_walk steps rs (walk_of steps r))) others ≡ walks_of (expand_from steps rs)
  memo_next e =
      let walk = expand_walk steps rs (walk_of steps r) in
      sym (drop-drop (length walk) first others) ∙ ap (drop (length walk)) e ∙ drop-append_seam walk (walks_of (expand_from steps rs))

  pub memo_own : drop first others ≡ walks_of (expand_from steps (r ∷ rs)) → take (length (expand_walk steps rs (walk_of steps r))) (drop first others) ≡ expand_walk steps rs (walk_of steps r)
  memo_own e =
      let walk = expand_walk steps rs (walk_of steps r) in
      ap (take (length walk)) e ∙ take-append_seam walk (walks_of (expand_from steps rs))

  -- r's walk stays when it is expanded by rules that expand as rs do
  pub memo_twice : (met later : List Rule) → in_order_from met steps (r ∷ rs) ≡ true → drop first others ≡ walks_of (expand_from steps (r ∷ rs)) → ((s : Step) → expand_node others later s ≡ expand_node steps rs s) → expand_walk others later (take (length (expand_walk steps rs (walk_of steps r))) (drop first others)) ≡ expand_walk steps rs (walk_of steps r)
  memo_twice met later t e rest =
      let walk = expand_walk steps rs (walk_of steps r) in
      let here = steps_later (met ++ (r ∷ [])) (walk_of steps r) in
      let after = in_order_from (met ++ (r ∷ [])) steps rs in
      let clean : steps_later rs walk ≡ true = free-right (met ++ (r ∷ [])) rs walk (walk_free steps (met ++ (r ∷ [])) rs (and_true_r here after t) (walk_of steps r) (and_true_l here after t)) in
      ap (expand_walk others later) (memo_own e)
      ∙ lines_same (expand_node others later) (expand_node steps rs) walk rest
      ∙ walk_stays steps rs walk clean

module _ (steps others : List Step) where
  -- by the expanded rules a node expands as by the list's own
  pub memo : (met rs : List Rule) (first : ℕ) → in_order_from met steps rs ≡ true → drop first others ≡ walks_of (expand_from steps rs) → (s : Step) → expand_node others (rules_from first (expand_from steps rs)) s ≡ expand_node steps rs s
  memo met [] first t e s = refl
  memo met (r ∷ rs) first t e s =
      let next = first + length (expand_walk steps rs (walk_of steps r)) in
      let rest = memo (met ++ (r ∷ [])) rs next (and_true_r (steps_later (met ++ (r ∷ [])) (walk_of steps r)) (in_order_from (met ++ (r ∷ [])) steps rs) t) (memo_next steps others r rs first e) in
      ap₂ (λ (a b : List Step). cond (has_key_of s r) (toward (is_forward s) a) b) (memo_twice steps others r rs first met (rules_from next (expand_from steps rs)) t e rest) (rest s)

  pub memo_walk : (met rs : List Rule) (first : ℕ) → in_order_from met steps rs ≡ true → drop first others ≡ walks_of (expand_from steps rs) → (ws : List Step) → expand_walk others (rules_from first (expand_from steps rs)) ws ≡ expand_walk steps rs ws
  memo_walk met rs first t e ws = lines_same (expand_node others (rules_from first (expand_from steps rs))) (expand_node steps rs) ws (memo met rs first t e)
