-- The checker finds no fault exactly when the conditions 1 to 7 hold.
use Prim.Native.Nat.{ℕ, ◌+◌}
use mathlib.Core.Path.{◌≡◌, refl, sym, ap, ap₂, ◌∙◌, subst}
use mathlib.Core.Logic.{◌↔◌, ⊎_elim}
use mathlib.Core.Bool.{Bool, true, false, not, ◌&&◌, ◌||◌, and_assoc}
use mathlib.Core.List.Memᴰ
use mathlib.Core.List.{List, [], ◌∷◌, ◌++◌, map, append_assoc, append-nil, Memᴰ}
use native.Mathlib.Omega.{arith}
use borrow.Author.Tests.{eq-eqb, eqb-true, ne_eqb, not-true}
use lib.Dec.{eqb}
use Rattle.kit.specs.Loops.{all, any, distinct, sum, lines}
use Rattle.kit.proofs.Bools.{tests, and_true_l, and_true_r, and_both, not_of, eqb_sym}
use Rattle.kit.proofs.Meaning.{all_append, any_append, all_map, all_mem, all_of}
use Rattle.letters.specs.Sequences.{same_spelling}
use Rattle.handle.specs.declared.Handle.{Handle}
use Rattle.handle.specs.Handle.{pack}
use Rattle.handle.proofs.Handles.{id-pack}
use Rattle.store.specs.Graph.{Graph}
use Rattle.store.specs.declared.Node.{Node}
use Rattle.store.specs.declared.Link.{Link}
use Rattle.store.specs.Order.{written_order}
use Rattle.store.specs.Views.{stored, len_of, live_node, spell}
use Rattle.store.proofs.Order.{order_all}
use Rattle.sides.proofs.Rising.{all-rising}
use Rattle.events.specs.Events.{Rules, walk_of}
use Rattle.events.specs.declared.Rule.{Rule}
use Rattle.events.specs.declared.Step.{Step}
use Rattle.spelling.specs.Spelling.{spell_walk}
use Rattle.rewriting.specs.Rewriting.{ruled, nodes_on}
use Rattle.scanning.specs.Rules.{has_steps, lengths_sum, spells_key}
use Rattle.keeping.specs.Kept.{node_kept, old_nodes, link_kept}
use Rattle.verdict.specs.Conditions.{protected_ids, no_repeat, conditions_fault}
use Rattle.promises.specs.Tests.{walk_tests, rule_tests, rules_tests, nodes_tests, links_tests, protected_tests, all_tests}
use Rattle.promises.specs.Conditions.{RuleHolds, NodeHolds, Conditions}
use Rattle.promises.proofs.First.{passes, gives_all, first_none}
use Rattle.promises.proofs.Walked.{walk_says, says_walk}

-- "if the key is an old node of that length"
key_says : (stored same : Bool) (a b : ℕ) → (not (stored && eqb a b) || same) ≡ true → stored ≡ true → a ≡ b → same ≡ true
key_says stored same a b t s e = rw (s, eq-eqb a b e) at t

says_key : (stored same : Bool) (a b : ℕ) → (stored ≡ true → a ≡ b → same ≡ true) → (not (stored && eqb a b) || same) ≡ true
says_key false same a b h = refl
says_key true same a b h = by (eqb a b) refl
  where
    by : (t : Bool) → eqb a b ≡ t → (not t || same) ≡ true
    by true e = h refl (eqb-true a b e)
    by false e = refl

module _ (old new : Graph) (steps : List Step) where
  -- 1 to 4
  abbrev same : Rule → Bool
  same r = same_spelling (spell old (pack r.id 0)) (spell_walk new (nodes_on steps r))

  abbrev walked : ℕ → Rule → Bool
  walked i r = all passes (walk_tests new i 0 [] (walk_of steps r))

  abbrev summed : Rule → Bool
  summed r = lengths_sum steps r && (spells_key old new steps r && true)

  rule_is : (i : ℕ) (r : Rule) → all passes (rule_tests old new steps i r) ≡ (has_steps r && (walked i r && summed r))
  rule_is i r = ap (λ (b : Bool). has_steps r && b) (all_append passes (walk_tests new i 0 [] (walk_of steps r)) _)

  rule_says : (i : ℕ) (r : Rule) → all passes (rule_tests old new steps i r) ≡ true → RuleHolds old new steps r
  rule_says i r t =
      let q = sym (rule_is i r) ∙ t in
      let u = and_true_r (has_steps r) (walked i r && summed r) q in
      let v = and_true_r (walked i r) (summed r) u in
      let n = not-true (eqb r.steps 0) (and_true_l (has_steps r) (walked i r && summed r) q) in
      record {
        some_step = omega (arith, tests);
        steps_hold = walk_says new i (walk_of steps r) (and_true_l (walked i r) (summed r) u);
        lengths = eqb-true (sum (λ s. s.len) (walk_of steps r)) r.len (and_true_l (lengths_sum steps r) (spells_key old new steps r && true) v);
        spells =
            key_says (stored r.id old.nodes) (same r) (len_of old r.id) r.len
            (and_true_l (spells_key old new steps r) true (and_true_r (lengths_sum steps r) (spells_key old new steps r && true) v));
      }

  says_rule : (i : ℕ) (r : Rule) → RuleHolds old new steps r → all passes (rule_tests old new steps i r) ≡ true
  says_rule i r h =
      rule_is i r
      ∙ and_both _ _ (not_of _ (ne_eqb r.steps 0 (λ z. omega (arith, h.some_step))))
      (and_both _ _ (says_walk new i (walk_of steps r) h.steps_hold)
      (and_both _ _ (eq-eqb (sum (λ s. s.len) (walk_of steps r)) r.len h.lengths)
      (and_both _ true (says_key (stored r.id old.nodes) (same r) (len_of old r.id) r.len h.spells) refl)))

  rules_say : (i : ℕ) (rs : List Rule) → all passes (rules_tests old new steps i rs) ≡ true → (r : Rule) → Memᴰ r rs → RuleHolds old new steps r
  rules_say i [] t r m = absurd (Memᴰ.not-nil m)
  rules_say i (x ∷ rs) t r m =
      let q = sym (all_append passes (rule_tests old new steps i x) (rules_tests old new steps (i + 1) rs)) ∙ t in
      ⊎_elim
      (λ (e : r ≡ x). subst (RuleHolds old new steps) (sym e) (rule_says i x (and_true_l (all passes (rule_tests old new steps i x)) (all passes (rules_tests old new steps (i + 1) rs)) q)))
      (λ k. rules_say (i + 1) rs (and_true_r (all passes (rule_tests old new steps i x)) (all passes (rules_tests old new steps (i + 1) rs)) q) r k)
      (Memᴰ.cases_cons m)

  says_rules : (i : ℕ) (rs : List Rule) → ((r : Rule) → Memᴰ r rs → RuleHolds old new steps r) → all passes (rules_tests old new steps i rs) ≡ true
  says_rules i [] h = refl
  says_rules i (x ∷ rs) h =
      all_append passes (rule_tests old new steps i x) (rules_tests old new steps (i + 1) rs)
      ∙ and_both _ _ (says_rule i x (h x (Memᴰ.head refl))) (says_rules (i + 1) rs (λ r m. h r (Memᴰ.tail m)))

module _ (old new : Graph) (t : Rules) where
  -- 5
  abbrev kept : ℕ → Bool
  kept id = ruled id (len_of old id) t.rules || (live_node id new.nodes && same_spelling (spell old (pack id 0)) (spell new (pack id 0)))

  node_is : (id : ℕ) → node_kept old new t (pack id 0) ≡ kept id
  node_is id = ap (λ (i : ℕ). ruled i (len_of old i) t.rules || (live_node i new.nodes && same_spelling (spell old (pack id 0)) (spell new (pack id 0)))) (id-pack id 0 (omega arith))

  nodes_are : (hs : List Handle) → all passes (nodes_tests old new t hs) ≡ all (node_kept old new t) hs
  nodes_are [] = refl
  nodes_are (h ∷ hs) = ap (λ (b : Bool). node_kept old new t h && b) (nodes_are hs)

  all-nodes : all passes (nodes_tests old new t (old_nodes old)) ≡ all (λ (n : Node). node_kept old new t (pack n.id 0)) old.nodes
  all-nodes =
      nodes_are (old_nodes old)
      ∙ all-rising (node_kept old new t) (map (λ (n : Node). pack n.id 0) old.nodes)
      ∙ all_map (node_kept old new t) (λ (n : Node). pack n.id 0) old.nodes

  node_says : (id : ℕ) → node_kept old new t (pack id 0) ≡ true → ruled id (len_of old id) t.rules ≡ false → NodeHolds old new id
  node_says id k f =
      let q : (live_node id new.nodes && same_spelling (spell old (pack id 0)) (spell new (pack id 0))) ≡ true = rw f at (sym (node_is id) ∙ k) in
      record { lives = and_true_l _ _ q; spells = and_true_r (live_node id new.nodes) _ q }

  says_node : (id : ℕ) → (ruled id (len_of old id) t.rules ≡ false → NodeHolds old new id) → node_kept old new t (pack id 0) ≡ true
  says_node id h = node_is id ∙ by (ruled id (len_of old id) t.rules) h
    where
      by : (b : Bool) → (b ≡ false → NodeHolds old new id) → (b || (live_node id new.nodes && same_spelling (spell old (pack id 0)) (spell new (pack id 0)))) ≡ true
      by true g = refl
      by false g = let n = g refl in and_both _ _ n.lives n.spells

  -- 6
  links_are : (i : ℕ) (rs : List Link) → all passes (links_tests old new t i rs) ≡ all (link_kept old new t) rs
  links_are i [] = refl
  links_are i (r ∷ rs) = ap (λ (b : Bool). link_kept old new t r && b) (links_are (i + 1) rs)

-- 7: walks one after another are one list
repeat_append : (seen xs ys : List ℕ) → no_repeat seen (xs ++ ys) ≡ (no_repeat seen xs && no_repeat (seen ++ xs) ys)
repeat_append seen [] ys = ap (λ (l : List ℕ). no_repeat l ys) (sym (append-nil seen))
repeat_append seen (x ∷ xs) ys =
    ap (λ (b : Bool). not (any (eqb x) seen) && b)
    (repeat_append (seen ++ (x ∷ [])) xs ys ∙ ap (λ (l : List ℕ). no_repeat (seen ++ (x ∷ [])) xs && no_repeat l ys) (append_assoc seen (x ∷ []) xs))
    ∙ sym (and_assoc (not (any (eqb x) seen)) (no_repeat (seen ++ (x ∷ [])) xs) (no_repeat (seen ++ (x ∷ xs)) ys))

protected_are : (old : Graph) (t : Rules) (i : ℕ) (seen ids : List ℕ) → all passes (protected_tests old t i seen ids) ≡ no_repeat seen (lines (protected_ids old t) ids)
protected_are old t i seen [] = refl
protected_are old t i seen (id ∷ ids) =
    ap (λ (b : Bool). no_repeat seen (protected_ids old t id) && b) (protected_are old t (i + 1) (seen ++ protected_ids old t id) ids)
    ∙ sym (repeat_append seen (protected_ids old t id) (lines (protected_ids old t) ids))

-- none stands among those seen
abbrev apart : List ℕ → List ℕ → Bool
apart seen xs = all (λ x. not (any (eqb x) seen)) xs

one_more : (a b c d : Bool) → ((not (a || (b || false)) && (c && not d))) ≡ ((not a && c) && not (b || d))
one_more true b c d = refl
one_more false true true true = refl
one_more false true true false = refl
one_more false true false d = refl
one_more false false true d = refl
one_more false false false d = refl

apart_more : (seen : List ℕ) (x : ℕ) (xs : List ℕ) → apart (seen ++ (x ∷ [])) xs ≡ (apart seen xs && not (any (eqb x) xs))
apart_more seen x [] = refl
apart_more seen x (y ∷ xs) =
    ap₂ (λ (a b : Bool). not a && b) (any_append (eqb y) seen (x ∷ []) ∙ ap (λ (b : Bool). any (eqb y) seen || (b || false)) (eqb_sym y x)) (apart_more seen x xs)
    ∙ one_more (any (eqb y) seen) (eqb x y) (apart seen xs) (any (eqb x) xs)

move : (n a d e : Bool) → (n && ((a && not d) && e)) ≡ ((n && a) && (not d && e))
move true true d e = refl
move true false d e = refl
move false a d e = refl

repeat_is : (seen xs : List ℕ) → no_repeat seen xs ≡ (apart seen xs && distinct eqb xs)
repeat_is seen [] = refl
repeat_is seen (x ∷ xs) =
    ap (λ (b : Bool). not (any (eqb x) seen) && b)
    (repeat_is (seen ++ (x ∷ [])) xs ∙ ap (λ (b : Bool). b && distinct eqb xs) (apart_more seen x xs))
    ∙ move (not (any (eqb x) seen)) (apart seen xs) (any (eqb x) xs) (distinct eqb xs)

apart_none : (xs : List ℕ) → apart [] xs ≡ true
apart_none [] = refl
apart_none (x ∷ xs) = apart_none xs

repeat_none : (xs : List ℕ) → no_repeat [] xs ≡ distinct eqb xs
repeat_none xs = repeat_is [] xs ∙ ap (λ (b : Bool). b && distinct eqb xs) (apart_none xs)

module _ (old new : Graph) (t : Rules) (protected : List ℕ) where
  abbrev on_rules : Bool
  on_rules = all passes (rules_tests old new t.steps 0 t.rules)

  abbrev on_nodes : Bool
  on_nodes = all (λ (n : Node). node_kept old new t (pack n.id 0)) old.nodes

  abbrev on_links : Bool
  on_links = all (link_kept old new t) old.links

  abbrev on_protected : Bool
  on_protected = distinct eqb (lines (protected_ids old t) protected)

  tests_are : all passes (all_tests old new t protected) ≡ (on_rules && (on_nodes && (on_links && on_protected)))
  tests_are =
      all_append passes (rules_tests old new t.steps 0 t.rules) _
      ∙ ap (λ (b : Bool). on_rules && b)
      (all_append passes (nodes_tests old new t (old_nodes old)) _
      ∙ ap₂ ◌&&◌ (all-nodes old new t)
      (all_append passes (links_tests old new t 0 (written_order old.links)) _
      ∙ ap₂ ◌&&◌ (links_are old new t 0 (written_order old.links) ∙ order_all (link_kept old new t) old.links)
      (protected_are old t 0 [] protected ∙ repeat_none (lines (protected_ids old t) protected))))

  tests_say : all passes (all_tests old new t protected) ≡ true → Conditions old new t protected
  tests_say p =
      let q = sym tests_are ∙ p in
      let u = and_true_r on_rules (on_nodes && (on_links && on_protected)) q in
      let v = and_true_r on_nodes (on_links && on_protected) u in
      record {
        rules_hold = rules_say old new t.steps 0 t.rules (and_true_l on_rules (on_nodes && (on_links && on_protected)) q);
        nodes_hold = λ n m. node_says old new t n.id (all_mem (λ (n : Node). node_kept old new t (pack n.id 0)) (and_true_l on_nodes (on_links && on_protected) u) m);
        links_hold = λ l m. all_mem (link_kept old new t) (and_true_l on_links on_protected v) m;
        none_twice = and_true_r on_links on_protected v;
      }

  say_tests : Conditions old new t protected → all passes (all_tests old new t protected) ≡ true
  say_tests c =
      tests_are
      ∙ and_both _ _ (says_rules old new t.steps 0 t.rules c.rules_hold)
      (and_both _ _ (all_of (λ (n : Node). node_kept old new t (pack n.id 0)) old.nodes (λ n m. says_node old new t n.id (c.nodes_hold n m)))
      (and_both _ _ (all_of (link_kept old new t) old.links c.links_hold) c.none_twice))

  pub yes_is_conditions : ((conditions_fault old new t protected).number ≡ 0) ↔ Conditions old new t protected
  yes_is_conditions =
      let g = gives_all old new t protected in
      let z = first_none (all_tests old new t protected) g.all_numbered in (
        λ e. tests_say (z.0 (sym (ap (λ v. v.number) g.is_first) ∙ e)),
        λ c. ap (λ v. v.number) g.is_first ∙ z.1 (say_tests c),
      )
