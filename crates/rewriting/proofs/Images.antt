-- What stands for a step, by whether its node has a rule; its steps one by one, and how many there are.
use Prim.Native.Nat.{ℕ, ◌+◌, ◌-◌, ◌*◌, ◌≤◌, ◌<◌}
use mathlib.Core.Path.{◌≡◌, refl, sym, ap, ◌∙◌, fun_ext}
use mathlib.Core.Bool.{Bool, true, false, cond}
use mathlib.Core.List.{List, [], ◌∷◌, ◌++◌, map-append}
use native.Mathlib.Omega.{arith}
use borrow.Author.Tests.{eq-eqb, ne_eqb}
use lib.Dec.{eqb}
use lib.ListN.{length, get_or, length-map, get_or-map}
use Rattle.kit.specs.Loops.{lines, sum}
use Rattle.kit.proofs.Bools.{tests}
use Rattle.handle.specs.declared.Handle.{Handle}
use Rattle.handle.specs.Handle.{pack, id_of, dir_of, flip}
use Rattle.handle.proofs.Handles.{dir_small, pack_unpack, flip-forward}
use Rattle.store.specs.declared.Counts.{Counts}
use Rattle.store.specs.Graph.{Graph, handle, nodes_of, graph_of}
use Rattle.store.specs.Views.{len_of}
use Rattle.groups.specs.Groups.{numbers}
use Rattle.events.specs.declared.Used.{Used}
use Rattle.events.specs.Events.{Rules, rule, steps_of, rules_of, list_of}
use Rattle.events.specs.WellFormed.{table_formed}
use Rattle.spelling.specs.Spelling.{turn_walk}
use Rattle.spelling.proofs.Walks.{length-turn, turn_at, length-lines}
use Rattle.rewriting.specs.Rewriting.{ruled, rule_under, nodes_on, transform_node, transform_walk}
use Rattle.rewriting.specs.Measure.{towards, new_len, new_walk_len}
use Rattle.rewriting.proofs.Tables.{steps-inside, length-on, on-at}

-- a walk in a direction
pub length-towards : (d : ℕ) (hs : List Handle) → length (towards d hs) ≡ length hs
length-towards d hs = elim (eqb d 0) as (λ t. length (cond t hs (turn_walk hs)) ≡ length hs) [ true ↦ refl | false ↦ length-turn hs ]

-- the numbers that the code puts out for a rule's walk, one by one
module _ (total : ℕ) (l : List ℕ) (first count : ℕ) (h : first + count ≤ total) (d j : ℕ) (k : j < count) where
  on : List Handle
  on = nodes_on (steps_of total l) (rule 0 0 first count)

  pub forward-at : d ≡ 0 → get_or l (2 * (first + j)) 0 ≡ get_or (numbers (towards d (nodes_on (steps_of total l) (rule 0 0 first count)))) j 0
  unfolding on
  forward-at z =
      rw (eq-eqb d 0 z)
      (sym (get_or-map (λ (x : Handle). x.packed) on j (handle 0) ∙ ap (λ (x : Handle). x.packed) (on-at total l first count h j k)))

  pub reverse-at : (d ≡ 0 → ⊥) → (flip (handle (get_or l (2 * (first + (count - 1 - j))) 0))).packed ≡ get_or (numbers (towards d (nodes_on (steps_of total l) (rule 0 0 first count)))) j 0
  unfolding on
  reverse-at z =
      rw (ne_eqb d 0 z)
      (sym (get_or-map (λ (x : Handle). x.packed) (turn_walk on) j (handle 0)
      ∙ ap (λ (x : Handle). x.packed) (turn_at on j (count - 1 - j) (handle 0) (omega (arith, length-on total l first count h)) ∙ ap flip (on-at total l first count h (count - 1 - j) (omega arith)))))

-- where there is no rule, the step itself
itself : (h : Handle) (b : Bool) → eqb (dir_of h) 0 ≡ b → cond b (pack (id_of h) 0 ∷ []) (turn_walk (pack (id_of h) 0 ∷ [])) ≡ h ∷ []
itself h true e =
    let z : dir_of h ≡ 0 = omega (arith, tests) in
    ap (λ (x : Handle). x ∷ []) (ap (pack (id_of h)) (sym z) ∙ pack_unpack h)
itself h false e =
    let z : dir_of h ≡ 1 = omega (arith, tests, dir_small h) in
    ap (λ (x : Handle). x ∷ []) (flip-forward (id_of h) ∙ ap (pack (id_of h)) (sym z) ∙ pack_unpack h)

module _ (g : Graph) (t : Rules) (h : Handle) where
  pub no_rule : ruled (id_of h) (len_of g (id_of h)) t.rules ≡ false → transform_node g t h ≡ h ∷ []
  no_rule f = rw f (itself h (eqb (dir_of h) 0) refl)

  pub by_rule : ruled (id_of h) (len_of g (id_of h)) t.rules ≡ true → transform_node g t h ≡ towards (dir_of h) (nodes_on t.steps (rule_under (id_of h) (len_of g (id_of h)) t.rules))
  by_rule e = rw e

-- how many steps stand for a step, and for a walk
module _ (nodes rules steps : List ℕ) (c : Counts) (u : Used) (ok : table_formed rules steps u ≡ true) where
  pub length-new : (h : Handle) → length (transform_node (graph_of nodes [] [] c) (list_of rules steps u) h) ≡ new_len (nodes_of c.nodes nodes) (rules_of u.rules rules) h
  length-new h = by (ruled (id_of h) len (rules_of u.rules rules)) refl
    where
      len : ℕ
      len = len_of (graph_of nodes [] [] c) (id_of h)

      by : (b : Bool) → ruled (id_of h) len (rules_of u.rules rules) ≡ b → length (transform_node (graph_of nodes [] [] c) (list_of rules steps u) h) ≡ cond b (rule_under (id_of h) len (rules_of u.rules rules)).steps 1
      by true e =
          let r = rule_under (id_of h) len (rules_of u.rules rules) in
          ap length (by_rule (graph_of nodes [] [] c) (list_of rules steps u) h e)
          ∙ length-towards (dir_of h) (nodes_on (steps_of u.steps steps) r)
          ∙ length-on u.steps steps r.first r.steps (steps-inside rules steps u ok (id_of h) len)
      by false e = ap length (no_rule (graph_of nodes [] [] c) (list_of rules steps u) h e)

  pub length_walk : (hs : List Handle) → length (transform_walk (graph_of nodes [] [] c) (list_of rules steps u) hs) ≡ new_walk_len (nodes_of c.nodes nodes) (rules_of u.rules rules) hs
  length_walk hs =
      length-lines (transform_node (graph_of nodes [] [] c) (list_of rules steps u)) hs ∙ ap (λ (f : Handle → ℕ). sum f hs) (fun_ext length-new)

-- the packed numbers of a walk, one by one and step by step
pub length-numbers : (hs : List Handle) → length (numbers hs) ≡ length hs
length-numbers hs = length-map hs (λ h. h.packed)

pub numbers-lines : (f : Handle → List Handle) (hs : List Handle) → numbers (lines f hs) ≡ lines (λ h. numbers (f h)) hs
numbers-lines f [] = refl
numbers-lines f (h ∷ hs) =
    map-append (λ x. x.packed) (f h) (lines f hs) ∙ ap (λ (l : List ℕ). numbers (f h) ++ l) (numbers-lines f hs)
