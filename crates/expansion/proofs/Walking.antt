-- Writing what a walk expands to, one node after another: each turn's requirement and what it leaves to do; and what a
-- found rule asks of the walk under it.
use Prim.Native.Nat.{ℕ, ◌+◌, ◌-◌, ◌*◌, ◌≤◌, ◌<◌}
use mathlib.Core.Path.{◌≡◌, refl, sym, ap, ◌∙◌, subst}
use mathlib.Core.Bool.{true}
use mathlib.Core.List.{List, [], ◌∷◌, ◌++◌}
use native.Mathlib.Omega.{arith}
use borrow.Author.Tests.{leb-true, le-leb}
use lib.Dec.{leb}
use lib.ListN.{length, drop, get_or, length-append, length-drop}
use lib.Seq.{sets, length-sets, drop-drop, get_or-drop}
use Rattle.std.specs.Prelude.{Some}
use Rattle.kit.specs.Layout.{encode}
use Rattle.kit.specs.Loops.{all, find_from}
use Rattle.kit.proofs.Bools.{and_true_l, and_true_r, and_both}
use Rattle.kit.proofs.Laws.{length-decode, length-encode, encode-append}
use Rattle.kit.proofs.Meaning.{all-at, all_drop}
use Rattle.kit.proofs.Steps.{found_at}
use Rattle.kit.proofs.Writes.{sets-append}
use Rattle.events.specs.declared.Used.{Used}
use Rattle.events.specs.Events.{step_layout, rule_layout, rules_of, steps_of, walk_of}
use Rattle.events.specs.declared.Rule.{Rule}
use Rattle.events.specs.declared.Step.{Step}
use Rattle.events.proofs.Fields.{rule_at, rule_is}
use Rattle.expansion.specs.Expansion.{expand_walk}
use Rattle.expansion.specs.Filling.{toward, part_of, node_in, walk_in, lies, Ready, Written}
use Rattle.expansion.proofs.Nodes.{is_forward, has_key_of, node-found}
use Rattle.expansion.proofs.Places.{drop-sets, nodes_same}

pub lies_low : (total : ℕ) (r : Rule) (a : ℕ) → lies a total r ≡ true → a ≤ r.first
lies_low total r a t = leb-true a r.first (and_true_l (leb a r.first) (leb (r.first + r.steps) total) t)

pub lies_in : (total : ℕ) (r : Rule) (a : ℕ) → lies a total r ≡ true → r.first + r.steps ≤ total
lies_in total r a t = leb-true (r.first + r.steps) total (and_true_r (leb a r.first) (leb (r.first + r.steps) total) t)

-- what lies above b lies above all that b is above
pub lies_below : (total a b : ℕ) → a ≤ b → (rs : List Rule) → all (lies b total) rs ≡ true → all (lies a total) rs ≡ true
lies_below total a b h [] t = refl
lies_below total a b h (r ∷ rs) t =
    let p = and_true_l (lies b total r) (all (lies b total) rs) t in
    let low : a ≤ r.first = omega (arith, lies_low total r b p) in
    and_both _ _
    (and_both _ _ (le-leb a r.first low) (le-leb (r.first + r.steps) total (lies_in total r b p)))
    (lies_below total a b h rs (and_true_r (lies b total r) (all (lies b total) rs) t))

module _ (rules steps : List ℕ) (c : Used) (ahead at : ℕ) (ws : List Step) where
  -- the table's steps before the k-th node of ws is written at `next`
  pub record Going (now : List ℕ) (next k : ℕ) : Type 0 where
    pub place : next + length (walk_in rules steps c ahead (drop k ws)) ≡ at + length (walk_in rules steps c ahead ws)
    pub numbers : sets now (2 * next) (encode step_layout (walk_in rules steps c ahead (drop k ws))) ≡ sets steps (2 * at) (encode step_layout (walk_in rules steps c ahead ws))
    pub above : drop (2 * (at + length (walk_in rules steps c ahead ws))) now ≡ drop (2 * (at + length (walk_in rules steps c ahead ws))) steps
    pub size : length now ≡ length steps

  pub going : Going steps at 0
  going = record { place = refl; numbers = refl; above = refl; size = refl }

  pub gone : (now : List ℕ) (next k : ℕ) → drop k ws ≡ [] → Going now next k → Written steps at (walk_in rules steps c ahead ws) now next
  gone now next k e g =
      let p = rw e at g.place in
      record { place = omega (arith, p); numbers = rw e at g.numbers }

  module _ (ready : Ready rules steps c ahead at (walk_in rules steps c ahead ws)) (now : List ℕ) (next k : ℕ) (s : Step) (more : drop k ws ≡ s ∷ drop (k + 1) ws) (g : Going now next k) where
    here : node_in rules now c ahead s ≡ node_in rules steps c ahead s
    here = nodes_same (at + length (walk_in rules steps c ahead ws)) c.steps now steps g.above (drop ahead (rules_of c.rules rules)) ready.above s

    left : walk_in rules steps c ahead (drop k ws) ≡ node_in rules steps c ahead s ++ walk_in rules steps c ahead (drop (k + 1) ws)
    left = rw more

    fewer : next + length (node_in rules steps c ahead s) + length (walk_in rules steps c ahead (drop (k + 1) ws)) ≡ at + length (walk_in rules steps c ahead ws)
    fewer = omega (arith, g.place, ap length left, length-append (node_in rules steps c ahead s) (walk_in rules steps c ahead (drop (k + 1) ws)))

    pub turn_asks : Ready rules now c ahead next (node_in rules now c ahead s)
    turn_asks =
        rw here
        record {
          rule_room = ready.rule_room;
          step_room = omega (arith, ready.step_room, g.size);
          ahead_in = ready.ahead_in;
          fits = omega (arith, ready.fits, fewer);
          above = lies_below c.steps (next + length (node_in rules steps c ahead s)) (at + length (walk_in rules steps c ahead ws)) (omega (arith, fewer)) (drop ahead (rules_of c.rules rules)) ready.above;
        }

    pub turn_leaves : (exit : List ℕ) (after : ℕ) → Written now next (node_in rules now c ahead s) exit after → Going exit after (k + 1)
    turn_leaves exit after w =
        let xs = node_in rules steps c ahead s in
        let rest = walk_in rules steps c ahead (drop (k + 1) ws) in
        let n : length (encode step_layout xs) ≡ 2 * length xs = length-encode step_layout xs in
        let p : after ≡ next + length xs = rw here at w.place in
        let q : exit ≡ sets now (2 * next) (encode step_layout xs) = rw here at w.numbers in
        let i : 2 * after ≡ 2 * next + length (encode step_layout xs) = omega arith in
        record {
          place = omega (arith, fewer, p);
          numbers =
              ap (λ (l : List ℕ). sets l (2 * after) (encode step_layout rest)) q
              ∙ ap (λ (x : ℕ). sets (sets now (2 * next) (encode step_layout xs)) x (encode step_layout rest)) i
              ∙ sym (sets-append now (2 * next) (encode step_layout xs) (encode step_layout rest))
              ∙ ap (sets now (2 * next)) (sym (encode-append step_layout xs rest) ∙ ap (encode step_layout) (sym left))
              ∙ g.numbers;
          above =
              ap (drop (2 * (at + length (walk_in rules steps c ahead ws)))) q
              ∙ drop-sets now (2 * next) (encode step_layout xs) (2 * (at + length (walk_in rules steps c ahead ws))) (omega (arith, fewer))
              ∙ g.above;
          size = ap length q ∙ length-sets now (2 * next) (encode step_layout xs) ∙ g.size;
        }

-- What a lookup from `ahead` on that found rule j tells: the step's expansion is that of the rule's walk, which lies
-- where it may be read while it is written.
pub record Hit (rules steps : List ℕ) (c : Used) (ahead at : ℕ) (s : Step) (j : ℕ) : Type 0 where
  pub low : ahead ≤ j
  pub high : j < c.rules
  pub same : node_in rules steps c ahead s ≡ walk_in rules steps c (j + 1) (toward (is_forward s) (part_of steps c (get_or rules (4 * j + 2) 0) (get_or rules (4 * j + 3) 0)))
  pub ready : Ready rules steps c (j + 1) at (walk_in rules steps c (j + 1) (toward (is_forward s) (part_of steps c (get_or rules (4 * j + 2) 0) (get_or rules (4 * j + 3) 0))))
  pub below : at + length (walk_in rules steps c (j + 1) (toward (is_forward s) (part_of steps c (get_or rules (4 * j + 2) 0) (get_or rules (4 * j + 3) 0)))) ≤ get_or rules (4 * j + 2) 0
  pub inside : get_or rules (4 * j + 2) 0 + get_or rules (4 * j + 3) 0 ≤ c.steps

module _ (rules steps : List ℕ) (c : Used) (ahead at : ℕ) (s : Step) (j : ℕ) where
  pub hit : Ready rules steps c ahead at (node_in rules steps c ahead s) → find_from (has_key_of s) ahead (drop ahead (rules_of c.rules rules)) ≡ Some j → Hit rules steps c ahead at s j
  hit r e =
      let rs = rules_of c.rules rules in
      let d = rule_at rules j in
      let f = found_at (has_key_of s) ahead j (drop ahead rs) e in
      let n : length (drop ahead rs) ≡ c.rules - ahead = length-drop ahead rs ∙ ap (λ (x : ℕ). x - ahead) (length-decode rule_layout c.rules rules) in
      let h : j < c.rules = omega (arith, f.high, r.ahead_in) in
      let i : ahead + (j - ahead) ≡ j = omega (arith, f.low) in
      let k : ahead + (j - ahead + 1) ≡ j + 1 = omega (arith, f.low) in
      let it : get_or (drop ahead rs) (j - ahead) d ≡ d = get_or-drop ahead rs (j - ahead) d ∙ ap (λ (x : ℕ). get_or rs x d) i ∙ rule_is c.rules j rules h d in
      let after : drop (j - ahead + 1) (drop ahead rs) ≡ drop (j + 1) rs = drop-drop (j - ahead + 1) ahead rs ∙ ap (λ (x : ℕ). drop x rs) k in
      let ls : lies (at + length (node_in rules steps c ahead s)) c.steps d ≡ true = subst (λ (x : Rule). lies (at + length (node_in rules steps c ahead s)) c.steps x ≡ true) it (all-at (lies (at + length (node_in rules steps c ahead s)) c.steps) (drop ahead rs) r.above (j - ahead) (omega (arith, f.low, f.high)) d) in
      let same : node_in rules steps c ahead s ≡ walk_in rules steps c (j + 1) (toward (is_forward s) (part_of steps c (get_or rules (4 * j + 2) 0) (get_or rules (4 * j + 3) 0))) =
      node-found (steps_of c.steps steps) s ahead j (drop ahead rs) d e
      ∙ ap (λ (l : List Rule). expand_walk (steps_of c.steps steps) l (toward (is_forward s) (walk_of (steps_of c.steps steps) (get_or (drop ahead rs) (j - ahead) d)))) after
      ∙ ap (λ (x : Rule). walk_in rules steps c (j + 1) (toward (is_forward s) (walk_of (steps_of c.steps steps) x))) it
      in
      record {
        low = f.low;
        high = h;
        same = same;
        ready =
            subst (λ (xs : List Step). Ready rules steps c (j + 1) at xs) same
            record {
              rule_room = r.rule_room;
              step_room = r.step_room;
              ahead_in = omega arith;
              fits = r.fits;
              above = subst (λ (l : List Rule). all (lies (at + length (node_in rules steps c ahead s)) c.steps) l ≡ true) after (all_drop (lies (at + length (node_in rules steps c ahead s)) c.steps) (j - ahead + 1) (drop ahead rs) r.above);
            };
        below = omega (arith, ap length same, lies_low c.steps d (at + length (node_in rules steps c ahead s)) ls);
        inside = lies_in c.steps d (at + length (node_in rules steps c ahead s)) ls;
      }
