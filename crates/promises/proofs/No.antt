-- "Conversely, if the inputs are well formed, the protected list is empty, every key is an old node with its length and
-- every recorded step length is true where the node exists, a no (20 to 28) means that some old walk of one or two steps
-- rewrites wrongly." Where every node alone and both ends of every link rewrite rightly, the conditions hold.
use Prim.Native.Nat.{ℕ, zero, suc, ◌+◌, ◌≤◌, ◌<◌}
use mathlib.Core.Path.{◌≡◌, refl, sym, ap, ap₂, ◌∙◌, subst}
use mathlib.Core.Logic.{⊎_elim}
use mathlib.Core.Bool.{Bool, true, false, cond, ◌&&◌}
use mathlib.Core.List.Memᴰ
use mathlib.Core.List.{List, [], ◌∷◌, ◌++◌, map, append-nil, Memᴰ}
use native.Mathlib.Omega.{arith}
use borrow.Author.Tests.{eq-eqb, eqb-true}
use lib.Dec.{eqb}
use lib.ListN.{length, take, drop, length-append}
use Rattle.kit.specs.Loops.{all, sum}
use Rattle.kit.proofs.Bools.{never, and_true_l, and_true_r, and_both, or_left, eqb_sym}
use Rattle.kit.proofs.Meaning.{all_mem, any_mem, any_some, none_mem, distinct-first, distinct-rest, not-all}
use Rattle.letters.specs.Sequences.{same_spelling}
use Rattle.letters.proofs.Sequences.{same_length}
use Rattle.handle.specs.declared.Handle.{Handle}
use Rattle.handle.specs.Handle.{id_of, pack}
use Rattle.handle.specs.Edge.{edge, same_ends}
use Rattle.handle.proofs.Handles.{id-pack}
use Rattle.handle.proofs.Edges.{ends-refl}
use Rattle.store.specs.Graph.{Graph, ends}
use Rattle.store.specs.declared.Node.{Node}
use Rattle.store.specs.declared.Link.{Link}
use Rattle.store.specs.Views.{named, stored, len_of, live_node, spell, joins, linked, live_linked}
use Rattle.formed.specs.WellFormed.{good_graph, good_link}
use Rattle.formed.proofs.Says.{graph_says, link_says}
use Rattle.events.specs.Events.{Rules, walk_of, keyed}
use Rattle.events.specs.declared.Rule.{Rule}
use Rattle.events.specs.declared.Step.{Step}
use Rattle.events.specs.WellFormed.{keys_once}
use Rattle.spelling.specs.Spelling.{spell_walk}
use Rattle.rewriting.specs.Rewriting.{ruled, rule_under, nodes_on, image_of, transform_node, transform_walk}
use Rattle.scanning.specs.Rules.{is_old_key}
use Rattle.keeping.specs.Kept.{last_of, first_of}
use Rattle.verdict.specs.Conditions.{conditions_fault}
use Rattle.promises.specs.Conditions.{step_at, StepHolds, RuleHolds, NodeHolds, Conditions}
use Rattle.promises.specs.Walks.{Walk, live_walk, rewrites_rightly, Formed, TrueTo, Wrong}
use Rattle.promises.proofs.Live.{live_says, live_mem, join_live}
use Rattle.promises.proofs.Reading.{spell-length}
use Rattle.promises.proofs.Rewrites.{Imaged, forward-image, images}
use Rattle.promises.proofs.Walked.{later}
use Rattle.promises.proofs.Yes.{yes_is_conditions}
use Rattle.store.proofs.Lookups.{live-stored}

-- where no key is given twice, a rule is the one under its key
rule_only : {r : Rule} (rs : List Rule) → keys_once rs ≡ true → Memᴰ r rs → rule_under r.id r.len rs ≡ r
rule_only {r} [] t m = elim m [ ]
rule_only {r} (x ∷ rs) t (Memᴰ.head e) =
    rw (eq-eqb x.id r.id (ap (λ (y : Rule). y.id) (sym e)), eq-eqb x.len r.len (ap (λ (y : Rule). y.len) (sym e))) (sym e)
rule_only {r} (x ∷ rs) t (Memᴰ.tail m) =
    let n : keyed x.id x.len r ≡ false = none_mem (keyed x.id x.len) (distinct-first (λ r s. keyed r.id r.len s) x rs t) m in
    let k : keyed r.id r.len x ≡ false = ap₂ ◌&&◌ (eqb_sym x.id r.id) (eqb_sym x.len r.len) ∙ n in
    rw k (rule_only rs (distinct-rest (λ r s. keyed r.id r.len s) x rs t) m)

-- the steps of a live walk, with their own lengths
module _ (new : Graph) where
  abbrev Own : List Step → Type 0
  Own ss = (s : Step) → Memᴰ s ss → s.len ≡ len_of new (id_of s.node)

  steps_hold : (ss : List Step) → live_walk new (map (λ s. s.node) ss) ≡ true → Own ss → (k : ℕ) → k < length ss → StepHolds new ss k
  steps_hold [] t own k h = never (sym t)
  steps_hold (s ∷ []) t own zero h = record { lives = t; own_length = own s (Memᴰ.head refl); joined = λ i e. absurd (omega arith) }
  steps_hold (s ∷ []) t own (suc k) h = absurd (omega arith)
  steps_hold (s ∷ u ∷ ss) t own zero h =
      record {
        lives = (live_says new s.node u.node (map (λ s. s.node) ss) t).node_live;
        own_length = own s (Memᴰ.head refl);
        joined = λ i e. absurd (omega arith);
      }
  steps_hold (s ∷ u ∷ ss) t own (suc zero) h =
      let m = live_says new s.node u.node (map (λ s. s.node) ss) t in
      let f = steps_hold (u ∷ ss) m.rest_live (λ x n. own x (Memᴰ.tail n)) 0 (omega arith) in
      record { lives = f.lives; own_length = f.own_length; joined = from m.link_live }
    where
      from : live_linked new (edge s.node u.node) ≡ true → (i : ℕ) → i + 1 ≡ 1 → live_linked new (edge (step_at (s ∷ u ∷ ss) i).node u.node) ≡ true
      from l zero e = l
      from l (suc i) e = absurd (omega arith)
  steps_hold (s ∷ u ∷ ss) t own (suc (suc k)) h =
      let m = live_says new s.node u.node (map (λ s. s.node) ss) t in
      later new s (u ∷ ss) k (steps_hold (u ∷ ss) m.rest_live (λ x n. own x (Memᴰ.tail n)) (suc k) (omega arith))

  spelled-sum : good_graph new ≡ true → (ss : List Step) → Own ss → sum (λ s. s.len) ss ≡ length (spell_walk new (map (λ s. s.node) ss))
  spelled-sum ok [] own = refl
  spelled-sum ok (s ∷ ss) own =
      ap₂ ◌+◌ (own s (Memᴰ.head refl) ∙ sym (spell-length new ok s.node)) (spelled-sum ok ss (λ x m. own x (Memᴰ.tail m)))
      ∙ sym (length-append (spell new s.node) (spell_walk new (map (λ s. s.node) ss)))

  some_steps : (n : ℕ) (ss : List Step) → live_walk new (map (λ s. s.node) (take n ss)) ≡ true → 1 ≤ n
  some_steps zero [] t = never (sym t)
  some_steps zero (s ∷ ss) t = never (sym t)
  some_steps (suc n) ss t = omega arith

-- the walks that are tried: each node alone, and both ends of each link
abbrev alone : Node → List Handle
alone n = pack n.id 0 ∷ []

abbrev across : Link → List Handle
across l = l.from ∷ l.to ∷ []

abbrev tried : Graph → List (List Handle)
tried g = map alone g.nodes ++ map across g.links

record Short (g : Graph) (hs : List Handle) : Type 0 where
  short : length hs ≤ 2
  is_walk : Walk g hs

alone_short : (g : Graph) (n : Node) → Memᴰ n g.nodes → Short g (alone n)
alone_short g n m =
    record {
      short = omega arith;
      is_walk = record {
        some_step = omega arith;
        over_nodes = and_both _ true (any_mem (named (id_of (pack n.id 0))) m (eq-eqb n.id (id_of (pack n.id 0)) (sym (id-pack n.id 0 (omega arith))))) refl;
        over_links = refl;
      };
    }

across_short : (g : Graph) → good_graph g ≡ true → (l : Link) → Memᴰ l g.links → Short g (across l)
across_short g ok l m =
    let k = link_says g.nodes l (all_mem (good_link g.nodes) (graph_says g ok).links_good m) in
    let j : linked (ends l) g.links ≡ true = any_mem (joins (ends l)) m (or_left (same_ends (ends l) (ends l)) _ (ends-refl (ends l))) in
    record {
      short = omega arith;
      is_walk = record {
        some_step = omega arith;
        over_nodes = and_both _ _ k.from_stored (and_both _ true k.to_stored refl);
        over_links = rw j;
      };
    }

tried_short : (g : Graph) → good_graph g ≡ true → (hs : List Handle) → Memᴰ hs (tried g) → Short g hs
tried_short g ok hs m =
    ⊎_elim
    (λ a. let r = Memᴰ.of_map alone g.nodes a in subst (Short g) r.2 (alone_short g r.0 r.1))
    (λ a. let r = Memᴰ.of_map across g.links a in subst (Short g) r.2 (across_short g ok r.0 r.1))
    (Memᴰ.append_cases (map alone g.nodes) m)

module _ (old new : Graph) (t : Rules) (formed : Formed old new t) (true-to : TrueTo old new t) (right : all (rewrites_rightly old new t) (tried old) ≡ true) where
  alone-right : (id : ℕ) → stored id old.nodes ≡ true → Imaged old new t (pack id 0) (transform_node old t (pack id 0))
  alone-right id s =
      let h = pack id 0 in
      let n = any_some (named id) old.nodes s in
      let r : rewrites_rightly old new t (h ∷ []) ≡ true =
      subst (λ (i : ℕ). rewrites_rightly old new t (pack i 0 ∷ []) ≡ true) (eqb-true n.0.id id n.2)
      (all_mem (rewrites_rightly old new t) right (Memᴰ.append_left (map across old.links) (Memᴰ.map alone n.1)))
      in
      let e = append-nil (transform_node old t h) in
      record {
        lives = sym (ap (live_walk new) e) ∙ and_true_l (live_walk new (transform_walk old t (h ∷ []))) _ r;
        spells =
            sym (ap₂ same_spelling (append-nil (spell old h)) (ap (spell_walk new) e))
            ∙ and_true_r (live_walk new (transform_walk old t (h ∷ []))) (same_spelling (spell_walk old (h ∷ [])) (spell_walk new (transform_walk old t (h ∷ [])))) r;
      }

  image : (id : ℕ) → stored id old.nodes ≡ true → Imaged old new t (pack id 0) (image_of t id (len_of old id))
  image id s = subst (Imaged old new t (pack id 0)) (forward-image old new t id) (alone-right id s)

  rule_holds : (r : Rule) → Memᴰ r t.rules → RuleHolds old new t.steps r
  rule_holds r m =
      let key = all_mem (is_old_key old) true-to.keys_old m in
      let s : stored r.id old.nodes ≡ true = and_true_l (stored r.id old.nodes) (eqb (len_of old r.id) r.len) key in
      let l : len_of old r.id ≡ r.len = eqb-true (len_of old r.id) r.len (and_true_r (stored r.id old.nodes) (eqb (len_of old r.id) r.len) key) in
      let k : ruled r.id r.len t.rules ≡ true = any_mem (keyed r.id r.len) m (and_both _ _ (eq-eqb r.id r.id refl) (eq-eqb r.len r.len refl)) in
      let w : image_of t r.id (len_of old r.id) ≡ nodes_on t.steps r =
      ap (image_of t r.id) l ∙ ap (λ (b : Bool). cond b (nodes_on t.steps (rule_under r.id r.len t.rules)) (pack r.id 0 ∷ [])) k ∙ ap (nodes_on t.steps) (rule_only t.rules formed.keys_once m)
      in
      let i : Imaged old new t (pack r.id 0) (nodes_on t.steps r) = subst (Imaged old new t (pack r.id 0)) w (image r.id s) in
      let ss = walk_of t.steps r in
      let own : Own new ss = λ s n. true-to.lengths_true r s m n (live-stored (id_of s.node) new.nodes (live_mem new (nodes_on t.steps r) i.lives (Memᴰ.map (λ s. s.node) n))) in
      record {
        some_step = some_steps new r.steps (drop r.first t.steps) i.lives;
        steps_hold = steps_hold new ss i.lives own;
        lengths =
            spelled-sum new formed.new_good ss own
            ∙ sym (same_length (spell old (pack r.id 0)) (spell_walk new (nodes_on t.steps r)) i.spells)
            ∙ spell-length old formed.old_good (pack r.id 0)
            ∙ ap (len_of old) (id-pack r.id 0 (omega arith))
            ∙ l;
        spells = λ s e. i.spells;
      }

  node_holds : (n : Node) → Memᴰ n old.nodes → ruled n.id (len_of old n.id) t.rules ≡ false → NodeHolds old new n.id
  node_holds n m f =
      let h = pack n.id 0 in
      let i : Imaged old new t h (h ∷ []) = rw f at (image n.id (any_mem (named n.id) m (eq-eqb n.id n.id refl))) in
      record {
        lives = sym (ap (λ (i : ℕ). live_node i new.nodes) (id-pack n.id 0 (omega arith))) ∙ i.lives;
        spells = sym (ap (same_spelling (spell old h)) (append-nil (spell new h))) ∙ i.spells;
      }

  link_holds : (l : Link) → Memᴰ l old.links → live_linked new (edge (last_of (transform_node old t l.from)) (first_of (transform_node old t l.to))) ≡ true
  link_holds l m =
      let k = link_says old.nodes l (all_mem (good_link old.nodes) (graph_says old formed.old_good).links_good m) in
      let r = all_mem (rewrites_rightly old new t) right (Memᴰ.append_right (map alone old.nodes) (Memᴰ.map across m)) in
      let a = transform_node old t l.from in
      let b = transform_node old t l.to in
      join_live new a b
      (images old new t formed alone-right l.from k.from_stored).lives
      (images old new t formed alone-right l.to k.to_stored).lives
      (sym (ap (λ (w : List Handle). live_walk new (a ++ w)) (append-nil b)) ∙ and_true_l (live_walk new (transform_walk old t (across l))) _ r)

  conditions : Conditions old new t []
  conditions = record { rules_hold = rule_holds; nodes_hold = node_holds; links_hold = link_holds; none_twice = refl }

pub no_is_wrong : (old new : Graph) (t : Rules) → Formed old new t → TrueTo old new t → ((conditions_fault old new t []).number ≡ 0 → ⊥) → Wrong old new t
no_is_wrong old new t formed true-to fault = by (all (rewrites_rightly old new t) (tried old)) refl
  where
    by : (b : Bool) → all (rewrites_rightly old new t) (tried old) ≡ b → Wrong old new t
    by true e = absurd (fault ((yes_is_conditions old new t []).1 (conditions old new t formed true-to e)))
    by false e =
        let r = not-all (rewrites_rightly old new t) (tried old) e in
        let s = tried_short old formed.old_good r.0 r.1 in
        record { walk = r.0; short = s.short; is_walk = s.is_walk; wrongly = r.2 }
