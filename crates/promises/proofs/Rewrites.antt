-- "If the checker says yes, every nonempty walk of the old graph rewrites, given room, to a walk over live nodes and live
-- links that spells the same letters, case aside."
use Prim.Native.Nat.{ℕ, suc, ◌+◌, ◌≤◌, ◌<◌}
use mathlib.Core.Path.{◌≡◌, refl, sym, ap, ap₂, ◌∙◌, subst}
use mathlib.Core.Logic.{⊎_elim}
use mathlib.Core.Bool.{Bool, true, false, cond}
use mathlib.Core.List.{List, [], ◌∷◌, map, append-nil}
use native.Mathlib.Nat.{not-suc-le-zero}
use native.Mathlib.Omega.{arith}
use borrow.Author.Tests.{eqb-true}
use lib.Dec.{eqb}
use lib.ListN.{length, drop, length-drop}
use lib.Seq.{length-take-le}
use Rattle.kit.specs.Loops.{all}
use Rattle.std.specs.Prelude.{Option, Some, None}
use Rattle.kit.proofs.Bools.{tests, and_true_l, and_true_r, and_both, or_cases}
use Rattle.kit.proofs.Meaning.{all_mem, any_some, lines-append, first_some}
use Rattle.letters.specs.Sequences.{same_spelling}
use Rattle.letters.proofs.Sequences.{same-both, same-rev_comp}
use Rattle.handle.specs.declared.Handle.{Handle}
use Rattle.handle.specs.Handle.{id_of, dir_of, flip, pack}
use Rattle.handle.specs.Edge.{edge, turned, same_ends}
use Rattle.handle.proofs.Handles.{id-pack, dir_pack, dir_small, pack_unpack, flip-forward, id-flip}
use Rattle.handle.proofs.Edges.{same_ends_lem}
use Rattle.store.specs.Graph.{Graph, ends}
use Rattle.store.specs.Views.{named, stored, len_of, live_node, spell, joins, linked, live_linked}
use Rattle.sides.proofs.Sides.{linked-turned}
use Rattle.formed.proofs.Says.{graph_says}
use Rattle.events.specs.Events.{Rules, rule, walk_of, keyed}
use Rattle.events.specs.declared.Step.{Step}
use Rattle.events.specs.WellFormed.{good_rule, good_step}
use Rattle.events.proofs.Says.{rule_says}
use Rattle.spelling.specs.Spelling.{turn_walk, all_stored, gap_after, spell_walk}
use Rattle.spelling.proofs.Walks.{spell-flip, spell-turn}
use Rattle.rewriting.specs.Rewriting.{ruled, rule_under, nodes_on, image_of, transform_node, transform_walk}
use Rattle.rewriting.proofs.Walks.{transform_flip}
use Rattle.keeping.specs.Kept.{last_of, first_of}
use Rattle.verdict.specs.Conditions.{conditions_fault}
use Rattle.promises.specs.Conditions.{StepHolds, NodeHolds, Conditions}
use Rattle.promises.specs.Walks.{Walk, live_walk, rewrites_rightly, Formed}
use Rattle.promises.proofs.Live.{live_join, first-append, last_turn, first-turn, live-turn, says_live}
use Rattle.promises.proofs.Reading.{spell-letters, walk_letters}
use Rattle.promises.proofs.Yes.{yes_is_conditions}

-- an oriented node is its id's forward one, or the flip of that
pub either_way : (P : Handle → Type 0) → ((id : ℕ) → P (pack id 0)) → ((h : Handle) → P h → P (flip h)) → (h : Handle) → P h
either_way P p f h = by (eqb (dir_of h) 0) refl
  where
    by : (b : Bool) → eqb (dir_of h) 0 ≡ b → P h
    by true e =
        let z : dir_of h ≡ 0 = omega (arith, tests) in
        subst P (ap (pack (id_of h)) (sym z) ∙ pack_unpack h) (p (id_of h))
    by false e =
        let z : dir_of h ≡ 1 = omega (arith, tests, dir_small h) in
        subst P (flip-forward (id_of h) ∙ ap (pack (id_of h)) (sym z) ∙ pack_unpack h) (f (pack (id_of h) 0) (p (id_of h)))

-- a rule's steps that hold are a live walk
steps-live : (new : Graph) (ss : List Step) → 1 ≤ length ss → ((k : ℕ) → k < length ss → StepHolds new ss k) → live_walk new (map (λ s. s.node) ss) ≡ true
steps-live new [] n h = absurd (not-suc-le-zero n)
steps-live new (s ∷ []) n h = (h 0 (omega arith)).lives
steps-live new (s ∷ u ∷ ss) n h =
    says_live new s.node u.node (map (λ s. s.node) ss) (record {
      node_live = (h 0 (omega arith)).lives;
      link_live = (h 1 (omega arith)).joined 0 refl;
      rest_live = steps-live new (u ∷ ss) (omega arith) (λ k m.
          let f = h (suc k) (omega arith) in
          record { lives = f.lives; own_length = f.own_length; joined = λ i e. f.joined (suc i) (omega arith) });
    })

-- the place of a link that is stored, and what follows it
no_gap : (b : Bool) (i : ℕ) (o : Option ℕ) → cond b o (Some i) ≡ None → (b ≡ true) × (o ≡ None)
no_gap true i o e = (refl, e)
no_gap false i o e = let z : ◌≡◌ {A = ℕ} 0 1 = cc in absurd (omega arith)

module _ (old new : Graph) (t : Rules) where
  -- h has an image that is live and spells the same
  pub record Imaged (h : Handle) (w : List Handle) : Type 0 where
    pub lives : live_walk new w ≡ true
    pub spells : same_spelling (spell old h) (spell_walk new w) ≡ true

  pub forward-image : (id : ℕ) → transform_node old t (pack id 0) ≡ image_of t id (len_of old id)
  forward-image id =
      ap₂ (λ (d i : ℕ). cond (eqb d 0) (image_of t i (len_of old i)) (turn_walk (image_of t i (len_of old i)))) (dir_pack id 0 (omega arith)) (id-pack id 0 (omega arith))

  -- where the forward ones have such images, so have the reversed ones
  module _ (formed : Formed old new t) where
    image-flip : (h : Handle) → Imaged h (transform_node old t h) → Imaged (flip h) (transform_node old t (flip h))
    image-flip h m =
        let w = transform_node old t h in
        let old-nodes = (graph_says old formed.old_good).nodes_good in
        let new-nodes = (graph_says new formed.new_good).nodes_good in
        subst (Imaged (flip h)) (sym (transform_flip old t h)) (record {
          lives = live-turn new w m.lives;
          spells =
              ap₂ same_spelling (spell-flip old old-nodes h) (spell-turn new new-nodes w)
              ∙ same-rev_comp (spell old h) (spell_walk new w) (spell-letters old formed.old_good h) (walk_letters new formed.new_good w) m.spells;
        })

    pub images : ((id : ℕ) → stored id old.nodes ≡ true → Imaged (pack id 0) (transform_node old t (pack id 0))) → (h : Handle) → stored (id_of h) old.nodes ≡ true → Imaged h (transform_node old t h)
    images forward =
        either_way (λ h. stored (id_of h) old.nodes ≡ true → Imaged h (transform_node old t h))
        (λ id s. forward id (ap (λ (i : ℕ). stored i old.nodes) (sym (id-pack id 0 (omega arith))) ∙ s))
        (λ h m s. image-flip h (m (ap (λ (i : ℕ). stored i old.nodes) (sym (id-flip h)) ∙ s)))

  module _ (formed : Formed old new t) (c : Conditions old new t []) where
    image-ruled : (id : ℕ) → stored id old.nodes ≡ true → ruled id (len_of old id) t.rules ≡ true → Imaged (pack id 0) (nodes_on t.steps (rule_under id (len_of old id) t.rules))
    image-ruled id s k =
        let r = rule_under id (len_of old id) t.rules in
        let f = first_some (keyed id (len_of old id)) (rule 0 0 0 0) t.rules k in
        let e : r.id ≡ id = eqb-true r.id id (and_true_l (eqb r.id id) (eqb r.len (len_of old id)) f.1) in
        let l : r.len ≡ len_of old id = eqb-true r.len (len_of old id) (and_true_r (eqb r.id id) (eqb r.len (len_of old id)) f.1) in
        let h = c.rules_hold r f.0 in
        let g = rule_says (length t.steps) r (all_mem (good_rule (length t.steps)) (and_true_l (all (good_rule (length t.steps)) t.rules) (all good_step t.steps) formed.table_good) f.0) in
        record {
          lives =
              steps-live new (walk_of t.steps r)
              (omega (arith, h.some_step, g.inside, length-drop r.first t.steps, length-take-le r.steps (drop r.first t.steps) (omega (arith, g.inside, length-drop r.first t.steps))))
              h.steps_hold;
          spells =
              subst (λ (i : ℕ). same_spelling (spell old (pack i 0)) (spell_walk new (nodes_on t.steps r)) ≡ true) e
              (h.spells (ap (λ (i : ℕ). stored i old.nodes) e ∙ s) (ap (len_of old) e ∙ sym l));
        }

    image_itself : (id : ℕ) → stored id old.nodes ≡ true → ruled id (len_of old id) t.rules ≡ false → Imaged (pack id 0) (pack id 0 ∷ [])
    image_itself id s k =
        let n = any_some (named id) old.nodes s in
        let e : n.0.id ≡ id = eqb-true n.0.id id n.2 in
        let h : NodeHolds old new id = subst (NodeHolds old new) e (c.nodes_hold n.0 n.1 (ap (λ (i : ℕ). ruled i (len_of old i) t.rules) e ∙ k)) in
        record {
          lives = ap (λ (i : ℕ). live_node i new.nodes) (id-pack id 0 (omega arith)) ∙ h.lives;
          spells = ap (same_spelling (spell old (pack id 0))) (append-nil (spell new (pack id 0))) ∙ h.spells;
        }

    image-forward : (id : ℕ) → stored id old.nodes ≡ true → Imaged (pack id 0) (image_of t id (len_of old id))
    image-forward id s = by (ruled id (len_of old id) t.rules) refl
      where
        by : (b : Bool) → ruled id (len_of old id) t.rules ≡ b → Imaged (pack id 0) (cond b (nodes_on t.steps (rule_under id (len_of old id) t.rules)) (pack id 0 ∷ []))
        by true k = image-ruled id s k
        by false k = image_itself id s k

    image-right : (h : Handle) → stored (id_of h) old.nodes ≡ true → Imaged h (transform_node old t h)
    image-right = images formed (λ id s. subst (Imaged (pack id 0)) (sym (forward-image id)) (image-forward id s))

    -- an old link leads from one image to the next, whichever of its forms is stored
    link-right : (u v : Handle) → stored (id_of u) old.nodes ≡ true → stored (id_of v) old.nodes ≡ true → linked (edge u v) old.links ≡ true → live_linked new (edge (last_of (transform_node old t u)) (first_of (transform_node old t v))) ≡ true
    link-right u v su sv l =
        let r = any_some (joins (edge u v)) old.links l in
        let k = c.links_hold r.0 r.1 in
        let wu = transform_node old t u in
        let wv = transform_node old t v in
        ⊎_elim
        (λ p. subst (λ e. live_linked new (edge (last_of (transform_node old t e.from)) (first_of (transform_node old t e.to))) ≡ true) (sym (same_ends_lem (edge u v) (ends r.0) p)) k)
        (λ p.
        let m = subst (λ e. live_linked new (edge (last_of (transform_node old t e.from)) (first_of (transform_node old t e.to))) ≡ true) (sym (same_ends_lem (turned (edge u v)) (ends r.0) p)) k in
        sym (linked-turned new (edge (last_of wu) (first_of wv)))
        ∙ sym (ap₂ (λ x y. live_linked new (edge x y))
        (ap last_of (transform_flip old t v) ∙ last_turn new wv (image-right v sv).lives)
        (ap first_of (transform_flip old t u) ∙ first-turn new wu (image-right u su).lives))
        ∙ m)
        (or_cases (same_ends (edge u v) (ends r.0)) (same_ends (turned (edge u v)) (ends r.0)) r.2)

    -- h and then hs
    record Rewritten (h : Handle) (hs : List Handle) : Type 0 where
      lives : live_walk new (transform_walk old t (h ∷ hs)) ≡ true
      spells : same_spelling (spell_walk old (h ∷ hs)) (spell_walk new (transform_walk old t (h ∷ hs))) ≡ true

    rewritten : (i : ℕ) (h : Handle) (hs : List Handle) → all_stored old.nodes (h ∷ hs) ≡ true → gap_after old.links i h hs ≡ None → Rewritten h hs
    rewritten i h [] s n =
        let m = image-right h (and_true_l (stored (id_of h) old.nodes) true s) in
        let e = append-nil (transform_node old t h) in
        record {
          lives = ap (live_walk new) e ∙ m.lives;
          spells = ap₂ same_spelling (append-nil (spell old h)) (ap (spell_walk new) e) ∙ m.spells;
        }
    rewritten i h (k ∷ hs) s n =
        let sh = and_true_l (stored (id_of h) old.nodes) (all_stored old.nodes (k ∷ hs)) s in
        let sr = and_true_r (stored (id_of h) old.nodes) (all_stored old.nodes (k ∷ hs)) s in
        let sk = and_true_l (stored (id_of k) old.nodes) (all_stored old.nodes hs) sr in
        let g = no_gap (linked (edge h k) old.links) i (gap_after old.links (i + 1) k hs) n in
        let m = image-right h sh in
        let r = rewritten (i + 1) k hs sr g.1 in
        let w = transform_walk old t (k ∷ hs) in
        record {
          lives =
              live_join new (transform_node old t h) w m.lives r.lives
              (ap (λ (x : Handle). live_linked new (edge (last_of (transform_node old t h)) x)) (first-append new (transform_node old t k) (transform_walk old t hs) (image-right k sk).lives)
              ∙ link-right h k sh sk g.0);
          spells =
              ap (same_spelling (spell_walk old (h ∷ k ∷ hs))) (lines-append (spell new) (transform_node old t h) w)
              ∙ same-both (spell old h) (spell_walk new (transform_node old t h)) (spell_walk old (k ∷ hs)) (spell_walk new w) m.spells r.spells;
        }

    pub conditions_rewrite : (hs : List Handle) → Walk old hs → rewrites_rightly old new t hs ≡ true
    conditions_rewrite [] w = absurd (not-suc-le-zero w.some_step)
    conditions_rewrite (h ∷ hs) w = let r = rewritten 1 h hs w.over_nodes w.over_links in and_both _ _ r.lives r.spells

pub yes_rewrites : (old new : Graph) (t : Rules) (protected : List ℕ) → Formed old new t → (conditions_fault old new t protected).number ≡ 0 → (hs : List Handle) → Walk old hs → rewrites_rightly old new t hs ≡ true
yes_rewrites old new t protected formed e =
    let c = (yes_is_conditions old new t protected).0 e in
    conditions_rewrite old new t formed (record { rules_hold = c.rules_hold; nodes_hold = c.nodes_hold; links_hold = c.links_hold; none_twice = refl })
