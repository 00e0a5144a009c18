-- What a collapse makes, and what it leaves as it was: 01 "Prefix, groups, collapse", fourth entry; and that the plan makes
-- its links.
use Prim.Native.Nat.{ℕ, ◌+◌, ◌-◌, ◌*◌, ◌<◌}
use mathlib.Core.Path.{◌≡◌, refl, sym, ap, ap₂, ◌∙◌}
use mathlib.Core.Bool.{Bool, true, cond}
use mathlib.Core.List.{List, [], ◌∷◌, map, Memᴰ}
use native.Mathlib.Nat.{not-suc-le-zero}
use native.Mathlib.Omega.{arith}
use lib.ListN.{length, length-map, get_or}
use Rattle.kit.specs.Loops.{all, count}
use Rattle.kit.proofs.Bools.{and_both}
use Rattle.kit.proofs.Meaning.{all_mem, all_of}
use Rattle.handle.specs.declared.Handle.{Handle}
use Rattle.handle.specs.Handle.{id_of, pack}
use Rattle.handle.specs.Edge.{edge}
use Rattle.store.specs.Graph.{Graph}
use Rattle.store.specs.declared.Node.{Node}
use Rattle.store.specs.declared.Link.{Link}
use Rattle.store.specs.Views.{live_node, live_letters, live_linked}
use Rattle.formed.specs.WellFormed.{good_graph, ids_once, unmarked_link}
use Rattle.split.specs.Split.{fresh_id, split_links}
use Rattle.merging.specs.Merging.{is_long, is_forward, alone, prefix_of, suffix_of, add_links, read_as, later, later_all, shared_node, collapsed}
use Rattle.merging.specs.Plan.{dim, bury, right_in, long_by, fresh_after, suffix_by, later_links, later_links_all, planned, remark, merged_nodes}
use Rattle.merged.proofs.NodesAlone.{other-id, nodes-count}
use Rattle.merged.proofs.Kept.{marks_kept, none_marked, remarks}
use Rattle.merged.proofs.Parts.{unmarked-live}
use Rattle.merged.proofs.Alone.{First, Turn, Alone, stands}
use Rattle.merged.proofs.Later.{later_drawn, later-turn, later-linked, later_falls}
use Rattle.merged.proofs.Members.{Collapses, Off, member, member_stored, same-long, next, suffix_at, After, after_none, Leads, after_holds, after_one_lem, leads_one}
use Rattle.store.proofs.Lookups.{live-stored}

-- the plan looks at the nodes only to tell which members are long
module _ (p : ℕ) (nodes nodes' : List Node) (x : Handle) where
  abbrev links_by : Bool → ℕ → List Link → Handle → List Link
  links_by b fresh links m =
      map (bury (id_of (cond b (cond (is_forward m) m (pack fresh 1)) m)))
      (add_links x (cond b (suffix_by fresh m ∷ []) (map (read_as m x) (right_in links m))) (cond b (split_links (id_of m) fresh links) links))

  by_length : (ms : List Handle) → ((m : Handle) → Memᴰ m ms → long_by p nodes m ≡ long_by p nodes' m) → (fresh : ℕ) (links : List Link) → later_links_all p nodes x fresh links ms ≡ later_links_all p nodes' x fresh links ms
  by_length [] e fresh links = refl
  by_length (m ∷ ms) e fresh links =
      let q = e m (Memᴰ.head refl) in
      by_length ms (λ u k. e u (Memᴰ.tail k)) (fresh_after p nodes fresh m) (later_links p nodes x fresh links m)
      ∙ ap₂ (λ (f : ℕ) (l : List Link). later_links_all p nodes' x f l ms)
      (ap (λ (b : Bool). cond b (fresh + 1) fresh) q)
      (ap (λ (b : Bool). links_by b fresh links m) q)

-- the shared node x while members are left: live, and none of them is on it
pub record Shares (x : Handle) (g : Graph) (ms : List Handle) : Type 0 where
  pub alive : live_node (id_of x) g.nodes ≡ true
  pub off : Off (id_of x) ms

abbrev drawing : Graph → List Link
drawing g = map (dim g.nodes) g.links

module _ (p : ℕ) (x : Handle) where
  -- one turn
  module _ (g : Graph) (m : Handle) (ms : List Handle) (c : Collapses p g (m ∷ ms)) (s : Shares x g (m ∷ ms)) where
    pub turn : Turn p g m (is_long p g m) (suffix_of g m) (later p x g m)
    turn = later-turn p x g m (member p g m ms c) s.alive

    pub left : Collapses p (later p x g m) ms
    left = next p g m ms c (later p x g m) turn

    pub still : Shares x (later p x g m) ms
    still =
        record {
          alive = turn.other_live (id_of x) (s.off m (Memᴰ.head refl)) s.alive;
          off = λ u k. s.off u (Memᴰ.tail k);
        }

  all_after : (ms : List Handle) (g : Graph) → Collapses p g ms → Shares x g ms → After p g ms (later_all p x g ms)
  all_after [] g c s = after_none p g c
  all_after (m ∷ ms) g c s =
      let h = later p x g m in
      after_one_lem p g m ms h (later_all p x h ms) c (turn g m ms c s) (all_after ms h (left g m ms c s) (still g m ms c s))

  all_drawn : (ms : List Handle) (g : Graph) → Collapses p g ms → Shares x g ms → drawing (later_all p x g ms) ≡ later_links_all p g.nodes x (fresh_id g) (drawing g) ms
  all_drawn [] g c s = refl
  all_drawn (m ∷ ms) g c s =
      let h = later p x g m in
      all_drawn ms h (left g m ms c s) (still g m ms c s)
      ∙ ap₂ (λ (f : ℕ) (l : List Link). later_links_all p h.nodes x f l ms) (turn g m ms c s).fresh (later_drawn p x g m (member p g m ms c) s.alive)
      ∙ by_length p h.nodes g.nodes x ms (same-long p g m ms c h (turn g m ms c s)) (fresh_after p g.nodes (fresh_id g) m) (later_links p g.nodes x (fresh_id g) (drawing g) m)

  all_fall : (ms : List Handle) (g : Graph) → Collapses p g ms → Shares x g ms → live_letters (later_all p x g ms).nodes + p * length ms ≡ live_letters g.nodes
  all_fall [] g c s = omega arith
  all_fall (m ∷ ms) g c s =
      omega (arith, all_fall ms (later p x g m) (left g m ms c s) (still g m ms c s), later_falls p x g m (member p g m ms c) s.alive)

  all-linked : (ms : List Handle) (g : Graph) → Collapses p g ms → Shares x g ms → Leads p x g ms (later_all p x g ms)
  all-linked [] g c s = λ i l. absurd (not-suc-le-zero l)
  all-linked (m ∷ ms) g c s =
      let h = later p x g m in
      let c' = left g m ms c s in
      let s' = still g m ms c s in
      leads_one p g m ms h (later_all p x h ms) c (turn g m ms c s) (all_after ms h c' s') x s'.off
      (later-linked p x g m (member p g m ms c) s.alive) (all-linked ms h c' s')

-- the first member's prefix is the shared node
module _ (p : ℕ) (g : Graph) (m : Handle) (ms : List Handle) (c : Collapses p g (m ∷ ms)) where
  abbrev h : Graph
  h = alone p g m

  abbrev x : Handle
  x = prefix_of p g m

  pub first : Alone p g m (is_long p g m) x (suffix_of g m) h
  first = stands p g m (member p g m ms c)

  pub others : Collapses p h ms
  others = next p g m ms c h first.turn

  pub shares : Shares x h ms
  shares =
      record {
        alive = first.first.live;
        off = λ u k e. first.first_new (id_of u) (other-id m ms c.apart k) (member_stored p g m ms c (Memᴰ.tail k)) (sym e);
      }

  rest_after_lem : After p h ms (later_all p x h ms)
  rest_after_lem = all_after p x ms h others shares

  first_drawn : drawing (later_all p x h ms) ≡ planned p g.nodes (drawing g) (m ∷ ms)
  first_drawn =
      all_drawn p x ms h others shares
      ∙ ap₂ (λ (f : ℕ) (l : List Link). later_links_all p h.nodes x f l ms) first.turn.fresh first.drawn
      ∙ by_length p h.nodes g.nodes x ms (same-long p g m ms c h first.turn) _ _

  first-after : After p g (m ∷ ms) (collapsed p g (m ∷ ms))
  first-after = after_one_lem p g m ms h (later_all p x h ms) c first.turn rest_after_lem

  first_falls : live_letters (collapsed p g (m ∷ ms)).nodes + p * (length (m ∷ ms) - 1) ≡ live_letters g.nodes
  first_falls =
      let n : length (m ∷ ms) - 1 ≡ length ms = omega arith in
      ap (λ (k : ℕ). live_letters (collapsed p g (m ∷ ms)).nodes + p * k) n ∙ all_fall p x ms h others shares ∙ first.sum_same

  first-shared : First p g m (collapsed p g (m ∷ ms)) x
  first-shared = after_holds rest_after_lem x shares.off first.first

  first_leads : Leads p x g (m ∷ ms) (collapsed p g (m ∷ ms))
  first_leads =
      leads_one p g m ms h (later_all p x h ms) c first.turn rest_after_lem x shares.off
      first.rest_linked (all-linked p x ms h others shares)

module _ (p : ℕ) (g : Graph) where
  -- the nodes that no member is on are as they were, and the suffixes of long members stand beside them
  pub after : (ms : List Handle) → Collapses p g ms → After p g ms (collapsed p g ms)
  after [] c = after_none p g c
  after (m ∷ ms) c = first-after p g m ms c

  pub good_after : (ms : List Handle) → Collapses p g ms → good_graph (collapsed p g ms) ≡ true
  good_after ms c = (after ms c).good

  pub once_after : (ms : List Handle) → Collapses p g ms → ids_once (collapsed p g ms).nodes ≡ true
  once_after ms c = (after ms c).once

  -- as many nodes more as members are long
  pub count-after : (ms : List Handle) → Collapses p g ms → length (merged_nodes p g.nodes ms) ≡ length g.nodes + count (is_long p g) ms
  count-after ms c =
      nodes-count p g.nodes ms
      (all_of _ ms (λ m k. live-stored (id_of m) g.nodes (all_mem (λ u. live_node (id_of u) g.nodes) c.live k)))
      c.apart

  -- the links are those of the plan, with their marks
  plan_drawn : (ms : List Handle) → Collapses p g ms → drawing (collapsed p g ms) ≡ planned p g.nodes (drawing g) ms
  plan_drawn [] c = refl
  plan_drawn (m ∷ ms) c = first_drawn p g m ms c

  pub links_are : (ms : List Handle) → Collapses p g ms → (collapsed p g ms).links ≡ remark g.links (planned p g.nodes (map (dim g.nodes) g.links) ms)
  links_are ms c = sym (remarks (collapsed p g ms).nodes (marks_kept p g ms)) ∙ ap (remark g.links) (plan_drawn ms c)

  pub counts_same : (ms : List Handle) → Collapses p g ms → length (planned p g.nodes (map (dim g.nodes) g.links) ms) ≡ length (collapsed p g ms).links
  counts_same ms c = sym (ap length (plan_drawn ms c)) ∙ length-map (collapsed p g ms).links (dim (collapsed p g ms).nodes)

  -- every member but the first gives up p letters
  pub letters_fall : (ms : List Handle) → Collapses p g ms → 0 < length ms → live_letters (collapsed p g ms).nodes + p * (length ms - 1) ≡ live_letters g.nodes
  letters_fall [] c l = absurd (omega arith)
  letters_fall (m ∷ ms) c l = first_falls p g m ms c

  -- the shared node has the first member's first p letters, the suffixes are under `after`, and a link leads to each
  pub shared : (ms : List Handle) → Collapses p g ms → 0 < length ms → (d : Handle) → First p g (get_or ms 0 d) (collapsed p g ms) (shared_node p g ms)
  shared [] c l d = absurd (omega arith)
  shared (m ∷ ms) c l d = first-shared p g m ms c

  pub suffix_linked : (ms : List Handle) → Collapses p g ms → Leads p (shared_node p g ms) g ms (collapsed p g ms)
  suffix_linked [] c = λ i l. absurd (not-suc-le-zero l)
  suffix_linked (m ∷ ms) c = first_leads p g m ms c

  -- a live one, where no link had a mark
  pub suffix_live : (ms : List Handle) → Collapses p g ms → all unmarked_link g.links ≡ true → (i : ℕ) → i < length ms → (d : Handle) → is_long p g (get_or ms i d) ≡ true → live_linked (collapsed p g ms) (edge (shared_node p g ms) (suffix_at p g ms i d)) ≡ true
  suffix_live ms c u i l d e =
      unmarked-live (collapsed p g ms) (none_marked p g ms u) (edge (shared_node p g ms) (suffix_at p g ms i d)) (suffix_linked ms c i l d e)
      (and_both _ _ (shared ms c (omega arith) d).live ((after ms c).rest i l d e).live)
