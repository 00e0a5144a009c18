-- No turn of the driver takes a record away, so what a later one stores is all that is seen of an earlier one.
use Prim.Native.Nat.{ℕ, zero, suc, ◌+◌, ◌≤◌}
use mathlib.Core.Path.{◌≡◌, refl}
use mathlib.Core.Bool.{Bool, true, false, cond}
use mathlib.Core.List.{List, [], ◌∷◌}
use native.Mathlib.Omega.{arith}
use lib.Dec.{eqb}
use lib.ListN.{length, length-map, length-append}
use Rattle.handle.specs.declared.Handle.{Handle}
use Rattle.handle.specs.Handle.{id_of}
use Rattle.store.specs.Graph.{Graph, node_layout, link_layout}
use Rattle.store.specs.declared.Link.{Link}
use Rattle.events.specs.Events.{rule_layout, step_layout}
use Rattle.split.specs.Split.{split}
use Rattle.merging.specs.Merging.{is_long, cut_at, alone, prefix_of, mark_node, later, later_all, collapsed}
use Rattle.merged.proofs.Kept.{Kept, kept_new, kept_old, marks_kept}
use Rattle.collapsing.specs.Making.{State, Room, events_for, state_after, collapse_number}
use Rattle.collapsing.specs.Outcome.{Lent, holding}
use Rattle.longer.proofs.Appending.{rule-count, step_count}
use Rattle.longer.proofs.Front.{front-front}
use Rattle.choosing.specs.Scan.{next_group}
use Rattle.driver.specs.Drive.{Run, ran, or_else, prefix_len, drive_for}

-- the nodes of a collapse
module _ (p : ℕ) where
  alone-more : (g : Graph) (m : Handle) → length g.nodes ≤ length (alone p g m).nodes
  alone-more g m = by (is_long p g m)
    where
      by : (b : Bool) → length g.nodes ≤ length (cond b (split (id_of m) (cut_at p g m) g) g).nodes
      by true = simp (length-append, length-map) (omega arith)
      by false = omega arith

  all_more : (x : Handle) (ms : List Handle) (g : Graph) → length g.nodes ≤ length (later_all p x g ms).nodes
  all_more x [] g = omega arith
  all_more x (m ∷ ms) g =
      omega (arith, alone-more g m, length-map (alone p g m).nodes (mark_node (id_of (prefix_of p g m))), all_more x ms (later p x g m))

  nodes-more : (g : Graph) (ms : List Handle) → length g.nodes ≤ length (collapsed p g ms).nodes
  nodes-more g [] = omega arith
  nodes-more g (m ∷ ms) = omega (arith, alone-more g m, all_more (prefix_of p g m) ms (alone p g m))

kept_more : {old rs : List Link} → Kept old rs → length old ≤ length rs
kept_more (kept_new t) = omega arith
kept_more (kept_old q k) = omega (arith, kept_more k)

-- no record is lost from s to t
pub record Grown (s t : State) : Type 0 where
  pub nodes : length s.graph.nodes ≤ length t.graph.nodes
  pub links : length s.graph.links ≤ length t.graph.links
  pub rules : length s.events.rules ≤ length t.events.rules
  pub steps : length s.events.steps ≤ length t.events.steps

grown_none : (s : State) → Grown s s
grown_none s = record { nodes = omega arith; links = omega arith; rules = omega arith; steps = omega arith }

grown-then : {s t u : State} → Grown s t → Grown t u → Grown s u
grown-then g h =
    record {
      nodes = omega (arith, g.nodes, h.nodes);
      links = omega (arith, g.links, h.links);
      rules = omega (arith, g.rules, h.rules);
      steps = omega (arith, g.steps, h.steps);
    }

pub grown-after : (p : ℕ) (s : State) (ms : List Handle) → Grown s (state_after p s ms)
grown-after p s ms =
    record {
      nodes = nodes-more p s.graph ms;
      links = kept_more (marks_kept p s.graph ms);
      rules = omega (arith, rule-count s.events (events_for p s.graph ms));
      steps = omega (arith, step_count s.events (events_for p s.graph ms));
    }

-- what holds of the three ends of a turn holds of what the driver gives
pub each_end : (P : Run → Type 0) (b d : Bool) (x y z : Run) → (b ≡ true → P x) → (b ≡ false → d ≡ true → P y) → (b ≡ false → d ≡ false → P z) → P (or_else b x (λ a. or_else d y (λ e. z)))
each_end P true d x y z f g h = f refl
each_end P false true x y z f g h = g refl refl
each_end P false false x y z f g h = h refl refl

pub drive-grown : (k : ℕ) (room : Room) (protected : List ℕ) (made : ℕ) (s : State) → Grown s (drive_for k room protected made s).state
drive-grown zero room protected made s = grown_none s
drive-grown (suc k) room protected made s =
    let ms = next_group s.graph protected in
    let p = prefix_len protected s in
    let n = collapse_number room p s ms in
    each_end (λ r. Grown s r.state) (eqb (length ms) 0) (eqb n 0) (ran 0 made s) (drive_for k room protected (made + 1) (state_after p s ms)) (ran n made s)
    (λ e. grown_none s)
    (λ e q. grown-then (grown-after p s ms) (drive-grown k room protected (made + 1) (state_after p s ms)))
    (λ e q. grown_none s)

-- stored after it, t leaves nothing of s
pub holding-last : (s t : State) (l : Lent) → Grown s t → holding t (holding s l) ≡ holding t l
holding-last s t l g =
    rw (
      front-front node_layout s.graph.nodes t.graph.nodes l.nodes g.nodes,
      front-front link_layout s.graph.links t.graph.links l.links g.links,
      front-front rule_layout s.events.rules t.events.rules l.rules g.rules,
      front-front step_layout s.events.steps t.events.steps l.steps g.steps,
    )
