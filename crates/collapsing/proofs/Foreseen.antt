-- The events that the code makes ahead are those of the collapse: a member's length and the fresh ids are known before.
use Prim.Native.Nat.{ℕ, ◌+◌, ◌-◌}
use mathlib.Core.Path.{◌≡◌, refl, ap, ap₂, ◌∙◌}
use mathlib.Core.Bool.{cond}
use mathlib.Core.List.{List, [], ◌∷◌, ◌++◌, Memᴰ}
use lib.Dec.{ltb}
use Rattle.handle.specs.declared.Handle.{Handle}
use Rattle.handle.specs.Handle.{id_of}
use Rattle.store.specs.Graph.{Graph}
use Rattle.store.specs.declared.Node.{Node}
use Rattle.store.specs.Views.{node_named}
use Rattle.events.specs.Events.{Event, event, step_to, turn_steps}
use Rattle.events.specs.declared.Step.{Step}
use Rattle.split.specs.Split.{fresh_id}
use Rattle.merging.specs.Merging.{is_forward, alone, prefix_of, later}
use Rattle.merging.specs.Plan.{fresh_after, suffix_by}
use Rattle.merged.proofs.Members.{Collapses, same_len}
use Rattle.merged.proofs.Theorems.{Shares, turn, left, still, first, others, shares}
use Rattle.collapsing.specs.Making.{event_for, later_events, events_for}
use Rattle.longer.specs.Ahead.{later_events_by, first_event_by, events_by}

module _ (p : ℕ) (x : Handle) where
  abbrev walk_of : ℕ → Handle → ℕ → List Step
  walk_of fresh m len = cond (ltb p len) (step_to x p ∷ step_to (suffix_by fresh m) (len - p) ∷ []) (step_to x p ∷ [])

  abbrev event_of : ℕ → Handle → ℕ → Event
  event_of fresh m len = event (id_of m) len (cond (is_forward m) (walk_of fresh m len) (turn_steps (walk_of fresh m len)))

  -- nodes are looked at only to tell the members' lengths
  by_length : (nodes nodes' : List Node) (ms : List Handle) → ((m : Handle) → Memᴰ m ms → (node_named (id_of m) nodes).len ≡ (node_named (id_of m) nodes').len) → (fresh : ℕ) → later_events_by p nodes x fresh ms ≡ later_events_by p nodes' x fresh ms
  by_length nodes nodes' [] e fresh = refl
  by_length nodes nodes' (m ∷ ms) e fresh =
      let q = e m (Memᴰ.head refl) in
      ap₂ (λ (a : Event) (es : List Event). a ∷ es) (ap (event_of fresh m) q)
      (by_length nodes nodes' ms (λ u k. e u (Memᴰ.tail k)) (fresh_after p nodes fresh m)
      ∙ ap (λ (n : ℕ). later_events_by p nodes' x (cond (ltb p n) (fresh + 1) fresh) ms) q)

  later_are : (ms : List Handle) (g : Graph) → Collapses p g ms → Shares x g ms → later_events p x g ms ≡ later_events_by p g.nodes x (fresh_id g) ms
  later_are [] g c s = refl
  later_are (m ∷ ms) g c s =
      let h = later p x g m in
      let t = turn p x g m ms c s in
      ap (λ (es : List Event). event_for p x g m ∷ es)
      (later_are ms h (left p x g m ms c s) (still p x g m ms c s)
      ∙ ap (λ (f : ℕ). later_events_by p h.nodes x f ms) t.fresh
      ∙ by_length h.nodes g.nodes ms (λ u k. same_len p g m ms c h t k) (fresh_after p g.nodes (fresh_id g) m))

pub events_are : (p : ℕ) (g : Graph) (ms : List Handle) → Collapses p g ms → events_for p g ms ≡ events_by p g.nodes ms
events_are p g [] c = refl
events_are p g (m ∷ ms) c =
    let h = alone p g m in
    let x = prefix_of p g m in
    let t = (first p g m ms c).turn in
    ap (λ (es : List Event). first_event_by p g.nodes m ++ es)
    (later_are p x ms h (others p g m ms c) (shares p g m ms c)
    ∙ ap (λ (f : ℕ). later_events_by p h.nodes x f ms) t.fresh
    ∙ by_length p x h.nodes g.nodes ms (λ u k. same_len p g m ms c h t k) (fresh_after p g.nodes (fresh_id g) m))
