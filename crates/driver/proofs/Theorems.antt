-- What the driver's next group is: 01 "Prefix, groups, collapse", driver. It is one that must be collapsed, and where it is
-- empty none remains; its collapse at full prefix length gives none of 8, 9 and 10.
use Prim.Native.Nat.{ℕ, ◌≤◌}
use mathlib.Core.Path.{◌≡◌, refl, sym, ap, ◌∙◌}
use mathlib.Core.Bool.{Bool, true, false, cond, not}
use mathlib.Core.List.Memᴰ
use mathlib.Core.List.{List, [], ◌∷◌, Memᴰ}
use native.Mathlib.Omega.{arith}
use borrow.Author.Tests.{ne_eqb, le-ltb}
use lib.ListN.{length}
use Rattle.kit.specs.Loops.{lines}
use Rattle.kit.proofs.Bools.{never, and_true_r}
use Rattle.kit.proofs.Meaning.{all_of, none_mem, first_some}
use Rattle.kit.proofs.Members.{in_lines, of_lines}
use Rattle.letters.specs.Letters.{same_letter}
use Rattle.handle.specs.declared.Handle.{Handle}
use Rattle.handle.specs.Handle.{id_of}
use Rattle.store.specs.Graph.{Graph}
use Rattle.store.specs.Views.{live_node, letter_of}
use Rattle.sides.specs.Sides.{right_of, same_left}
use Rattle.affix.specs.Prefix.{members_live, members_once, group_prefix}
use Rattle.groups.specs.Groups.{groups_of}
use Rattle.groups.proofs.Groups.{group_member, of_groups, same-group}
use Rattle.collapsing.specs.Making.{State, same_lefts, needs_high, members_number}
use Rattle.choosing.specs.Scan.{scan_order, must_collapse, next_group}
use Rattle.driver.specs.Drive.{prefix_len}
use Rattle.choosing.proofs.Along.{scan_live, live_scan}
use Rattle.choosing.proofs.Trying.{Must, must_says, says_must, group-live}
use Rattle.choosing.proofs.Firsts.{none_must, some_must}

module _ (g : Graph) (protected : List ℕ) where
  -- all that are looked at
  abbrev groups : List (List Handle)
  groups = lines (groups_of g) (scan_order g.nodes)

  -- where the answer is none, no live node has a group, either way round, that must be collapsed
  pub none_left : length (next_group g protected) ≡ 0 → (v : Handle) → live_node (id_of v) g.nodes ≡ true → (ms : List Handle) → Memᴰ ms (groups_of g v) → must_collapse g protected ms ≡ false
  none_left z v live ms m =
      none_mem (must_collapse g protected) (none_must g protected groups z) (in_lines (groups_of g) (live_scan g.nodes v live) m)

  pub none_remains : length (next_group g protected) ≡ 0 → (v : Handle) → live_node (id_of v) g.nodes ≡ true → (ms : List Handle) → Memᴰ ms (groups_of g v) → Must g protected ms → ⊥
  none_remains z v live ms m k = never (sym (says_must g protected ms k) ∙ none_left z v live ms m)

  -- an answer is a group of a live node, and must be collapsed
  pub next-must : (ms : List Handle) → next_group g protected ≡ ms → 1 ≤ length ms → (must_collapse g protected ms ≡ true) × (v : Handle) × (live_node (id_of v) g.nodes ≡ true) × Memᴰ ms (groups_of g v)
  next-must ms e h =
      let s = first_some (must_collapse g protected) [] groups (some_must g protected groups (λ z. omega (arith, ap length e))) in
      let r = of_lines (groups_of g) (scan_order g.nodes) s.0 in
      (sym (ap (must_collapse g protected) e) ∙ s.1, r.0, scan_live g.nodes r.1, Memᴰ.cast (sym e) r.2)

  -- a group's members are live, and have one set of live left neighbours
  group-all-live : (v : Handle) (ms : List Handle) → Memᴰ ms (groups_of g v) → members_live g.nodes ms ≡ true
  group-all-live v ms m =
      let s = of_groups g v m in
      all_of (λ h. live_node (id_of h) g.nodes) ms (λ h k. group-live g v s.0 h (rw s.2 k))

  group_lefts : (v : Handle) (ms : List Handle) → Memᴰ ms (groups_of g v) → same_lefts g ms ≡ true
  group_lefts v [] m = refl
  group_lefts v (u ∷ ms) m =
      let s = of_groups g v m in
      let near : (h : Handle) → Memᴰ h (u ∷ ms) → Memᴰ h (right_of g v) = λ h k. ((group_member g (right_of g v) s.0 h).0 (rw s.2 k)).0 in
      all_of (same_left g u) ms (λ w k. and_true_r (same_letter (letter_of g u 0) (letter_of g w 0)) (same_left g u w) ((same-group g v u w (near u (Memᴰ.head refl)) (near w (Memᴰ.tail k))).0 (u ∷ ms, m, Memᴰ.head refl, Memᴰ.tail k)))

  -- what a collapse of it asks
  pub record Collapses (ms : List Handle) : Type 0 where
    pub two : 2 ≤ length ms
    pub live : members_live g.nodes ms ≡ true
    pub once : members_once ms ≡ true
    pub prefix : 1 ≤ length (group_prefix g ms)
    pub lefts : same_lefts g ms ≡ true

  pub next_collapses : 1 ≤ length (next_group g protected) → Collapses (next_group g protected)
  next_collapses h =
      let ms = next_group g protected in
      let r = next-must ms refl h in
      let k = must_says g protected ms r.0 in
      record { two = k.two; live = group-all-live r.1 ms r.3; once = k.once; prefix = k.prefix; lefts = group_lefts r.1 ms r.3 }

-- the tests of 8, 9 and 10, passed
past : (a b d e f h : Bool) (n : ℕ) → a ≡ false → b ≡ true → d ≡ true → e ≡ false → f ≡ false → h ≡ true → cond a 8 (cond (not b) 8 (cond (not d) 8 (cond e 9 (cond f 9 (cond (not h) 10 n))))) ≡ n
past a b d e f h n i j k l m o = rw (i, j, k, l, m, o)

pub never_8_9_10 : (protected : List ℕ) (s : State) → 1 ≤ length (next_group s.graph protected) → let ms = next_group s.graph protected in let p = prefix_len protected s in members_number p s.graph ms ≡ cond (needs_high p s.graph ms) 11 0
never_8_9_10 protected s h =
    let ms = next_group s.graph protected in
    let p = prefix_len protected s in
    let k = next_collapses s.graph protected h in
    past _ _ _ _ _ _ (cond (needs_high p s.graph ms) 11 0) (le-ltb (length ms) 2 k.two) k.live k.once (ne_eqb p 0 (λ z. omega (arith, k.prefix))) (le-ltb p p (omega arith)) k.lefts
