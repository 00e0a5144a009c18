-- What collapses one after another keep: the store well formed, its links without marks; and by how much the live letters
-- fall.
use Prim.Native.Nat.{◌+◌, ◌<◌}
use mathlib.Core.Path.{◌≡◌}
use mathlib.Core.Bool.{true}
use mathlib.Core.List.{List, [], ◌∷◌}
use native.Mathlib.Omega.{arith}
use borrow.Author.Tests.{eqb-true}
use lib.Dec.{eqb}
use lib.ListN.{length}
use Rattle.kit.specs.Loops.{all}
use Rattle.kit.proofs.Bools.{and_true_l, and_true_r}
use Rattle.store.specs.Views.{live_letters}
use Rattle.formed.specs.WellFormed.{good_graph, ids_once, unmarked_link}
use Rattle.merged.proofs.Members.{Collapses}
use Rattle.merged.proofs.Kept.{none_marked}
use Rattle.merged.proofs.Theorems.{good_after, once_after, letters_fall}
use Rattle.collapsing.specs.Making.{State, members_number}
use Rattle.collapsing.proofs.Before.{tested, passed_members}
use Rattle.sequences.specs.Sequences.{Collapse, after_one, after_all, allowed, lowers_all}

-- it gives none of 8 to 11
abbrev pub Allowed : State → Collapse → Type 0
Allowed s k = members_number k.p s.graph k.members ≡ 0

module _ (s : State) (k : Collapse) (ks : List Collapse) (ok : allowed s (k ∷ ks) ≡ true) where
  first-allowed : Allowed s k
  first-allowed =
      let n = members_number k.p s.graph k.members in
      eqb-true n 0 (and_true_l (eqb n 0) (allowed (after_one s k) ks) ok)

  others-allowed : allowed (after_one s k) ks ≡ true
  others-allowed = and_true_r (eqb (members_number k.p s.graph k.members) 0) (allowed (after_one s k) ks) ok

-- what each keeps, all keep
pub kept-all : (P : State → Type 0) → ((s : State) (k : Collapse) → Allowed s k → P s → P (after_one s k)) → (s : State) (ks : List Collapse) → allowed s ks ≡ true → P s → P (after_all s ks)
kept-all P one s [] ok h = h
kept-all P one s (k ∷ ks) ok h =
    kept-all P one (after_one s k) ks (others-allowed s k ks ok) (one s k (first-allowed s k ks ok) h)

-- neither 13 nor 5
pub record Sound (s : State) : Type 0 where
  pub good : good_graph s.graph ≡ true
  pub once : ids_once s.graph.nodes ≡ true

module _ (s : State) (k : Collapse) (ok : Allowed s k) (h : Sound s) where
  pub collapses : Collapses k.p s.graph k.members
  collapses = passed_members k.p s.graph k.members h.good h.once ok

  pub sound-one : Sound (after_one s k)
  sound-one =
      record {
        good = good_after k.p s.graph k.members collapses;
        once = once_after k.p s.graph k.members collapses;
      }

  some : 0 < length k.members
  some = omega (arith, (tested k.p s.graph k.members ok).two)

falls : (s : State) (ks : List Collapse) → allowed s ks ≡ true → Sound s → live_letters (after_all s ks).graph.nodes + lowers_all ks ≡ live_letters s.graph.nodes
falls s [] ok h = omega arith
falls s (k ∷ ks) ok h =
    let one = first-allowed s k ks ok in
    omega (
      arith,
      falls (after_one s k) ks (others-allowed s k ks ok) (sound-one s k one h),
      letters_fall k.p s.graph k.members (collapses s k one h) (some s k one h),
    )

module _ (s : State) (ks : List Collapse) (good : good_graph s.graph ≡ true) (once : ids_once s.graph.nodes ≡ true) (ok : allowed s ks ≡ true) where
  abbrev sound : Sound s
  sound = record { good = good; once = once }

  pub good_all : good_graph (after_all s ks).graph ≡ true
  good_all = (kept-all Sound sound-one s ks ok sound).good

  pub once-all : ids_once (after_all s ks).graph.nodes ≡ true
  once-all = (kept-all Sound sound-one s ks ok sound).once

  -- by the sum of what each lowers them
  pub letters_fall_all : live_letters (after_all s ks).graph.nodes + lowers_all ks ≡ live_letters s.graph.nodes
  letters_fall_all = falls s ks ok sound

-- no link gets a mark
pub none_marked-all : (s : State) (ks : List Collapse) → all unmarked_link s.graph.links ≡ true → all unmarked_link (after_all s ks).graph.links ≡ true
none_marked-all s [] t = t
none_marked-all s (k ∷ ks) t = none_marked-all (after_one s k) ks (none_marked k.p s.graph k.members t)
