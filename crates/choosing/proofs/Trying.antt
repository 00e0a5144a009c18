-- What the tests of a group tell; a group that holds no node twice is no larger than the graph; how a group is handed out.
use Prim.Native.Nat.{ℕ, suc, ◌≤◌, ◌<◌}
use mathlib.Core.Path.{◌≡◌, refl, sym, ap, ◌∙◌}
use mathlib.Core.Bool.{Bool, true, false, cond, not, ◌&&◌, ◌||◌}
use mathlib.Core.List.{List, [], ◌∷◌, Memᴰ}
use native.Mathlib.Omega.{arith}
use borrow.Author.Tests.{eq-eqb, eqb-true, leb-true, le-leb, lt-leb, not-true}
use lib.Dec.{eqb, leb}
use lib.ListN.{length, take, drop}
use lib.Seq.{take_at}
use Rattle.kit.specs.Loops.{any, keep}
use Rattle.kit.specs.Put.{Put}
use Rattle.kit.proofs.Bools.{never, and_true_l, and_true_r, and_both, not_of, not_true_false}
use Rattle.kit.proofs.Meaning.{any_mem, any_some, none_mem, distinct-first, distinct-rest}
use Rattle.kit.proofs.Members.{in_keep}
use Rattle.kit.proofs.Writes.{sets-front}
use Rattle.handle.specs.declared.Handle.{Handle}
use Rattle.handle.specs.Handle.{id_of}
use Rattle.store.specs.Graph.{Graph}
use Rattle.store.specs.declared.Node.{Node}
use Rattle.store.specs.Views.{named, stored, live_node}
use Rattle.sides.specs.Sides.{right_of}
use Rattle.sides.proofs.Sides.{side_live}
use Rattle.affix.specs.Prefix.{members_once, group_prefix, handles_of}
use Rattle.groups.specs.Groups.{group_of, numbers}
use Rattle.groups.specs.Search.{of_key}
use Rattle.groups.proofs.Groups.{group_member}
use Rattle.groups.proofs.Placing.{length-arranged, length-written}
use Rattle.choosing.specs.Scan.{is_protected, must_collapse}
use Rattle.choosing.specs.Search.{tried, Front}
use Rattle.store.proofs.Lookups.{live-stored}

-- what the tests of a group of two or more tell, one after another
module _ (g : Graph) (protected : List ℕ) (ms : List Handle) (two : 2 ≤ length ms) where
  pub passed-twice : members_once ms ≡ false → must_collapse g protected ms ≡ false
  passed-twice f = rw (le-leb 2 (length ms) two, f)

  module _ (once : members_once ms ≡ true) where
    pub passed_protected : any (is_protected protected) ms ≡ true → must_collapse g protected ms ≡ false
    passed_protected t = rw (le-leb 2 (length ms) two, once, t)

    pub passed_prefix : any (is_protected protected) ms ≡ false → must_collapse g protected ms ≡ leb 1 (length (group_prefix g ms))
    passed_prefix f = rw (le-leb 2 (length ms) two, once, f)

-- and what all of them together
pub record Must (g : Graph) (protected : List ℕ) (ms : List Handle) : Type 0 where
  pub two : 2 ≤ length ms
  pub once : members_once ms ≡ true
  pub unprotected : any (is_protected protected) ms ≡ false
  pub prefix : 1 ≤ length (group_prefix g ms)

pub must_says : (g : Graph) (protected : List ℕ) (ms : List Handle) → must_collapse g protected ms ≡ true → Must g protected ms
must_says g protected ms t =
    let a : Bool = leb 2 (length ms) in
    let b : Bool = not (any (is_protected protected) ms) in
    let d : Bool = leb 1 (length (group_prefix g ms)) in
    let abc = and_true_l (a && members_once ms && b) d t in
    let ab = and_true_l (a && members_once ms) b abc in
    record {
      two = leb-true 2 (length ms) (and_true_l a (members_once ms) ab);
      once = and_true_r a (members_once ms) ab;
      unprotected = not-true (any (is_protected protected) ms) (and_true_r (a && members_once ms) b abc);
      prefix = leb-true 1 (length (group_prefix g ms)) (and_true_r (a && members_once ms && b) d t);
    }

pub says_must : (g : Graph) (protected : List ℕ) (ms : List Handle) → Must g protected ms → must_collapse g protected ms ≡ true
says_must g protected ms k =
    and_both _ _
    (and_both _ _ (and_both _ _ (le-leb 2 (length ms) k.two) k.once) (not_of _ k.unprotected))
    (le-leb 1 (length (group_prefix g ms)) k.prefix)

-- members as numbers, and back
pub numbers_back : (ms : List Handle) → handles_of (numbers ms) ≡ ms
numbers_back [] = refl
numbers_back (m ∷ ms) = ap (λ (t : List Handle). m ∷ t) (numbers_back ms)

-- without one that is there, fewer are left
fewer : {A : Type 0} (p : A → Bool) (rs : List A) → length (keep (λ a. not (p a)) rs) ≤ length rs
fewer p [] = omega arith
fewer p (a ∷ rs) = by (p a) (fewer p rs)
  where
    by : (b : Bool) → length (keep (λ a. not (p a)) rs) ≤ length rs → length (cond (not b) (a ∷ keep (λ a. not (p a)) rs) (keep (λ a. not (p a)) rs)) ≤ suc (length rs)
    by true h = omega arith
    by false h = omega arith

fewer_by_one : {A : Type 0} (p : A → Bool) (rs : List A) → any p rs ≡ true → length (keep (λ a. not (p a)) rs) < length rs
fewer_by_one p [] t = never (sym t)
fewer_by_one p (a ∷ rs) t = by (p a) t (fewer_by_one p rs)
  where
    by : (b : Bool) → (b || any p rs) ≡ true → (any p rs ≡ true → length (keep (λ a. not (p a)) rs) < length rs) → length (cond (not b) (a ∷ keep (λ a. not (p a)) rs) (keep (λ a. not (p a)) rs)) < suc (length rs)
    by true q go = omega (arith, fewer p rs)
    by false q go = omega (arith, go q)

-- members that are stored, none of them twice, are no more than the nodes
pub once-fits : (ms : List Handle) (rs : List Node) → members_once ms ≡ true → ((m : Handle) → Memᴰ m ms → stored (id_of m) rs ≡ true) → length ms ≤ length rs
once-fits [] rs t h = omega arith
once-fits (m ∷ ms) rs t h =
    let same : Handle → Handle → Bool = λ u v. eqb (id_of u) (id_of v) in
    let others : List Node = keep (λ r. not (named (id_of m) r)) rs in
    omega (arith, fewer_by_one (named (id_of m)) rs (h m (Memᴰ.head refl)), once-fits ms others (distinct-rest same m ms t) (λ n k. other n k (any_some (named (id_of n)) rs (h n (Memᴰ.tail k)))))
  where
    other : (n : Handle) → Memᴰ n ms → (r : Node) × Memᴰ r rs × (named (id_of n) r ≡ true) → stored (id_of n) (keep (λ r. not (named (id_of m) r)) rs) ≡ true
    other n k r =
        let same : Handle → Handle → Bool = λ u v. eqb (id_of u) (id_of v) in
        let apart : named (id_of m) r.0 ≡ false = not_true_false (named (id_of m) r.0) (λ e. never (sym (eq-eqb (id_of m) (id_of n) (sym (eqb-true r.0.id (id_of m) e) ∙ eqb-true r.0.id (id_of n) r.2)) ∙ none_mem (same m) (distinct-first same m ms t) k)) in
        any_mem (named (id_of n)) (in_keep (λ r. not (named (id_of m) r)) r.1 (not_of _ apart)) r.2

module _ (g : Graph) (v u : Handle) where
  abbrev group : List Handle
  group = group_of g (right_of g v) u

  pub group-live : (m : Handle) → Memᴰ m group → live_node (id_of m) g.nodes ≡ true
  group-live m k = side_live false g v ((group_member g (right_of g v) u m).0 k).0

  group-fits : members_once group ≡ true → length group ≤ length g.nodes
  group-fits t = once-fits group g.nodes t (λ m k. live-stored (id_of m) g.nodes (group-live m k))

  module _ (protected : List ℕ) where
    pub tried-not : {l : List ℕ} → must_collapse g protected group ≡ false → Front (tried g protected v u) l 0
    tried-not f = rw f (record { size = refl; here = refl })

    pub tried-small : {l : List ℕ} → length (of_key g v u) < 2 → Front (tried g protected v u) l 0
    tried-small h = tried-not (rw (lt-leb 2 (length group) (omega (arith, length-arranged (of_key g v u)))))

    pub tried_wide : {l : List ℕ} (room : ℕ) → length g.nodes ≤ room → room < length (of_key g v u) → Front (tried g protected v u) l 0
    tried_wide room h k =
        tried-not (not_true_false (must_collapse g protected group) (λ t. absurd (omega (arith, group-fits (must_says g protected group t).once, length-arranged (of_key g v u)))))

  -- n members were written to the front of m
  module _ (m l : List ℕ) (n next : ℕ) (p : Put m 0 (numbers group) l next) (e : n ≡ length (of_key g v u)) (room : n ≤ length m) where
    written : take n l ≡ numbers group
    written =
        let k : length (numbers group) ≡ n = omega (arith, length-written (of_key g v u)) in
        ap (take n) (p.bytes ∙ sets-front m (numbers group) (omega arith)) ∙ take_at (numbers group) (drop (length (numbers group)) m) n k

    pub written-size : length (take n l) ≡ n
    written-size = omega (arith, ap length written, length-written (of_key g v u))

    pub written_back : handles_of (take n l) ≡ group
    written_back = ap handles_of written ∙ numbers_back group

    pub tried_taken : (protected : List ℕ) → must_collapse g protected group ≡ true → Front (tried g protected v u) l n
    tried_taken protected t = rw t (record { size = omega (arith, length-arranged (of_key g v u)); here = written })
