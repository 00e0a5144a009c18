-- The numbers in the order in which the code finds them, and the outcome that follows.
use Prim.Native.Nat.{ℕ, ◌*◌, ◌≤◌}
use mathlib.Core.Path.{◌≡◌, refl}
use mathlib.Core.Bool.{Bool, true, false, cond, not, ◌&&◌}
use mathlib.Core.List.{List}
use native.Mathlib.Omega.{arith}
use borrow.Author.Tests.{eq-eqb, ltb-true, ltb-false, le-leb, lt-leb, leb-true, leb-false}
use lib.Dec.{eqb, leb, ltb}
use lib.ListN.{length}
use Rattle.handle.specs.declared.Handle.{Handle}
use Rattle.collapsing.specs.Making.{State, Room, state_after, group_number, collapse_number, fits}
use Rattle.collapsing.specs.Ready.{links_fit, ready_number}
use Rattle.collapsing.specs.Put.{link_room}

-- 7 for the links is all that is left
abbrev early : Bool → ℕ → Bool → Bool → Bool → ℕ
early b n x y z = cond b n (cond (not (x && (y && z))) 7 0)

abbrev late : Bool → ℕ → Bool → Bool → Bool → Bool → ℕ
late b n x l y z = cond b n (cond (not ((x && l) && (y && z))) 7 0)

refusing : (b : Bool) (n : ℕ) (x l y z : Bool) → (early b n x y z ≡ 0 → ⊥) → late b n x l y z ≡ early b n x y z
refusing true n x l y z h = refl
refusing false n true l true true h = absurd (h refl)
refusing false n true true true false h = refl
refusing false n true false true false h = refl
refusing false n true true false z h = refl
refusing false n true false false z h = refl
refusing false n false l y z h = refl

passing : (b : Bool) (n : ℕ) (x l y z : Bool) → (b ≡ true → n ≡ 0 → ⊥) → early b n x y z ≡ 0 → late b n x l y z ≡ cond l 0 7
passing true n x l y z g e = absurd (g refl e)
passing false n true true true true g e = refl
passing false n true false true true g e = refl
passing false n true l true false g e = absurd (omega arith)
passing false n true l false z g e = absurd (omega arith)
passing false n false l y z g e = absurd (omega arith)

nonzero : (n : ℕ) → not (eqb n 0) ≡ true → n ≡ 0 → ⊥
nonzero n t e = let q : not (eqb n 0) ≡ false = rw (eq-eqb n 0 e) in let z : ◌≡◌ {A = ℕ} 0 1 = cc in absurd (omega arith)

module _ (room : Room) (p : ℕ) (s : State) (ms : List Handle) where
  abbrev after : State
  after = state_after p s ms

  abbrev fit_nodes : Bool
  fit_nodes = fits 4 65536 (length after.graph.nodes) room.nodes

  abbrev fit_rules : Bool
  fit_rules = fits 4 65536 (length after.events.rules) room.rules

  abbrev fit_steps : Bool
  fit_steps = fits 2 262144 (length after.events.steps) room.steps

  pub number-early : (ready_number room p s ms ≡ 0 → ⊥) → collapse_number room p s ms ≡ ready_number room p s ms
  number-early h = refusing (not (eqb (group_number p s ms) 0)) (group_number p s ms) fit_nodes (links_fit room after) fit_rules fit_steps h

  pub number-late : ready_number room p s ms ≡ 0 → collapse_number room p s ms ≡ cond (links_fit room (state_after p s ms)) 0 7
  number-late e = passing (not (eqb (group_number p s ms) 0)) (group_number p s ms) fit_nodes (links_fit room after) fit_rules fit_steps (nonzero (group_number p s ms)) e

-- the plan's room
pub room_least : (len : ℕ) → (link_room len ≤ len) × (link_room len ≤ 393216)
room_least len = by (ltb len 393216) refl
  where
    by : (b : Bool) → ltb len 393216 ≡ b → (cond b len 393216 ≤ len) × (cond b len 393216 ≤ 393216)
    by true t = (omega arith, omega (arith, ltb-true len 393216 t))
    by false t = (omega (arith, ltb-false len 393216 t), omega arith)

pub room_holds : (n len : ℕ) → n ≤ 131072 → 3 * n ≤ len → 3 * n ≤ link_room len
room_holds n len h k = by (ltb len 393216)
  where
    by : (b : Bool) → 3 * n ≤ cond b len 393216
    by true = k
    by false = omega arith

pub fits-plan : (n len : ℕ) → leb (3 * n) (link_room len) ≡ fits 3 131072 n len
fits-plan n len = by (leb n 131072) (leb (3 * n) len) refl refl
  where
    by : (b d : Bool) → leb n 131072 ≡ b → leb (3 * n) len ≡ d → leb (3 * n) (link_room len) ≡ (b && d)
    by true true s t = le-leb (3 * n) (link_room len) (room_holds n len (leb-true n 131072 s) (leb-true (3 * n) len t))
    by true false s t = lt-leb (3 * n) (link_room len) (omega (arith, leb-false (3 * n) len t, (room_least len).0))
    by false d s t = lt-leb (3 * n) (link_room len) (omega (arith, leb-false n 131072 s, (room_least len).1))
