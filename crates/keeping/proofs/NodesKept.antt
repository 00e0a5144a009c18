-- 26: the first fault of a rising list is the lowest one, so one more node changes it only where that is lower.
use Prim.Native.Nat.{ℕ, ◌+◌, ◌-◌, ◌*◌, ◌≤◌, ◌<◌}
use mathlib.Core.Path.{◌≡◌, refl, sym, ap, ap₂, ◌∙◌}
use mathlib.Core.Bool.{Bool, true, false, cond, ◌&&◌, ◌||◌}
use mathlib.Core.List.Memᴰ
use mathlib.Core.List.{List, [], ◌∷◌, map, Memᴰ}
use mathlib.Core.Logic.{⊎_elim, ◌⊎◌, inl, inr}
use native.Mathlib.Omega.{arith}
use borrow.Author.Tests.{ne_eqb, lt-ltb, le-ltb}
use lib.Dec.{eqb, ltb}
use lib.ListN.{length, take, drop, get_or, drop_of_length-le}
use Rattle.kit.proofs.Bools.{tests, not_true_false}
use Rattle.kit.proofs.Laws.{length-decode, left_none}
use Rattle.kit.proofs.Meaning.{all-at}
use Rattle.kit.proofs.Steps.{left_at}
use Rattle.letters.specs.Letters.{same_letter}
use Rattle.letters.specs.Sequences.{same_spelling}
use Rattle.letters.proofs.Sequences.{same_length}
use Rattle.handle.specs.declared.Handle.{Handle}
use Rattle.handle.specs.Handle.{max_id, id_of, pack, same_handle, before}
use Rattle.handle.proofs.Handles.{same_handle_lem, before_packed, id-pack}
use Rattle.store.specs.declared.Counts.{Counts}
use Rattle.store.specs.Graph.{Graph, node_layout, nodes_of}
use Rattle.store.specs.declared.Node.{Node}
use Rattle.store.specs.Views.{node_named, len_of, live_node, spell}
use Rattle.store.proofs.Fields.{node_at, left-node, node_is}
use Rattle.formed.specs.WellFormed.{good_node}
use Rattle.formed.proofs.Says.{node_says}
use Rattle.affix.specs.Reading.{Readable}
use Rattle.sides.specs.Sides.{insert_once, rising}
use Rattle.sides.proofs.Rising.{Sorted, sorted_nil, sorted_cons, rising_sorted}
use Rattle.events.specs.Events.{Rules}
use Rattle.rewriting.specs.Rewriting.{ruled}
use Rattle.scanning.specs.declared.Verdict.{Verdict}
use Rattle.scanning.specs.Rules.{verdict, or_then, unless}
use Rattle.keeping.specs.Kept.{node_kept, nodes_fault}

-- letter by letter
module _ (s t : List ℕ) (i : ℕ) where
  one_letter : i < length s → i < length t → same_spelling (drop i s) (drop i t) ≡ (same_letter (get_or s i 0) (get_or t i 0) && same_spelling (drop (i + 1) s) (drop (i + 1) t))
  one_letter h k = rw (left_at s i 0 h, left_at t i 0 k)

  pub letter_same : i < length s → i < length t → same_letter (get_or s i 0) (get_or t i 0) ≡ true → same_spelling (drop i s) (drop i t) ≡ same_spelling (drop (i + 1) s) (drop (i + 1) t)
  letter_same h k e = one_letter h k ∙ rw e

  pub letter_other : i < length s → i < length t → same_letter (get_or s i 0) (get_or t i 0) ≡ false → same_spelling (drop i s) (drop i t) ≡ false
  letter_other h k e = one_letter h k ∙ rw e

  pub letters_end : length s ≤ i → length t ≤ i → same_spelling (drop i s) (drop i t) ≡ true
  letters_end p q = rw (drop_of_length-le s {i = i} p, drop_of_length-le t {i = i} q)

pub other_length : (s t : List ℕ) → (length s ≡ length t → ⊥) → same_spelling s t ≡ false
other_length s t h = not_true_false (same_spelling s t) (λ e. h (same_length s t e))

-- what the code's tests of a node tell
module _ (old new : Graph) (t : Rules) (h : Handle) where
  pub rule_told : (id len : ℕ) {b : Bool} → id ≡ id_of h → len ≡ (node_named id old.nodes).len → b ≡ ruled id len t.rules → ruled (id_of h) (len_of old (id_of h)) t.rules ≡ b
  rule_told id len e f q =
      sym (q ∙ ap₂ (λ (i l : ℕ). ruled i l t.rules) e (f ∙ ap (λ (i : ℕ). (node_named i old.nodes).len) e))

  pub kept-ruled : ruled (id_of h) (len_of old (id_of h)) t.rules ≡ true → node_kept old new t h ≡ true
  kept-ruled r = rw r

  pub kept_dead : ruled (id_of h) (len_of old (id_of h)) t.rules ≡ false → live_node (id_of h) new.nodes ≡ false → node_kept old new t h ≡ false
  kept_dead r l = rw (r, l)

  pub kept-live : ruled (id_of h) (len_of old (id_of h)) t.rules ≡ false → live_node (id_of h) new.nodes ≡ true → node_kept old new t h ≡ same_spelling (spell old h) (spell new h)
  kept-live r l = rw (r, l)

-- 26 at a node, unless it stands already at a lower one
abbrev pub lower_fault : Verdict → ℕ → Verdict
lower_fault v id = cond (eqb v.number 0 || ltb id v.first) (verdict 26 id 0) v

-- what the code's test of the two tells
module _ (v : Verdict) (id : ℕ) where
  pub lower_none : v.number ≡ 0 → verdict 26 id 0 ≡ lower_fault v id
  lower_none e = rw e

  pub lower_some : (v.number ≡ 0 → ⊥) → id < v.first → verdict 26 id 0 ≡ lower_fault v id
  lower_some z h = rw (ne_eqb v.number 0 z, lt-ltb id v.first h)

  pub lower_stays : (v.number ≡ 0 → ⊥) → v.first ≤ id → v ≡ lower_fault v id
  lower_stays z h = rw (ne_eqb v.number 0 z, le-ltb id v.first h)

module _ (old new : Graph) (t : Rules) where
  abbrev fault : List Handle → Verdict
  fault hs = nodes_fault old new t hs

  -- none, or 26 at an id that is none of the lower ones
  abbrev From : ℕ → Verdict → Type 0
  From n w = (w.number ≡ 0) ⊎ ((w ≡ verdict 26 w.first 0) × (n ≤ w.first))

  fault_from_lem : (n : ℕ) (hs : List Handle) → ((u : Handle) → Memᴰ u hs → n ≤ id_of u) → From n (fault hs)
  fault_from_lem n [] low = inl refl
  fault_from_lem n (h ∷ hs) low = by (node_kept old new t h) (fault_from_lem n hs (λ u m. low u (Memᴰ.tail m)))
    where
      by : (b : Bool) → From n (fault hs) → From n (or_then (unless b 26 (id_of h) 0) (fault hs))
      by true f = f
      by false f = inr (refl, low h (Memᴰ.head refl))

  lower-first : (n : ℕ) (w : Verdict) → From n w → lower_fault w n ≡ verdict 26 n 0
  lower-first n w (inl e) = rw e
  lower-first n w (inr f) = by (eqb w.number 0) (ltb n w.first) refl
    where
      by : (z l : Bool) → ltb n w.first ≡ l → cond (z || l) (verdict 26 n 0) w ≡ verdict 26 n 0
      by true l e = refl
      by false true e = refl
      by false false e = let q : w.first ≡ n = omega (arith, tests, f.1) in f.0 ∙ ap (λ (k : ℕ). verdict 26 k 0) q

  -- where a lower one is at fault
  lower-not : (n m : ℕ) → m ≤ n → lower_fault (verdict 26 m 0) n ≡ verdict 26 m 0
  lower-not n m h = rw (le-ltb n m h)

  -- one more node
  abbrev more : Bool → Handle → Verdict → Verdict
  more kept x w = cond kept w (lower_fault w (id_of x))

  insert_fault : (x : Handle) {ys : List Handle} → Sorted ys → fault (insert_once x ys) ≡ more (node_kept old new t x) x (fault ys)
  insert_fault x sorted_nil = by (node_kept old new t x)
    where
      by : (b : Bool) → or_then (unless b 26 (id_of x) 0) (verdict 0 0 0) ≡ more b x (verdict 0 0 0)
      by true = refl
      by false = refl
  insert_fault x (sorted_cons {x = y} {xs = ys} low s) =
      by (before x y) (same_handle x y) (node_kept old new t x) (node_kept old new t y) (sym (before_packed x y)) refl refl refl (insert_fault x s)
    where
      under : ltb x.packed y.packed ≡ true → (u : Handle) → Memᴰ u (y ∷ ys) → id_of x ≤ id_of u
      under e u m =
          ⊎_elim
          (λ (q : u ≡ y). let p : u.packed ≡ y.packed = ap (λ (h : Handle). h.packed) q in omega (arith, tests))
          (λ k. omega (arith, tests, low u k))
          (Memᴰ.cases_cons m)

      by : (b e kx ky : Bool) → ltb x.packed y.packed ≡ b → same_handle x y ≡ e → node_kept old new t x ≡ kx → node_kept old new t y ≡ ky → fault (insert_once x ys) ≡ more kx x (fault ys) → fault (cond b (x ∷ y ∷ ys) (cond e (y ∷ ys) (y ∷ insert_once x ys))) ≡ more kx x (fault (y ∷ ys))
      by true e true ky p q f g go = rw f
      by true e false ky p q f g go =
          rw f (sym (lower-first (id_of x) (fault (y ∷ ys)) (fault_from_lem (id_of x) (y ∷ ys) (under p))))
      by false true true ky p q f g go = refl
      by false true false ky p q f g go =
          let r = same_handle_lem x y q in
          let z : node_kept old new t y ≡ false = ap (node_kept old new t) (sym r) ∙ f in
          let i : id_of y ≤ id_of x = omega (arith, ap id_of r) in
          rw z (sym (lower-not (id_of x) (id_of y) i))
      by false false kx true p q f g go = rw g go
      by false false true false p q f g go = rw g
      by false false false false p q f g go = rw g (sym (lower-not (id_of x) (id_of y) (omega (arith, tests))))

  -- the fault of the nodes from slot i on, and a turn of the loop, from slot i to the one before
  abbrev pub from_node : ℕ → List ℕ → ℕ → Verdict
  from_node n l i = fault (rising (map (λ r. pack r.id 0) (drop i (nodes_of n l))))

  pub no_fault : (n : ℕ) (l : List ℕ) → verdict 0 0 0 ≡ from_node n l n
  no_fault n l = sym (rw (left_none node_layout n n l (omega arith)))

  module _ (n : ℕ) (l : List ℕ) (i : ℕ) (v : Verdict) (low : 0 < i) (high : i ≤ n) (e : v ≡ from_node n l i) where
    abbrev here : Handle
    here = pack (get_or l (4 * (i - 1)) 0) 0

    turn : from_node n l (i - 1) ≡ more (node_kept old new t here) here v
    turn =
        let q : i - 1 + 1 ≡ i = omega arith in
        let step : drop (i - 1) (nodes_of n l) ≡ node_at l (i - 1) ∷ drop i (nodes_of n l) = left-node n (i - 1) l (omega arith) ∙ ap (λ (k : ℕ). node_at l (i - 1) ∷ drop k (nodes_of n l)) q in
        ap (λ (rs : List Node). fault (rising (map (λ r. pack r.id 0) rs))) step
        ∙ insert_fault here (rising_sorted (map (λ r. pack r.id 0) (drop i (nodes_of n l))))
        ∙ ap (more (node_kept old new t here) here) (sym e)

    pub turn-kept : node_kept old new t here ≡ true → v ≡ from_node n l (i - 1)
    turn-kept k = sym (turn ∙ rw k)

    pub turn-lost : node_kept old new t here ≡ false → lower_fault v (get_or l (4 * (i - 1)) 0) ≡ from_node n l (i - 1)
    turn-lost k = sym (turn ∙ rw k (ap (lower_fault v) (id-pack (get_or l (4 * (i - 1)) 0) 0 (omega arith))))

  -- links and steps do not come in
  pub nodes-bare : (hs : List Handle) → fault hs ≡ nodes_fault (record { nodes = old.nodes; letters = old.letters; links = [] }) (record { nodes = new.nodes; letters = new.letters; links = [] }) (record { rules = t.rules; steps = [] }) hs
  nodes-bare [] = refl
  nodes-bare (h ∷ hs) = ap (or_then (unless (node_kept old new t h) 26 (id_of h) 0)) (nodes-bare hs)

-- an id that is stored is in range
pub id_high : (nodes letters : List ℕ) (c : Counts) → Readable nodes letters c → (i : ℕ) → i < c.nodes → get_or nodes (4 * i) 0 ≤ max_id
id_high nodes letters c ok i h =
    let used = take c.letters letters in
    let d = node_at nodes i in
    let good : good_node used (get_or (nodes_of c.nodes nodes) i d) ≡ true = all-at (good_node used) (nodes_of c.nodes nodes) ok.nodes_good i (omega (arith, length-decode node_layout c.nodes nodes)) d in
    (node_says used d (ap (good_node used) (sym (node_is c.nodes i nodes h d)) ∙ good)).id_high
