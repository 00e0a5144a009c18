-- A line that is not refused for itself: what that tells of its fields, and which fields make it so.
use Prim.Native.Nat.{ℕ, suc, ◌+◌, ◌≤◌, ◌<◌}
use mathlib.Core.Path.{◌≡◌, refl, sym, ap, ◌∙◌}
use mathlib.Core.Bool.{Bool, true, false, cond, not, ◌||◌, and-false}
use mathlib.Core.List.{List, [], ◌∷◌, Memᴰ}
use mathlib.Core.Logic.{⊎_elim}
use native.Mathlib.Omega.{arith}
use borrow.Author.Tests.{eq-eqb, eqb-true, ltb-false, le-ltb}
use lib.Dec.{eqb, ltb}
use lib.ListN.{length, drop, get_or}
use lib.Seq.{drop-cons}
use Rattle.kit.specs.Loops.{any}
use Rattle.kit.proofs.Bools.{tests, and_both, and_true_r, not_of, or_cases}
use Rattle.kit.proofs.Meaning.{all_of}
use Rattle.letters.specs.Sequences.{all_letters}
use Rattle.handle.specs.declared.Handle.{Handle}
use Rattle.text.specs.Pieces.{fields_of, field, is_line}
use Rattle.text.specs.Names.{is_name}
use Rattle.text.specs.Steps.{is_sign, is_arrow, path_steps, step_sign, step_name, path_step_number, path_handles, walk_steps, walk_step_number, walk_handles}
use Rattle.text.specs.Refusal.{or_number, first_number}
use Rattle.text.specs.Fields.{filled, name_number, segment_fields, link_fields, path_fields, walk_fields, fields_number, shape_number, line_number, edge_of, handles_said}
use Rattle.gfa.specs.Narrowings.{narrow_segment, narrow_link, narrow_path, narrow_walk, is_read, narrow_line}

-- two numbers in order: 0 exactly when both are
or_zero_l : (n m : ℕ) → or_number n m ≡ 0 → n ≡ 0
or_zero_l n m e = by (eqb n 0) refl e
  where
    by : (b : Bool) → eqb n 0 ≡ b → cond b m n ≡ 0 → n ≡ 0
    by true p q = eqb-true n 0 p
    by false p q = q

or_zero_r : (n m : ℕ) → or_number n m ≡ 0 → m ≡ 0
or_zero_r n m e = by (eqb n 0) refl e
  where
    by : (b : Bool) → eqb n 0 ≡ b → cond b m n ≡ 0 → m ≡ 0
    by true p q = q
    by false p q = absurd (omega (arith, tests))

pub or_zero : (n m : ℕ) → n ≡ 0 → m ≡ 0 → or_number n m ≡ 0
or_zero n m p q = rw (p, q)

first-zero : (f : List ℕ → ℕ) {p : List ℕ} (ps : List (List ℕ)) → first_number f ps ≡ 0 → Memᴰ p ps → f p ≡ 0
first-zero f ps e (Memᴰ.head {x} {xs} q) = ap f q ∙ or_zero_l (f x) (first_number f xs) e
first-zero f ps e (Memᴰ.tail {x} {xs} m) = first-zero f xs (or_zero_r (f x) (first_number f xs) e) m

pub zero-first : (f : List ℕ → ℕ) (ps : List (List ℕ)) → ((p : List ℕ) → Memᴰ p ps → f p ≡ 0) → first_number f ps ≡ 0
zero-first f [] h = refl
zero-first f (p ∷ ps) h = or_zero (f p) (first_number f ps) (h p (Memᴰ.head refl)) (zero-first f ps (λ q m. h q (Memᴰ.tail m)))

-- each of the tests ts gives 0, the first of them at field k
abbrev pub ZerosAt : List (List ℕ → ℕ) → ℕ → List (List ℕ) → Type 0
ZerosAt [] k fs = Unit {0}
ZerosAt (t ∷ ts) k fs = (t (get_or fs k []) ≡ 0) × ZerosAt ts (suc k) fs

fields_zero : (ts : List (List ℕ → ℕ)) (k : ℕ) (fs : List (List ℕ)) → k + length ts ≤ length fs → fields_number ts (drop k fs) ≡ 0 → ZerosAt ts k fs
fields_zero [] k fs h e = tt
fields_zero (t ∷ ts) k fs h e =
    let n : k < length fs = omega arith in
    let q : or_number (t (get_or fs k [])) (fields_number ts (drop (suc k) fs)) ≡ 0 = sym (ap (fields_number (t ∷ ts)) (drop-cons fs k [] n)) ∙ e in
    (or_zero_l _ _ q, fields_zero ts (suc k) fs (omega arith) (or_zero_r (t (get_or fs k [])) _ q))

zero_fields : (ts : List (List ℕ → ℕ)) (k : ℕ) (fs : List (List ℕ)) → k + length ts ≤ length fs → ZerosAt ts k fs → fields_number ts (drop k fs) ≡ 0
zero_fields [] k fs h z = refl
zero_fields (t ∷ ts) k fs h z =
    let n : k < length fs = omega arith in
    ap (fields_number (t ∷ ts)) (drop-cons fs k [] n) ∙ or_zero _ _ z.0 (zero_fields ts (suc k) fs (omega arith) z.1)

module _ (ts : List (List ℕ → ℕ)) (line : List ℕ) where
  abbrev shape : Bool → Bool → ℕ
  shape few bad = cond few 1 (cond bad 1 (fields_number ts (drop 1 (fields_of line))))

  shape-zero : shape_number ts line ≡ 0 → ZerosAt ts 1 (fields_of line)
  unfolding shape_number
  shape-zero e = by (ltb (length (fields_of line)) (length ts + 1)) (any (eqb 13) line) refl e
    where
      by : (a b : Bool) → ltb (length (fields_of line)) (length ts + 1) ≡ a → shape a b ≡ 0 → ZerosAt ts 1 (fields_of line)
      by true b p q = absurd (omega arith)
      by false true p q = absurd (omega arith)
      by false false p q = fields_zero ts 1 (fields_of line) (omega (arith, ltb-false (length (fields_of line)) (length ts + 1) p)) q

  shape_clean : shape_number ts line ≡ 0 → any (eqb 13) line ≡ false
  unfolding shape_number
  shape_clean e = by (ltb (length (fields_of line)) (length ts + 1)) (any (eqb 13) line) e
    where
      by : (a b : Bool) → shape a b ≡ 0 → b ≡ false
      by true b q = absurd (omega arith)
      by false true q = absurd (omega arith)
      by false false q = refl

  pub zero-shape : 1 + length ts ≤ length (fields_of line) → any (eqb 13) line ≡ false → ZerosAt ts 1 (fields_of line) → shape_number ts line ≡ 0
  unfolding shape_number
  zero-shape h n z =
      let f = length (fields_of line) in
      by (ltb f (length ts + 1)) (any (eqb 13) line) (le-ltb f (length ts + 1) (omega arith)) n
    where
      by : (a b : Bool) → a ≡ false → b ≡ false → shape a b ≡ 0
      by a b p q = rw (p, q) (zero_fields ts 1 (fields_of line) h z)

-- a line is of one kind
other-line : (a b : ℕ) (line : List ℕ) → eqb a b ≡ false → is_line a line ≡ true → is_line b line ≡ false
other-line a b line d t =
    let e : get_or (field 0 line) 0 0 ≡ a = eqb-true _ a (and_true_r (eqb (length (field 0 line)) 1) (eqb (get_or (field 0 line) 0 0) a) t) in
    let f : eqb (get_or (field 0 line) 0 0) b ≡ false = ap (λ (n : ℕ). eqb n b) e ∙ d in
    rw f (and-false (eqb (length (field 0 line)) 1))

module _ (line : List ℕ) where
  abbrev kind : Bool → Bool → Bool → Bool → ℕ
  kind s l p w =
      cond s (shape_number segment_fields line)
      (cond l (shape_number link_fields line)
      (cond p (shape_number path_fields line)
      (cond w (shape_number walk_fields line)
      0)))

  pub segment_number : is_line 83 line ≡ true → line_number line ≡ shape_number segment_fields line
  unfolding line_number
  segment_number t = ap (λ (s : Bool). kind s (is_line 76 line) (is_line 80 line) (is_line 87 line)) t

  pub link_number_lem : is_line 76 line ≡ true → line_number line ≡ shape_number link_fields line
  unfolding line_number
  link_number_lem t = by (is_line 83 line) (is_line 76 line) (is_line 80 line) (is_line 87 line) (other-line 76 83 line refl t) t
    where
      by : (s l p w : Bool) → s ≡ false → l ≡ true → kind s l p w ≡ shape_number link_fields line
      by s l p w a b = rw (a, b)

  pub path_number_lem : is_line 80 line ≡ true → line_number line ≡ shape_number path_fields line
  unfolding line_number
  path_number_lem t =
      by (is_line 83 line) (is_line 76 line) (is_line 80 line) (is_line 87 line) (other-line 80 83 line refl t) (other-line 80 76 line refl t) t
    where
      by : (s l p w : Bool) → s ≡ false → l ≡ false → p ≡ true → kind s l p w ≡ shape_number path_fields line
      by s l p w a b c = rw (a, b, c)

  pub walk_number_lem : is_line 87 line ≡ true → line_number line ≡ shape_number walk_fields line
  unfolding line_number
  walk_number_lem t =
      by (is_line 83 line) (is_line 76 line) (is_line 80 line) (is_line 87 line)
      (other-line 87 83 line refl t) (other-line 87 76 line refl t) (other-line 87 80 line refl t) t
    where
      by : (s l p w : Bool) → s ≡ false → l ≡ false → p ≡ false → w ≡ true → kind s l p w ≡ shape_number walk_fields line
      by s l p w a b c d = rw (a, b, c, d)

  -- a line of no kind is passed over
  pub no_number : is_line 83 line ≡ false → is_line 76 line ≡ false → is_line 80 line ≡ false → is_line 87 line ≡ false → line_number line ≡ 0
  unfolding line_number
  no_number = by (is_line 83 line) (is_line 76 line) (is_line 80 line) (is_line 87 line)
    where
      by : (s l p w : Bool) → s ≡ false → l ≡ false → p ≡ false → w ≡ false → kind s l p w ≡ 0
      by s l p w a b c d = rw (a, b, c, d)

  -- the oriented nodes that it names
  abbrev handles : Bool → Bool → Bool → List Handle
  handles l p w =
      cond l ((edge_of line).from ∷ (edge_of line).to ∷ [])
      (cond p (path_handles (field 2 line))
      (cond w (walk_handles (field 6 line))
      []))

  pub link-handles : is_line 76 line ≡ true → handles_said line ≡ (edge_of line).from ∷ (edge_of line).to ∷ []
  unfolding handles_said
  link-handles t = ap (λ (l : Bool). handles l (is_line 80 line) (is_line 87 line)) t

  pub path_handles_lem : is_line 80 line ≡ true → handles_said line ≡ path_handles (field 2 line)
  unfolding handles_said
  path_handles_lem t = by (is_line 76 line) (is_line 80 line) (is_line 87 line) (other-line 80 76 line refl t) t
    where
      by : (l p w : Bool) → l ≡ false → p ≡ true → handles l p w ≡ path_handles (field 2 line)
      by l p w a b = rw (a, b)

  pub walk_handles_lem : is_line 87 line ≡ true → handles_said line ≡ walk_handles (field 6 line)
  unfolding handles_said
  walk_handles_lem t = by (is_line 76 line) (is_line 80 line) (is_line 87 line) (other-line 87 76 line refl t) (other-line 87 80 line refl t) t
    where
      by : (l p w : Bool) → l ≡ false → p ≡ false → w ≡ true → handles l p w ≡ walk_handles (field 6 line)
      by l p w a b c = rw (a, b, c)

-- what a number that is 0 says of the piece that it is about
one-test : (b : Bool) (n : ℕ) → cond b 0 (suc n) ≡ 0 → b ≡ true
one-test true n e = refl
one-test false n e = absurd (omega arith)

filled_some : (f : List ℕ) → filled f ≡ 0 → 1 ≤ length f
filled_some [] e = absurd (omega arith)
filled_some (b ∷ f) e = omega arith

name_zero : (f : List ℕ) → name_number f ≡ 0 → is_name f ≡ true
name_zero f e = one-test (is_name f) 1 (or_zero_r (filled f) (cond (is_name f) 0 2) e)

path_step_lem : (s : List ℕ) → path_step_number s ≡ 0 → is_name (step_name s) ≡ true
path_step_lem s e = by (is_sign (step_sign s)) (is_name (step_name s)) e
  where
    by : (a b : Bool) → ◌≡◌ {A = ℕ} (cond (not a) 1 (cond (not b) 2 0)) 0 → b ≡ true
    by true true q = refl
    by true false q = absurd (omega arith)
    by false b q = absurd (omega arith)

walk_step_lem : (s : List ℕ) → walk_step_number s ≡ 0 → is_name (drop 1 s) ≡ true
walk_step_lem s e = by (is_arrow (get_or s 0 0)) (eqb (length s) 1) (is_name (drop 1 s)) e
  where
    by : (a o b : Bool) → ◌≡◌ {A = ℕ} (cond (not a) 1 (cond o 1 (cond (not b) 2 0))) 0 → b ≡ true
    by true false true q = refl
    by true true b q = absurd (omega arith)
    by true false false q = absurd (omega arith)
    by false o b q = absurd (omega arith)

implied : (a b : Bool) → (a ≡ true → b ≡ true) → (not a || b) ≡ true
implied true b h = h refl
implied false b h = refl

-- a line that is read lies inside the narrowings
module _ (line : List ℕ) (e : line_number line ≡ 0) where
  pub segment_narrow : is_line 83 line ≡ true → narrow_segment line ≡ true
  segment_narrow t =
      let z = shape-zero segment_fields line (sym (segment_number line t) ∙ e) in
      and_both _ _ (name_zero (field 1 line) z.0) (one-test (all_letters (field 2 line)) 2 (or_zero_r (filled (field 2 line)) _ z.1.0))

  pub segment_some : is_line 83 line ≡ true → 1 ≤ length (field 2 line)
  segment_some t =
      let z = shape-zero segment_fields line (sym (segment_number line t) ∙ e) in
      filled_some (field 2 line) (or_zero_l (filled (field 2 line)) (cond (all_letters (field 2 line)) 0 3) z.1.0)

  pub link_narrow : is_line 76 line ≡ true → narrow_link line ≡ true
  link_narrow t =
      let z = shape-zero link_fields line (sym (link_number_lem line t) ∙ e) in
      and_both _ _ (and_both _ _ (name_zero (field 1 line) z.0) (name_zero (field 3 line) z.1.1.0)) (eq-eqb _ 0 z.1.1.1.1.0)

  pub path_narrow : is_line 80 line ≡ true → narrow_path line ≡ true
  path_narrow t =
      let z = shape-zero path_fields line (sym (path_number_lem line t) ∙ e) in
      let s = or_zero_r (filled (field 2 line)) (first_number path_step_number (path_steps (field 2 line))) z.1.0 in
      all_of _ (path_steps (field 2 line)) (λ p m. path_step_lem p (first-zero path_step_number (path_steps (field 2 line)) s m))

  pub walk_narrow : is_line 87 line ≡ true → narrow_walk line ≡ true
  walk_narrow t =
      let z = shape-zero walk_fields line (sym (walk_number_lem line t) ∙ e) in
      let s = or_zero_r (filled (field 6 line)) (first_number walk_step_number (walk_steps (field 6 line))) z.1.1.1.1.1.0 in
      all_of _ (walk_steps (field 6 line)) (λ p m. walk_step_lem p (first-zero walk_step_number (walk_steps (field 6 line)) s m))

  clean_segment : is_line 83 line ≡ true → any (eqb 13) line ≡ false
  clean_segment t = shape_clean segment_fields line (sym (segment_number line t) ∙ e)

  clean_link : is_line 76 line ≡ true → any (eqb 13) line ≡ false
  clean_link t = shape_clean link_fields line (sym (link_number_lem line t) ∙ e)

  clean_path : is_line 80 line ≡ true → any (eqb 13) line ≡ false
  clean_path t = shape_clean path_fields line (sym (path_number_lem line t) ∙ e)

  clean_walk : is_line 87 line ≡ true → any (eqb 13) line ≡ false
  clean_walk t = shape_clean walk_fields line (sym (walk_number_lem line t) ∙ e)

  clean : is_read line ≡ true → any (eqb 13) line ≡ false
  clean r =
      ⊎_elim
      (λ slp.
      ⊎_elim
      (λ sl. ⊎_elim clean_segment clean_link (or_cases (is_line 83 line) (is_line 76 line) sl))
      clean_path
      (or_cases (is_line 83 line || is_line 76 line) (is_line 80 line) slp))
      clean_walk
      (or_cases (is_line 83 line || is_line 76 line || is_line 80 line) (is_line 87 line) r)

  pub line_narrow : narrow_line line ≡ true
  line_narrow =
      and_both _ _
      (and_both _ _
      (and_both _ _
      (and_both _ _
      (implied (is_read line) _ (λ r. not_of _ (clean r)))
      (implied (is_line 83 line) _ segment_narrow))
      (implied (is_line 76 line) _ link_narrow))
      (implied (is_line 80 line) _ path_narrow))
      (implied (is_line 87 line) _ walk_narrow)
