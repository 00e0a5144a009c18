-- What lies inside the narrowings is read: a GFA 1 text inside them, whose graph fits, is read as that graph.
use Prim.Native.Nat.{ℕ, suc, ◌+◌, ◌≤◌}
use mathlib.Core.Path.{◌≡◌, refl, sym, ap, ap₂, ◌∙◌}
use mathlib.Core.Bool.{Bool, true, false, cond, not, ◌&&◌, ◌||◌}
use mathlib.Core.List.{List, [], ◌∷◌}
use native.Mathlib.Omega.{arith}
use borrow.Author.Tests.{eq-eqb, eqb-true, ne_eqb, ltb-true, ltb-false, not-true}
use lib.Dec.{eqb, ltb}
use lib.ListN.{length, drop, get_or, drop_of_length-le}
use lib.Seq.{drop-cons}
use Rattle.kit.specs.Decimal.{is_digit}
use Rattle.kit.specs.Loops.{all, any}
use Rattle.kit.proofs.Bools.{never, same_test, and_both, and_true_l, and_true_r}
use Rattle.kit.proofs.Meaning.{all_mem, all_of}
use Rattle.letters.specs.Sequences.{all_letters}
use Rattle.text.specs.Pieces.{lines_of, fields_of, field, is_line}
use Rattle.text.specs.Names.{is_name}
use Rattle.text.specs.Steps.{is_sign, is_arrow, path_steps, step_sign, step_name, path_step_number, walk_steps, walk_step_number}
use Rattle.text.specs.Fields.{filled, name_number, sign_number, letters_number, overlap_number, path_number, walk_number, segment_fields, link_fields, path_fields, walk_fields, line_number}
use Rattle.reading.specs.Reading.{Store, fits_in, going, goes_on, read_text}
use Rattle.gfa.specs.Accepted.{Accepted}
use Rattle.gfa.specs.Gfa1.{is_gfa_name, is_sequence, is_orientation, is_overlap, is_path_step, is_path_field, is_path_overlaps, is_place, is_walk_step, is_walk_field, some_of, fields_are, is_record, is_segment, is_link, is_path, is_walk, is_gfa_line}
use Rattle.gfa.specs.Narrowings.{narrow_segment, narrow_link, narrow_path, narrow_walk, is_read, narrow_line, graph_said, names_once, names_declared, inside}
use Rattle.gfa.proofs.ReadLines.{or_zero, zero-first, zero-shape, segment_number, link_number_lem, path_number_lem, walk_number_lem, no_number, line_narrow}
use Rattle.gfa.proofs.ReadSaid.{line-zero, read_accepted, accepted_read}

implies : (a b : Bool) → (not a || b) ≡ true → a ≡ true → b ≡ true
implies true b t e = t
implies false b t e = never (sym e)

-- each of the tests ts passes, the first of them at field k
abbrev TruesAt : List (List ℕ → Bool) → ℕ → List (List ℕ) → Type 0
TruesAt [] k fs = Unit {0}
TruesAt (t ∷ ts) k fs = (t (get_or fs k []) ≡ true) × TruesAt ts (suc k) fs

record FieldsAre (ts : List (List ℕ → Bool)) (k : ℕ) (fs : List (List ℕ)) : Type 0 where
  enough : k + length ts ≤ length fs
  each : TruesAt ts k fs

fields_are_lem : (ts : List (List ℕ → Bool)) (k : ℕ) (fs : List (List ℕ)) → k ≤ length fs → fields_are ts (drop k fs) ≡ true → FieldsAre ts k fs
fields_are_lem [] k fs h e = record { enough = omega arith; each = tt }
fields_are_lem (t ∷ ts) k fs h e = by (ltb k (length fs)) refl (fields_are_lem ts (suc k) fs)
  where
    by : (b : Bool) → ltb k (length fs) ≡ b → (suc k ≤ length fs → fields_are ts (drop (suc k) fs) ≡ true → FieldsAre ts (suc k) fs) → FieldsAre (t ∷ ts) k fs
    by false p go = never (sym e ∙ ap (fields_are (t ∷ ts)) (drop_of_length-le fs {i = k} (ltb-false k (length fs) p)))
    by true p go =
        let n = ltb-true k (length fs) p in
        let q : (t (get_or fs k []) && fields_are ts (drop (suc k) fs)) ≡ true = sym (ap (fields_are (t ∷ ts)) (drop-cons fs k [] n)) ∙ e in
        let r = go n (and_true_r (t (get_or fs k [])) _ q) in
        record { enough = omega (arith, r.enough); each = (and_true_l (t (get_or fs k [])) _ q, r.each) }

first_field : (fs : List (List ℕ)) → eqb (length (get_or fs 0 [])) 1 ≡ true → 1 ≤ length fs
first_field [] t = never (sym t)
first_field (f ∷ fs) t = omega arith

record_fields : (letter : ℕ) (ts : List (List ℕ → Bool)) (line : List ℕ) → is_record letter ts line ≡ true → FieldsAre ts 1 (fields_of line)
record_fields letter ts line t =
    let fs = fields_of line in
    let k = and_true_l (is_line letter line) (fields_are ts (drop 1 fs)) t in
    fields_are_lem ts 1 fs (first_field fs (and_true_l (eqb (length (field 0 line)) 1) _ k)) (and_true_r (is_line letter line) _ t)

-- a test that an empty field fails tells that the field is not empty
filled_by : (p : List ℕ → Bool) → p [] ≡ false → (f : List ℕ) → p f ≡ true → filled f ≡ 0
filled_by p n [] t = never (sym t ∙ n)
filled_by p n (b ∷ f) t = rw (ne_eqb (length (b ∷ f)) 0 (λ e. omega arith))

name_passes : (f : List ℕ) → is_name f ≡ true → name_number f ≡ 0
name_passes f t = or_zero (filled f) _ (filled_by is_name refl f t) (rw t)

sign_passes : (f : List ℕ) → is_orientation f ≡ true → sign_number f ≡ 0
sign_passes f t = rw t

letters-pass : (f : List ℕ) → is_sequence f ≡ true → all_letters f ≡ true → letters_number f ≡ 0
letters-pass f s t = or_zero (filled f) _ (filled_by is_sequence refl f s) (rw t)

path_passes : (f : List ℕ) → is_path_field f ≡ true → all (λ s. is_name (step_name s)) (path_steps f) ≡ true → path_number f ≡ 0
path_passes f t n =
    or_zero (filled f) _ (filled_by is_path_field refl f t)
    (zero-first path_step_number (path_steps f) (λ s m.
    ap₂ (λ (a b : Bool). cond (not a) 1 (cond (not b) 2 0))
    (and_true_l (is_sign (step_sign s)) _ (all_mem is_path_step t m))
    (all_mem (λ x. is_name (step_name x)) n m)))

-- a name stands after the arrow
long-step : (s : List ℕ) → is_name (drop 1 s) ≡ true → eqb (length s) 1 ≡ false
long-step [] t = refl
long-step (b ∷ []) t = never (sym t)
long-step (b ∷ c ∷ s) t = ne_eqb (length (b ∷ c ∷ s)) 1 (λ e. omega arith)

walk_passes : (f : List ℕ) → is_walk_field f ≡ true → all (λ s. is_name (drop 1 s)) (walk_steps f) ≡ true → walk_number f ≡ 0
walk_passes f t n =
    or_zero (filled f) _ (filled_by is_walk_field refl f t)
    (zero-first walk_step_number (walk_steps f) (λ s m.
    let g = all_mem is_walk_step (and_true_r (not (eqb (length f) 0)) _ t) m in
    let k = all_mem (λ x. is_name (drop 1 x)) n m in
    step s (is_arrow (get_or s 0 0)) (eqb (length s) 1) (is_name (drop 1 s)) (and_true_l (is_arrow (get_or s 0 0)) _ g) (long-step s k) k))
  where
    step : (s : List ℕ) (a o b : Bool) → a ≡ true → o ≡ false → b ≡ true → ◌≡◌ {A = ℕ} (cond (not a) 1 (cond o 1 (cond (not b) 2 0))) 0
    step s a o b p q r = rw (p, q, r)

-- the answers of a line's fields, one after another
also : {A B : Type 0} → A → B → A × B
also a b = (a, b)

module _ (line : List ℕ) (clean : any (eqb 13) line ≡ false) where
  segment_zero : is_line 83 line ≡ true → is_segment line ≡ true → narrow_segment line ≡ true → line_number line ≡ 0
  segment_zero t s n =
      let r = record_fields 83 (is_gfa_name ∷ is_sequence ∷ []) line s in
      segment_number line t
      ∙ zero-shape segment_fields line r.enough clean
      (also (name_passes (field 1 line) (and_true_l (is_name (field 1 line)) (all_letters (field 2 line)) n))
      (also (letters-pass (field 2 line) r.each.1.0 (and_true_r (is_name (field 1 line)) (all_letters (field 2 line)) n))
      tt))

  link-zero : is_line 76 line ≡ true → is_link line ≡ true → narrow_link line ≡ true → line_number line ≡ 0
  link-zero t s n =
      let r = record_fields 76 (is_gfa_name ∷ is_orientation ∷ is_gfa_name ∷ is_orientation ∷ is_overlap ∷ []) line s in
      let both = and_true_l (is_name (field 1 line) && is_name (field 3 line)) _ n in
      link_number_lem line t
      ∙ zero-shape link_fields line r.enough clean
      (also (name_passes (field 1 line) (and_true_l (is_name (field 1 line)) (is_name (field 3 line)) both))
      (also (sign_passes (field 2 line) r.each.1.0)
      (also (name_passes (field 3 line) (and_true_r (is_name (field 1 line)) (is_name (field 3 line)) both))
      (also (sign_passes (field 4 line) r.each.1.1.1.0)
      (also (eqb-true (overlap_number (field 5 line)) 0 (and_true_r (is_name (field 1 line) && is_name (field 3 line)) _ n))
      tt)))))

  path_zero : is_line 80 line ≡ true → is_path line ≡ true → narrow_path line ≡ true → line_number line ≡ 0
  path_zero t s n =
      let r = record_fields 80 (is_gfa_name ∷ is_path_field ∷ is_path_overlaps ∷ []) line s in
      path_number_lem line t
      ∙ zero-shape path_fields line r.enough clean
      (also (filled_by is_gfa_name refl (field 1 line) r.each.0)
      (also (path_passes (field 2 line) r.each.1.0 n)
      (also (filled_by is_path_overlaps refl (field 3 line) r.each.1.1.0)
      tt)))

  walk_zero : is_line 87 line ≡ true → is_walk line ≡ true → narrow_walk line ≡ true → line_number line ≡ 0
  walk_zero t s n =
      let r = record_fields 87 (is_gfa_name ∷ some_of is_digit ∷ is_gfa_name ∷ is_place ∷ is_place ∷ is_walk_field ∷ []) line s in
      walk_number_lem line t
      ∙ zero-shape walk_fields line r.enough clean
      (also (filled_by is_gfa_name refl (field 1 line) r.each.0)
      (also (filled_by (some_of is_digit) refl (field 2 line) r.each.1.0)
      (also (filled_by is_gfa_name refl (field 3 line) r.each.1.1.0)
      (also (filled_by is_place refl (field 4 line) r.each.1.1.1.0)
      (also (filled_by is_place refl (field 5 line) r.each.1.1.1.1.0)
      (also (walk_passes (field 6 line) r.each.1.1.1.1.1.0 n)
      tt))))))

-- a test of lines, kind by kind: the line passes the test of its own kind, and t besides
abbrev must : ℕ → List ℕ → Bool → Bool
must letter line b = not (is_line letter line) || b

record Kinds (line : List ℕ) (t s l p w : Bool) : Type 0 where
  besides : t ≡ true
  segment : is_line 83 line ≡ true → s ≡ true
  link : is_line 76 line ≡ true → l ≡ true
  path : is_line 80 line ≡ true → p ≡ true
  walk : is_line 87 line ≡ true → w ≡ true

kinds : (line : List ℕ) (t s l p w : Bool) → (t && must 83 line s && must 76 line l && must 80 line p && must 87 line w) ≡ true → Kinds line t s l p w
kinds line t s l p w e =
    let tslp = and_true_l (t && must 83 line s && must 76 line l && must 80 line p) _ e in
    let tsl = and_true_l (t && must 83 line s && must 76 line l) _ tslp in
    let ts = and_true_l (t && must 83 line s) _ tsl in
    record {
      besides = and_true_l t _ ts;
      segment = implies (is_line 83 line) s (and_true_r t _ ts);
      link = implies (is_line 76 line) l (and_true_r (t && must 83 line s) _ tsl);
      path = implies (is_line 80 line) p (and_true_r (t && must 83 line s && must 76 line l) _ tslp);
      walk = implies (is_line 87 line) w (and_true_r (t && must 83 line s && must 76 line l && must 80 line p) _ e);
    }

-- a line that is GFA 1 and inside the narrowings is not refused for itself
module _ (line : List ℕ) (gfa : is_gfa_line line ≡ true) (narrow : narrow_line line ≡ true) where
  abbrev tidy : Bool
  tidy = not (is_read line) || not (any (eqb 13) line)

  gfa_kinds : Kinds line true (is_segment line) (is_link line) (is_path line) (is_walk line)
  gfa_kinds = kinds line true (is_segment line) (is_link line) (is_path line) (is_walk line) gfa

  narrow_kinds : Kinds line tidy (narrow_segment line) (narrow_link line) (narrow_path line) (narrow_walk line)
  narrow_kinds = kinds line tidy (narrow_segment line) (narrow_link line) (narrow_path line) (narrow_walk line) narrow

  clean_line : is_read line ≡ true → any (eqb 13) line ≡ false
  clean_line r = not-true (any (eqb 13) line) (implies (is_read line) _ narrow_kinds.besides r)

  line-inside : line_number line ≡ 0
  line-inside = by (is_line 83 line) (is_line 76 line) (is_line 80 line) (is_line 87 line) refl refl refl refl
    where
      by : (s l p w : Bool) → is_line 83 line ≡ s → is_line 76 line ≡ l → is_line 80 line ≡ p → is_line 87 line ≡ w → line_number line ≡ 0
      by true l p w a b c d = segment_zero line (clean_line (rw a)) a (gfa_kinds.segment a) (narrow_kinds.segment a)
      by false true p w a b c d = link-zero line (clean_line (rw (a, b))) b (gfa_kinds.link b) (narrow_kinds.link b)
      by false false true w a b c d = path_zero line (clean_line (rw (a, b, c))) c (gfa_kinds.path c) (narrow_kinds.path c)
      by false false false true a b c d = walk_zero line (clean_line (rw (a, b, c, d))) d (gfa_kinds.walk d) (narrow_kinds.walk d)
      by false false false false a b c d = no_number line a b c d

inside_accepted : (l : Store) (text : List ℕ) → inside text ≡ true → fits_in l (graph_said text) ≡ true → Accepted l text
inside_accepted l text t f =
    let ls = lines_of text in
    let unrepeated = and_true_l (all is_gfa_line ls && all narrow_line ls && names_once text) (names_declared text) t in
    let both = and_true_l (all is_gfa_line ls && all narrow_line ls) (names_once text) unrepeated in
    let good = and_true_l (all is_gfa_line ls) (all narrow_line ls) both in
    let narrow = and_true_r (all is_gfa_line ls) (all narrow_line ls) both in
    record {
      numbers = all_of _ ls (λ line m. eq-eqb (line_number line) 0 (line-inside line (all_mem is_gfa_line good m) (all_mem narrow_line narrow m)));
      names_once = and_true_r (all is_gfa_line ls && all narrow_line ls) (names_once text) unrepeated;
      names_declared = and_true_r (all is_gfa_line ls && all narrow_line ls && names_once text) (names_declared text) t;
      room = f;
    }

pub inside-read : (l : Store) (text : List ℕ) → inside text ≡ true → fits_in l (graph_said text) ≡ true → read_text l text ≡ going (graph_said text)
inside-read l text t f = accepted_read l text (inside_accepted l text t f)

-- and of GFA 1 texts no other is read
module _ (l : Store) (text : List ℕ) (gfa : all is_gfa_line (lines_of text) ≡ true) where
  accepted_inside : Accepted l text → inside text ≡ true
  accepted_inside a =
      and_both _ _
      (and_both _ _ (and_both _ _ gfa (all_of narrow_line (lines_of text) (λ line m. line_narrow line (line-zero l text a m)))) a.names_once)
      a.names_declared

  pub gfa_read : goes_on (read_text l text) ≡ (inside text && fits_in l (graph_said text))
  gfa_read =
      same_test _ _
      (λ t. let a = read_accepted l text t in and_both _ _ (accepted_inside a) a.room)
      (λ t. ap goes_on (inside-read l text (and_true_l (inside text) _ t) (and_true_r (inside text) _ t)))
