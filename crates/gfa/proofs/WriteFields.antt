-- What is said of a line by its fields: the fields of S and L lines that are written.
use Prim.Native.Nat.{ℕ, zero, suc, ◌≤◌}
use mathlib.Core.Path.{◌≡◌, refl}
use mathlib.Core.Bool.{Bool, true, false, cond, not, ◌&&◌, ◌||◌}
use mathlib.Core.List.{List, [], ◌∷◌}
use native.Mathlib.Omega.{arith}
use borrow.Author.Tests.{ne_eqb, le-leb}
use lib.Dec.{eqb, leb}
use lib.ListN.{length, get_or}
use Rattle.kit.specs.Decimal.{decimal, is_digit}
use Rattle.kit.specs.Loops.{all, any}
use Rattle.kit.proofs.Bools.{tests, and_both, and_true_l, and_true_r, or_left, or_right, not_of}
use Rattle.kit.proofs.Decimal.{decimal-digits, decimal_some}
use Rattle.kit.proofs.Meaning.{all_mem, all_of, all-at}
use Rattle.kit.proofs.Table.{at, every}
use Rattle.letters.specs.Letters.{complement_of, is_letter}
use Rattle.letters.specs.Sequences.{all_letters}
use Rattle.letters.proofs.Laws.{letter_small}
use Rattle.handle.specs.declared.Handle.{Handle}
use Rattle.handle.specs.Handle.{dir_of, pack}
use Rattle.handle.specs.Edge.{edge}
use Rattle.text.specs.Bytes.{bytes}
use Rattle.text.specs.Pieces.{fields_of, field, is_line}
use Rattle.text.specs.Names.{is_name, name_id}
use Rattle.text.specs.Steps.{sign_dir}
use Rattle.text.specs.Fields.{edge_of, handles_said}
use Rattle.writing.specs.Marks.{sign_of}
use Rattle.gfa.specs.Gfa1.{is_one, is_graphic, is_gfa_name, is_sequence, is_orientation, is_segment, is_link, is_gfa_line, is_alphabetic}
use Rattle.gfa.specs.Narrowings.{narrow_line}

-- digits and letters are graphic
digit_graphic : (b : ℕ) → is_digit b ≡ true → is_graphic b ≡ true
digit_graphic b t =
    let lo = and_true_l (leb 48 b) (leb b 57) t in
    let hi = and_true_r (leb 48 b) (leb b 57) t in
    and_both _ _ (le-leb 33 b (omega (arith, tests))) (le-leb b 126 (omega (arith, tests)))

pub decimal_graphic : (n : ℕ) → all is_graphic (decimal n) ≡ true
decimal_graphic n = all_of is_graphic (decimal n) (λ b m. digit_graphic b (all_mem is_digit (decimal-digits n) m))

abbrev zeros : ℕ → List ℕ
zeros zero = []
zeros (suc n) = 0 ∷ zeros n

abbrev letter_test : ℕ → ℕ → Bool
letter_test b x = not (is_letter b) || (is_alphabetic b && is_graphic b)

letters-pass : every letter_test 0 (zeros 256) ≡ true
unfolding complement_of is_letter
letters-pass = refl

letter_both : (b : ℕ) → is_letter b ≡ true → (is_alphabetic b && is_graphic b) ≡ true
letter_both b t = rw t at (at letter_test (zeros 256) letters-pass b (letter_small b t))

pub letters_graphic : (s : List ℕ) → all_letters s ≡ true → all is_graphic s ≡ true
letters_graphic s t = all_of is_graphic s (λ b m. and_true_r (is_alphabetic b) (is_graphic b) (letter_both b (all_mem is_letter t m)))

-- what is written in a field is what GFA 1 asks of it
pub decimal_gfa : (n : ℕ) → is_gfa_name (decimal n) ≡ true
decimal_gfa n =
    let b = get_or (decimal n) 0 0 in
    let d = all-at is_digit (decimal n) (decimal-digits n) 0 (decimal_some n) 0 in
    let lo = and_true_l (leb 48 b) (leb b 57) d in
    let hi = and_true_r (leb 48 b) (leb b 57) d in
    and_both _ _
    (and_both _ _
    (and_both _ _ (not_of _ (ne_eqb (length (decimal n)) 0 (λ e. omega (arith, decimal_some n)))) (decimal_graphic n))
    (not_of _ (ne_eqb b 42 (λ e. omega (arith, tests)))))
    (not_of _ (ne_eqb b 61 (λ e. omega (arith, tests))))

abbrev in_sequence : ℕ → Bool
in_sequence b = is_alphabetic b || eqb b 61 || eqb b 46

letter_in : (b : ℕ) → is_letter b ≡ true → in_sequence b ≡ true
letter_in b t = or_left (is_alphabetic b || eqb b 61) _ (or_left (is_alphabetic b) _ (and_true_l (is_alphabetic b) (is_graphic b) (letter_both b t)))

pub letters_gfa : (s : List ℕ) → 1 ≤ length s → all_letters s ≡ true → is_sequence s ≡ true
letters_gfa s h t =
    or_right (is_one 42 s) _
    (and_both _ _ (not_of _ (ne_eqb (length s) 0 (λ e. omega arith))) (all_of in_sequence s (λ b m. letter_in b (all_mem is_letter t m))))

pub sign_gfa : (h : Handle) → is_orientation (sign_of h ∷ []) ≡ true
sign_gfa h = elim (eqb (dir_of h) 0) as (λ t. is_orientation (cond t 43 45 ∷ []) ≡ true) [ true ↦ refl | false ↦ refl ]

pub sign_graphic : (h : Handle) → is_graphic (sign_of h) ≡ true
sign_graphic h = elim (eqb (dir_of h) 0) as (λ t. is_graphic (cond t 43 45) ≡ true) [ true ↦ refl | false ↦ refl ]

-- a written S line, by its fields: name and letters
pub record SegmentLine (line name letters : List ℕ) : Type 0 where
  pub fields : fields_of line ≡ bytes "S" ∷ name ∷ letters ∷ []
  pub no_return : any (eqb 13) line ≡ false
  pub name_gfa : is_gfa_name name ≡ true
  pub sequence_gfa : is_sequence letters ≡ true
  pub name_is : is_name name ≡ true
  pub letters_are : all_letters letters ≡ true

module _ {line n s : List ℕ} (l : SegmentLine line n s) where
  pub segment_is : is_line 83 line ≡ true
  segment_is = rw l.fields

  pub segment_no_link : is_line 76 line ≡ false
  segment_no_link = rw l.fields

  pub segment_gfa : is_segment line ≡ true
  segment_gfa = rw (l.fields, l.name_gfa, l.sequence_gfa)

  pub segment_line_gfa : is_gfa_line line ≡ true
  segment_line_gfa = rw (l.fields, l.name_gfa, l.sequence_gfa)

  pub segment_narrow : narrow_line line ≡ true
  segment_narrow = rw (l.fields, l.no_return, l.name_is, l.letters_are)

  pub segment_handles : handles_said line ≡ []
  unfolding handles_said
  segment_handles = rw l.fields

  pub segment_name : field 1 line ≡ n
  segment_name = rw l.fields

  pub segment_letters : field 2 line ≡ s
  segment_letters = rw l.fields

-- a written L line: first name and sign, second name and sign
pub record LinkLine (line from sign to second : List ℕ) : Type 0 where
  pub fields : fields_of line ≡ bytes "L" ∷ from ∷ sign ∷ to ∷ second ∷ bytes "0M" ∷ []
  pub no_return : any (eqb 13) line ≡ false
  pub from_gfa : is_gfa_name from ≡ true
  pub first_sign : is_orientation sign ≡ true
  pub to_gfa : is_gfa_name to ≡ true
  pub second_sign : is_orientation second ≡ true
  pub from_is : is_name from ≡ true
  pub to_is : is_name to ≡ true

module _ {line a s b t : List ℕ} (l : LinkLine line a s b t) where
  pub link_is : is_line 76 line ≡ true
  link_is = rw l.fields

  pub link_no_segment : is_line 83 line ≡ false
  link_no_segment = rw l.fields

  pub link_gfa : is_link line ≡ true
  link_gfa = rw (l.fields, l.from_gfa, l.first_sign, l.to_gfa, l.second_sign)

  pub link_line_gfa : is_gfa_line line ≡ true
  link_line_gfa = rw (l.fields, l.from_gfa, l.first_sign, l.to_gfa, l.second_sign)

  pub link_narrow : narrow_line line ≡ true
  link_narrow = rw (l.fields, l.no_return, l.from_is, l.to_is)

  pub link-edge : edge_of line ≡ edge (pack (name_id a) (sign_dir (get_or s 0 0))) (pack (name_id b) (sign_dir (get_or t 0 0)))
  link-edge = rw l.fields

  pub link-handles : handles_said line ≡ (edge_of line).from ∷ (edge_of line).to ∷ []
  unfolding handles_said
  link-handles = rw l.fields
