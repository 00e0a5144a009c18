-- GFA 1 lines, from the public specification (version 1.1: H, S, L, P, W). The comments have its regular expressions.
use Rattle.std.specs.Prelude.{ℕ, Bool, true, false, cond, not, ◌&&◌, ◌||◌, List, [], ◌∷◌, eqb, leb, length, drop, get_or}
use Rattle.kit.specs.Decimal.{is_digit}
use Rattle.kit.specs.Loops.{all, any}
use Rattle.text.specs.Bytes.{bytes}
use Rattle.text.specs.Pieces.{fields_of, is_line}
use Rattle.text.specs.Steps.{is_sign, is_arrow, path_steps, step_sign, step_name, walk_steps}

abbrev pub between : ℕ → ℕ → ℕ → Bool
between low high b = leb low b && leb b high

abbrev pub is_one : ℕ → List ℕ → Bool
is_one b f = eqb (length f) 1 && eqb (get_or f 0 0) b

abbrev pub some_of : (ℕ → Bool) → List ℕ → Bool
some_of p f = not (eqb (length f) 0) && all p f

-- [!-~]
abbrev pub is_graphic : ℕ → Bool
is_graphic b = between 33 126 b

-- [!-)+-<>-~][!-~]*: graphic, the first neither * nor =
abbrev pub is_gfa_name : List ℕ → Bool
is_gfa_name f = some_of is_graphic f && not (eqb (get_or f 0 0) 42) && not (eqb (get_or f 0 0) 61)

-- [A-Za-z]
abbrev pub is_alphabetic : ℕ → Bool
is_alphabetic b = between 65 90 b || between 97 122 b

-- \*|[A-Za-z=.]+
abbrev pub is_sequence : List ℕ → Bool
is_sequence f = is_one 42 f || some_of (λ b. is_alphabetic b || eqb b 61 || eqb b 46) f

-- [+-]
abbrev pub is_orientation : List ℕ → Bool
is_orientation f = eqb (length f) 1 && is_sign (get_or f 0 0)

-- ([0-9]+[MIDNSHPX=])+: `digits` says whether the byte before was a digit
abbrev pub cigar_from : Bool → List ℕ → Bool
cigar_from digits [] = not digits
cigar_from digits (b ∷ bs) =
    cond (is_digit b) (cigar_from true bs) (digits && any (eqb b) (bytes "MIDNSHPX=") && cigar_from false bs)

-- \*|([0-9]+[MIDNSHPX=])+
abbrev pub is_overlap : List ℕ → Bool
is_overlap f = is_one 42 f || (not (eqb (length f) 0) && cigar_from false f)

-- names and orientations between commas
abbrev pub is_path_step : List ℕ → Bool
is_path_step s = is_sign (step_sign s) && is_gfa_name (step_name s)

abbrev pub is_path_field : List ℕ → Bool
is_path_field f = all is_path_step (path_steps f)

-- \*, or overlaps between commas
abbrev pub is_path_overlaps : List ℕ → Bool
is_path_overlaps f = is_one 42 f || all is_overlap (path_steps f)

-- \*|[0-9]+
abbrev pub is_place : List ℕ → Bool
is_place f = is_one 42 f || some_of is_digit f

-- ([><][!-;=?-~]+)+
abbrev pub is_walk_step : List ℕ → Bool
is_walk_step s = is_arrow (get_or s 0 0) && some_of is_graphic (drop 1 s)

abbrev pub is_walk_field : List ℕ → Bool
is_walk_field f = not (eqb (length f) 0) && all is_walk_step (walk_steps f)

-- optional fields, TAG:TYPE:VALUE; [A-Za-z][A-Za-z0-9]:[AifZJHB]:. and more. What a value may be by its type is not looked at
abbrev pub is_tag : List ℕ → Bool
is_tag f =
    leb 6 (length f) && is_alphabetic (get_or f 0 0) && (is_alphabetic (get_or f 1 0) || is_digit (get_or f 1 0)) && eqb (get_or f 2 0) 58
    && any (eqb (get_or f 3 0)) (bytes "AifZJHB")
    && eqb (get_or f 4 0) 58

-- required fields by what each must be, then tags
abbrev pub fields_are : List (List ℕ → Bool) → List (List ℕ) → Bool
fields_are [] fs = all is_tag fs
fields_are (t ∷ ts) [] = false
fields_are (t ∷ ts) (f ∷ fs) = t f && fields_are ts fs

abbrev pub is_record : ℕ → List (List ℕ → Bool) → List ℕ → Bool
is_record letter ts line = is_line letter line && fields_are ts (drop 1 (fields_of line))

-- H, tags
abbrev pub is_header : List ℕ → Bool
is_header line = is_record 72 [] line

-- S, name, sequence
abbrev pub is_segment : List ℕ → Bool
is_segment line = is_record 83 (is_gfa_name ∷ is_sequence ∷ []) line

-- L, from, orientation, to, orientation, overlap
abbrev pub is_link : List ℕ → Bool
is_link line = is_record 76 (is_gfa_name ∷ is_orientation ∷ is_gfa_name ∷ is_orientation ∷ is_overlap ∷ []) line

-- P, name, segment names, overlaps
abbrev pub is_path : List ℕ → Bool
is_path line = is_record 80 (is_gfa_name ∷ is_path_field ∷ is_path_overlaps ∷ []) line

-- W, sample, haplotype index, sequence, start, end, walk
abbrev pub is_walk : List ℕ → Bool
is_walk line = is_record 87 (is_gfa_name ∷ some_of is_digit ∷ is_gfa_name ∷ is_place ∷ is_place ∷ is_walk_field ∷ []) line

-- a line that is S, L, P or W by its first field is one of its kind
abbrev pub is_gfa_line : List ℕ → Bool
is_gfa_line line =
    (not (is_line 83 line) || is_segment line) && (not (is_line 76 line) || is_link line) && (not (is_line 80 line) || is_path line)
    && (not (is_line 87 line) || is_walk line)
