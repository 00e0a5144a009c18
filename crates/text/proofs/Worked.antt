-- 01's lines and their numbers, on small ones.
use mathlib.Core.Path.{◌≡◌, refl}
use mathlib.Core.Bool.{true, false}
use mathlib.Core.List.{[], ◌∷◌, map}
use Rattle.letters.specs.Letters.{complement_of, is_letter}
use Rattle.text.specs.Bytes.{bytes}
use Rattle.text.specs.Pieces.{lines_of, fields_of, is_line}
use Rattle.text.specs.Names.{is_name}
use Rattle.text.specs.Steps.{walk_steps}
use Rattle.text.specs.Header.{header_of}
use Rattle.text.specs.Fields.{line_number, handles_said, shape_number}

-- the last newline may be missing
newline_last : lines_of (bytes "a\nb\n") ≡ bytes "a" ∷ bytes "b" ∷ [] ∷ []
newline_last = refl

newline_missing : lines_of (bytes "a\nb") ≡ bytes "a" ∷ bytes "b" ∷ []
newline_missing = refl

fields : fields_of (bytes "S\t1\t") ≡ bytes "S" ∷ bytes "1" ∷ [] ∷ []
fields = refl

whole_first-field : map (is_line 83) (bytes "S\t1\tA" ∷ bytes "SS\t1\tA" ∷ bytes "S" ∷ bytes "" ∷ bytes "s\t1" ∷ []) ≡ true ∷ false ∷ true ∷ false ∷ false ∷ []
whole_first-field = refl

names : map is_name (bytes "1" ∷ bytes "4294967295" ∷ bytes "4294967296" ∷ bytes "0" ∷ bytes "01" ∷ bytes "+1" ∷ bytes "" ∷ []) ≡ true ∷ true ∷ false ∷ false ∷ false ∷ false ∷ false ∷ []
names = refl

walk : walk_steps (bytes ">1<23>") ≡ bytes ">1" ∷ bytes "<23" ∷ bytes ">" ∷ []
walk = refl

segments : map line_number (bytes "S\t1\tAcN" ∷ bytes "S\t1" ∷ bytes "S\t1\tA\t\r" ∷ bytes "S\t\tA" ∷ bytes "S\t01\t" ∷ bytes "S\t1\t" ∷ bytes "S\t1\t*" ∷ bytes "SS" ∷ []) ≡ 0 ∷ 1 ∷ 1 ∷ 1 ∷ 2 ∷ 1 ∷ 3 ∷ 0 ∷ []
unfolding line_number shape_number is_letter complement_of
segments = refl

links : map line_number (bytes "L\t1\t+\t2\t-\t0M" ∷ bytes "L\t1\t+\t2\t-\t*" ∷ bytes "L\t1\t+\t2\t-\t1M" ∷ bytes "L\t1\t\t2\t-\t0M" ∷ bytes "L\t1\t+-\t2\t-\t0M" ∷ bytes "L\t1\t+\tx\t-\t1M" ∷ []) ≡ 0 ∷ 0 ∷ 4 ∷ 1 ∷ 1 ∷ 2 ∷ []
unfolding line_number shape_number
links = refl

-- a lone sign has an empty name, an empty step has no sign
paths : map line_number (bytes "P\tx\t1+,2-\t*" ∷ bytes "P\tx\t+\t*" ∷ bytes "P\tx\t1+,\t*" ∷ bytes "P\tx\tx+,1\t" ∷ bytes "P\tx\t1+\t" ∷ []) ≡ 0 ∷ 2 ∷ 1 ∷ 2 ∷ 1 ∷ []
unfolding line_number shape_number
paths = refl

walks : map line_number (bytes "W\ta\t0\ts\t0\t1\t>1<2" ∷ bytes "W\ta\t0\ts\t0\t1\t>1>>2" ∷ bytes "W\ta\t0\ts\t0\t1\t>x>" ∷ bytes "W\ta\t0\ts\t0\t1\t*" ∷ bytes "W\ta\t\ts\t0\t1\t>x" ∷ []) ≡ 0 ∷ 1 ∷ 2 ∷ 1 ∷ 1 ∷ []
unfolding line_number shape_number
walks = refl

said : map handles_said (bytes "L\t1\t+\t2\t-\t0M" ∷ bytes "P\tx\t1+,2-\t*" ∷ bytes "W\ta\t0\ts\t0\t1\t>1<2" ∷ []) ≡ (record { packed = 2 } ∷ record { packed = 5 } ∷ []) ∷ (record { packed = 2 } ∷ record { packed = 5 } ∷ []) ∷ (record { packed = 2 } ∷ record { packed = 5 } ∷ []) ∷ []
unfolding handles_said
said = refl

-- the first of two; only a line's own first byte counts, and that alone; the fallback
headers : map (λ text. header_of text (bytes "none")) (bytes "\nS\t1\tA\nH\tx\nH\ty" ∷ bytes "Hello" ∷ bytes "S\t1\tA\r\nH\r\n" ∷ bytes "S\t1\tAH\n H" ∷ bytes "" ∷ []) ≡ bytes "H\tx" ∷ bytes "Hello" ∷ bytes "H\r" ∷ bytes "none" ∷ bytes "none" ∷ []
headers = refl

c8_header : header_of (bytes "H\tVN:Z:1.1\nS\t1\tA\nS\t2\tACG\nS\t3\tACT\nL\t1\t+\t2\t+\t0M\nL\t1\t+\t3\t+\t0M\nP\tx\t1+,3+\t*\n") (bytes "none") ≡ bytes "H\tVN:Z:1.1"
c8_header = refl
