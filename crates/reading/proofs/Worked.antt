-- C8's text, read; and the numbers in their order.
use Prim.Native.Nat.{ℕ}
use mathlib.Core.Path.{◌≡◌, refl}
use mathlib.Core.List.{List, [], ◌∷◌, map}
use Rattle.letters.specs.Letters.{complement_of, is_letter}
use Rattle.handle.specs.Handle.{flip, before}
use Rattle.handle.specs.Edge.{written}
use Rattle.text.specs.Bytes.{bytes}
use Rattle.text.specs.Fields.{line_number, handles_said, shape_number}
use Rattle.reading.specs.Reading.{Store, store, read_text, pass_one_line, pass_two_line}
use Rattle.reading.specs.Outcome.{read_outcome}

-- room for two nodes, three letters and one link; what stood there before is not zero
abbrev small : Store
small = store (7 ∷ 7 ∷ 7 ∷ 7 ∷ 7 ∷ 7 ∷ 7 ∷ 7 ∷ []) (7 ∷ 7 ∷ 7 ∷ []) (7 ∷ 7 ∷ 7 ∷ 7 ∷ [])

read : read_outcome small (bytes "S\t2\tAc\nL\t2\t-\t2\t-\t*\nL\t2\t+\t2\t+\t0M\n") ≡ record { answer = record { number = 0; counts = record { nodes = 1; letters = 2; links = 1 } }; arrays = store (2 ∷ 0 ∷ 2 ∷ 0 ∷ 7 ∷ 7 ∷ 7 ∷ 7 ∷ []) (65 ∷ 99 ∷ 7 ∷ []) (4 ∷ 4 ∷ 0 ∷ 7 ∷ []) }
unfolding read_outcome pass_one_line pass_two_line line_number shape_number handles_said is_letter complement_of written flip before
read = refl

-- a refused reading leaves zeros
missing : read_outcome small (bytes "S\t2\tAc\nP\tx\t3+\t*") ≡ record { answer = record { number = 6; counts = record { nodes = 0; letters = 0; links = 0 } }; arrays = store (0 ∷ 0 ∷ 0 ∷ 0 ∷ 0 ∷ 0 ∷ 0 ∷ 0 ∷ []) (0 ∷ 0 ∷ 0 ∷ []) (0 ∷ 0 ∷ 0 ∷ 0 ∷ []) }
unfolding read_outcome pass_one_line pass_two_line line_number shape_number handles_said is_letter complement_of written flip before
missing = refl

abbrev number_of : List ℕ → ℕ
number_of text = (read_text small text).number

-- 5 before 7 in a line; 7 in line two before 1 in line three; pass one before pass two; a repeated link takes no room
order : map number_of (bytes "S\t1\tACG\nS\t1\tA" ∷ bytes "S\t1\tACG\nS\t2\tA\nS" ∷ bytes "L\t1\t+\t1\t+\t0M\nS" ∷ bytes "L\t1\t+\t1\t+\t0M\nS\t1\tA" ∷ bytes "S\t1\tA\nL\t1\t+\t1\t+\t0M\nL\t1\t-\t1\t-\t0M\n" ∷ bytes "S\t1\tA\nL\t1\t+\t1\t+\t0M\nL\t1\t-\t1\t+\t0M\n" ∷ []) ≡ 5 ∷ 7 ∷ 1 ∷ 0 ∷ 0 ∷ 7 ∷ []
unfolding pass_one_line pass_two_line line_number shape_number handles_said is_letter complement_of written flip before
order = refl
