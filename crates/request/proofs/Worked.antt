-- Words and lists, worked.
use Prim.Native.Nat.{ℕ}
use mathlib.Core.Path.{◌≡◌, refl}
use mathlib.Core.List.{List, [], ◌∷◌}
use Rattle.text.specs.Pieces.{lines_of}
use Rattle.std.specs.Prelude.{Some, None}
use Rattle.request.specs.declared.ask.Role.TheVariants.{Out, Table, Graph, Check}
use Rattle.request.specs.declared.ask.Fault.TheVariants.{EmptyWord, UnknownOption, Incomplete}
use Rattle.request.specs.Words.{words_of, first_word, count_words}
use Rattle.request.specs.Faults.{fault_of}
use Rattle.request.specs.Ids.{list_outcome}

-- `g -t - -o -c`: an option's word is taken whatever it looks like, so that there is no -c
abbrev words : List (List ℕ)
words = words_of (103 ∷ 0 ∷ 45 ∷ 116 ∷ 0 ∷ 45 ∷ 0 ∷ 45 ∷ 111 ∷ 0 ∷ 45 ∷ 99 ∷ 0 ∷ [])

graph : first_word Graph None words ≡ 103 ∷ []
graph = refl

table : first_word Table None words ≡ 45 ∷ []
table = refl

out : first_word Out None words ≡ 45 ∷ 99 ∷ []
out = refl

no_check : count_words Check None words ≡ 0
no_check = refl

fine : fault_of words ≡ None
fine = refl

-- `-o` alone, `-z`, and an empty word
incomplete : fault_of (words_of (45 ∷ 111 ∷ 0 ∷ [])) ≡ Some Incomplete
incomplete = refl

unknown : fault_of (words_of (45 ∷ 122 ∷ 0 ∷ [])) ≡ Some UnknownOption
unknown = refl

empty : fault_of (words_of (0 ∷ [])) ≡ Some EmptyWord
empty = refl

-- the list of 2 and 3 with an empty line between them; a leading zero; two ids in a room for one
listed : list_outcome (lines_of (50 ∷ 10 ∷ 10 ∷ 51 ∷ [])) (9 ∷ 9 ∷ 9 ∷ []) ≡ record { number = 0; count = 2; ids = 2 ∷ 3 ∷ 9 ∷ [] }
listed = refl

leading : list_outcome (lines_of (48 ∷ 50 ∷ [])) (9 ∷ []) ≡ record { number = 2; count = 0; ids = 9 ∷ [] }
leading = refl

too_many : list_outcome (lines_of (50 ∷ 10 ∷ 51 ∷ [])) (9 ∷ []) ≡ record { number = 7; count = 0; ids = 9 ∷ [] }
too_many = refl
