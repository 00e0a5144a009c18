-- What a refusal is as a number: 01 "Numbers that say no".
use Rattle.std.specs.Prelude.{ℕ, Result, Ok, Err}
use Rattle.kit.specs.declared.Refusal.{Refusal}
use Rattle.kit.specs.declared.Refusal.TheVariants.{Shape, Name, Letter, Overlap, Twice, Absent, Room, Group, Prefix, Neighbours, Ids, Later, Malformed}

abbrev pub number : Refusal → ℕ
number Shape = 1
number Name = 2
number Letter = 3
number Overlap = 4
number Twice = 5
number Absent = 6
number Room = 7
number Group = 8
number Prefix = 9
number Neighbours = 10
number Ids = 11
number Later = 12
number Malformed = 13

-- an answer as a number: 0 is yes or done
abbrev pub number_of : {A : Type 0} → Result A Refusal → ℕ
number_of (Ok a) = 0
number_of (Err r) = number r
