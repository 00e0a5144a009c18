-- What is wrong with a case (docs/REPLAY.md, "Answers"): the tests in their order, the first that fails is said.
use Rattle.std.specs.Prelude.{ℕ, Bool, cond, List, [], ◌∷◌, eqb, leb, ltb, length, drop, Option, Some, None}
use Rattle.kit.specs.Loops.{any}
use Rattle.cases.specs.declared.parts.Kind.{Kind}
use Rattle.cases.specs.declared.parts.Kind.TheVariants.{Number, Array, Text, Bytes, Room, Wide, Small}
use Rattle.cases.specs.declared.faults.Fault.{Fault}
use Rattle.cases.specs.declared.faults.Fault.TheVariants.{BadNumbers, BadEnd, BadLetters, BadRoom}
use Rattle.cases.specs.Parts.{kind_of, size_of, elements_of}

-- how many elements can be lent; an array that is only read is bounded by the case
abbrev pub most_of : Kind → ℕ
most_of Number = 393216
most_of Array = 393216
most_of Text = 131072
most_of Bytes = 65536
most_of Room = 65536
most_of Wide = 131072
most_of Small = 16384

abbrev pub long_fault : Kind → Fault
long_fault Number = BadRoom
long_fault Array = BadRoom
long_fault Text = BadLetters
long_fault Bytes = BadRoom
long_fault Room = BadRoom
long_fault Wide = BadRoom
long_fault Small = BadRoom

abbrev pub length_fault : Kind → ℕ → Option Fault
length_fault kind n = cond (leb n (most_of kind)) None (Some (long_fault kind))

-- by their places; any number past them is the last
abbrev pub fault_numbered : ℕ → Fault
fault_numbered n = cond (eqb n 0) BadNumbers (cond (eqb n 1) BadEnd (cond (eqb n 2) BadLetters BadRoom))

abbrev pub above_byte : ℕ → Bool
above_byte n = ltb 255 n

abbrev pub byte_fault : List ℕ → Option Fault
byte_fault xs = cond (any above_byte xs) (Some BadLetters) None

-- the order of the tests
abbrev pub place_of : Fault → ℕ
place_of BadNumbers = 0
place_of BadEnd = 1
place_of BadLetters = 2
place_of BadRoom = 3

-- the fault whose test comes first
abbrev pub sooner_of : Option Fault → Option Fault → Option Fault
sooner_of None b = b
sooner_of (Some f) None = Some f
sooner_of (Some f) (Some g) = Some (cond (ltb (place_of g) (place_of f)) g f)

abbrev pub bytes_fault : Kind → List ℕ → Option Fault
bytes_fault kind xs = sooner_of (length_fault kind (length xs)) (byte_fault xs)

abbrev pub item_fault : Kind → List ℕ → Option Fault
item_fault Number xs = None
item_fault Array xs = length_fault Array (length xs)
item_fault Text xs = bytes_fault Text xs
item_fault Bytes xs = bytes_fault Bytes xs
item_fault Room xs = length_fault Room (length xs)
item_fault Wide xs = length_fault Wide (length xs)
item_fault Small xs = length_fault Small (length xs)

-- `worst` is what the items before say
abbrev pub fault_from : Option Fault → List ℕ → List ℕ → Option Fault
fault_from worst [] xs = cond (leb 1 (length xs)) (Some BadEnd) worst
fault_from worst (s ∷ ss) xs =
    let size = size_of (kind_of s) xs in
    cond (leb size (length xs)) (fault_from (sooner_of worst (item_fault (kind_of s) (elements_of xs))) ss (drop size xs)) (Some BadNumbers)

abbrev pub fault_of : List ℕ → List ℕ → Option Fault
fault_of shape xs = fault_from None shape xs
