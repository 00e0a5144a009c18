-- The items of a case (docs/REPLAY.md, "Lines" and "Shapes"): a number, or an array, which is its length and then its
-- elements. A shape has one byte for each item.
use Rattle.std.specs.Prelude.{ℕ, ◌+◌, ◌%◌, cond, List, [], ◌∷◌, eqb, leb, length, take, drop, get_or, Option, Some, None}
use Rattle.store.specs.declared.Counts.{Counts}
use Rattle.cases.specs.declared.parts.Kind.{Kind}
use Rattle.cases.specs.declared.parts.Kind.TheVariants.{Number, Array, Text, Bytes, Room, Wide, Small}
use Rattle.events.specs.declared.Used.{Used}

-- what a byte of a shape says: n, t, b, r, w, s, or any other
abbrev pub kind_of : ℕ → Kind
kind_of b =
    cond (eqb b 110) Number
    (cond (eqb b 116) Text
    (cond (eqb b 98) Bytes
    (cond (eqb b 114) Room
    (cond (eqb b 119) Wide
    (cond (eqb b 115) Small Array)))))

-- how many numbers an array at the front takes, and an item
abbrev pub array_size : List ℕ → ℕ
array_size xs = 1 + get_or xs 0 0

abbrev pub size_of : Kind → List ℕ → ℕ
size_of Number xs = 1
size_of Array xs = array_size xs
size_of Text xs = array_size xs
size_of Bytes xs = array_size xs
size_of Room xs = array_size xs
size_of Wide xs = array_size xs
size_of Small xs = array_size xs

-- where it ends, if it begins at a place
abbrev pub item_end : Kind → ℕ → List ℕ → Option ℕ
item_end kind at xs = cond (leb (size_of kind xs) (length xs)) (Some (at + size_of kind xs)) None

-- what comes after the items of a shape
abbrev pub rest_of : List ℕ → List ℕ → List ℕ
rest_of [] xs = xs
rest_of (s ∷ ss) xs = rest_of ss (drop (size_of (kind_of s) xs) xs)

-- the elements of the array at the front
abbrev pub elements_of : List ℕ → List ℕ
elements_of xs = take (get_or xs 0 0) (drop 1 xs)

-- item k, an array; item k, a number
abbrev pub array_at : List ℕ → List ℕ → ℕ → List ℕ
array_at xs shape k = elements_of (rest_of (take k shape) xs)

abbrev pub number_at : List ℕ → List ℕ → ℕ → ℕ
number_at xs shape k = get_or (rest_of (take k shape) xs) 0 0

abbrev pub counts_at : List ℕ → List ℕ → ℕ → Counts
counts_at xs shape k = record { nodes = number_at xs shape k; letters = number_at xs shape (k + 1); links = number_at xs shape (k + 2) }

abbrev pub used_at : List ℕ → List ℕ → ℕ → Used
used_at xs shape k = record { rules = number_at xs shape k; steps = number_at xs shape (k + 1) }

-- a number's lowest byte
abbrev pub low_byte : ℕ → ℕ
low_byte n = n % 256
