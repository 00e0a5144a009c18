-- The lines of a small text, by their ends: the second one has no newline.
use native.Mathlib.Omega.{arith}
use mathlib.Core.Path.{refl}
use Rattle.text.specs.Bytes.{bytes}
use Rattle.text.specs.Search.{Piece}

first : Piece 10 (bytes "H\nS\t1") 0 1
first = record { low = omega arith; high = omega arith; cut = refl }

second : Piece 10 (bytes "H\nS\t1") 2 5
second = record { low = omega arith; high = omega arith; cut = refl }
