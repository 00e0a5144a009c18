-- What is read of the input, which comes through a buffer that is filled again and again.
use Rattle.std.specs.Prelude.{ℕ, ◌+◌, ◌-◌, ◌<◌, ◌≤◌, ◌≡◌, Bool, true, cond, List, eqb, length, get_or, Option, Some, None, IfSome}
use Rattle.cases.specs.declared.stream.Source.{Source}

-- byte 10 ends a line, and so does the end of the input, past which there is no byte
abbrev pub line_ends : Option ℕ → Bool
line_ends None = true
line_ends (Some b) = eqb b 10

-- a byte, or the end of the input
abbrev pub is_byte : Option ℕ → Type 0
is_byte last = IfSome last (λ b. b < 256)

-- what was read last is one after where it was one before
abbrev pub StaysByte : Source → Source → Type 0
StaysByte s r = is_byte s.last → is_byte r.last

-- the place is inside the buffer, and what was read last is the byte before it
pub record Standing (r : Source) (buf : List ℕ) : Type 0 where
  pub inside : r.at ≤ length buf
  pub byte : r.last ≡ cond (eqb r.at 0) None (Some (get_or buf (r.at - 1) 0))
  pub small : is_byte r.last

-- one byte more; while there are bytes unread the buffer stays as it is
pub record Advanced (before : List ℕ) (s : Source) (buf : List ℕ) (r : Source) : Type 0 where
  pub standing : Standing r buf
  pub unread : s.at < s.end → s.at < length before → (buf ≡ before) × (r.at ≡ s.at + 1) × (r.end ≡ s.end)

-- to the line's end: where it stands there it stays, and what was read last stays a byte
pub record Skipped (s r : Source) (buf : List ℕ) : Type 0 where
  pub kept : line_ends s.last ≡ true → r ≡ s
  pub inside : s.at ≤ length buf → r.at ≤ length buf
  pub small : StaysByte s r
