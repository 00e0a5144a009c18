use Prim.Native.Nat.{◌-◌, ◌≤◌}
use mathlib.Core.Path.{◌≡◌}
use lib.ListN.{length, drop}
use Rattle.text.specs.Pieces.{lines_of}
use Rattle.face.specs.ParseHeader.{header_from, header_part}
use Rattle.face.proofs.parse_header.gfaffix_parse_header.Given as goal

abbrev pub invariant-loop-at : goal.invariant-loop-at
invariant-loop-at l = (l.at ≤ length l.text) × (header_from l.fallback l.at (lines_of (drop l.at l.text)) ≡ header_part l.text l.fallback)

abbrev pub decreases-loop-at : goal.decreases-loop-at
decreases-loop-at l = length l.text - l.at
