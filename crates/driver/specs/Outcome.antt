-- All that a caller of the driver sees: the answer, and the four lent arrays as it finds them.
use Rattle.std.specs.Prelude.{ℕ, List}
use Rattle.store.specs.declared.Counts.{Counts}
use Rattle.events.specs.declared.Used.{Used}
use Rattle.collapsing.specs.Outcome.{Lent, room_of, state_in, holding, counts_of, used_of}
use Rattle.driver.specs.Drive.{Run, drive}
use Rattle.driver.specs.declared.Driven.{Driven}

pub record Outcome : Type 0 where
  pub answer : Driven
  pub arrays : Lent

abbrev pub outcome : Driven → Lent → Outcome
outcome answer l = record { answer = answer; arrays = l }

abbrev pub refused : ℕ → Counts → Used → Lent → Outcome
refused number c u l = outcome (record { number = number; made = 0; counts = c; used = u }) l

-- what was made is kept, also where a collapse was refused
abbrev pub holding_run : Run → Counts → Lent → Outcome
holding_run r c l =
    outcome (record { number = r.number; made = r.made; counts = counts_of r.state c; used = used_of r.state }) (holding r.state l)

abbrev pub drive_outcome : Lent → List ℕ → Counts → Used → List ℕ → Outcome
drive_outcome l letters c u protected = holding_run (drive (room_of l) protected (state_in l letters c u)) c l
