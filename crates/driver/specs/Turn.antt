-- One turn of the driver, as the code takes it.
use Rattle.std.specs.Prelude.{List, eqb, length}
use Rattle.handle.specs.declared.Handle.{Handle}
use Rattle.affix.specs.Prefix.{group_prefix}
use Rattle.collapsing.specs.Making.{State, Room, state_after, collapse_number}
use Rattle.driver.specs.Drive.{Run, ran, or_else}

-- these members collapsed at full prefix length
abbrev pub group_run : Room → State → List Handle → Run
group_run room s ms =
    let p = length (group_prefix s.graph ms) in
    let number = collapse_number room p s ms in
    or_else (eqb number 0) (ran 0 1 (state_after p s ms)) (λ a. ran number 0 s)
