-- The driver: 01 "Prefix, groups, collapse", driver; 01 "Numbers that say no", the first refused collapse.
use Rattle.std.specs.Prelude.{ℕ, zero, suc, ◌+◌, Bool, true, false, List, eqb, length}
use Rattle.store.specs.Views.{live_letters}
use Rattle.affix.specs.Prefix.{group_prefix}
use Rattle.collapsing.specs.Making.{State, Room, state_after, collapse_number}
use Rattle.choosing.specs.Scan.{next_group}

-- a number, how many collapses were made, and what they made
pub record Run : Type 0 where
  pub number : ℕ
  pub made : ℕ
  pub state : State

abbrev pub ran : ℕ → ℕ → State → Run
ran number made s = record { number = number; made = made; state = s }

-- one of two, the second only if it is asked for
abbrev pub or_else : {A : Type 0} → Bool → A → (ℕ → A) → A
or_else true a more = a
or_else false a more = more 0

-- the prefix at its full length
abbrev pub prefix_len : List ℕ → State → ℕ
prefix_len protected s = length (group_prefix s.graph (next_group s.graph protected))

-- collapse the first group, and start again until none is left or one is refused; `letters` bounds how often
abbrev pub drive_for : ℕ → Room → List ℕ → ℕ → State → Run
drive_for zero room protected made s = ran 0 made s
drive_for (suc letters) room protected made s =
    let ms = next_group s.graph protected in
    let p = prefix_len protected s in
    let number = collapse_number room p s ms in
    or_else (eqb (length ms) 0) (ran 0 made s)
    (λ a. or_else (eqb number 0) (drive_for letters room protected (made + 1) (state_after p s ms)) (λ b. ran number made s))

-- each collapse lowers the live letters
abbrev pub drive : Room → List ℕ → State → Run
drive room protected s = drive_for (live_letters s.graph.nodes) room protected 0 s
