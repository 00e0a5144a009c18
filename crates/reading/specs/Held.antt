-- How far a reading has come in the lent arrays: what the functions that read a part of a text say.
use Rattle.std.specs.Prelude.{ℕ, ◌≡◌, true, List, Result, Ok, Err}
use Rattle.kit.specs.declared.Refusal.{Refusal}
use Rattle.kit.specs.Refusal.{number_of}
use Rattle.store.specs.declared.Counts.{Counts}
use Rattle.store.specs.Graph.{Graph}
use Rattle.reading.specs.Reading.{Store, store, Progress, counts_of, fits_in}
use Rattle.reading.specs.Outcome.{holding}

abbrev pub counts : ℕ → ℕ → ℕ → Counts
counts nodes letters links = record { nodes = nodes; letters = letters; links = links }

-- m is what l becomes with the graph in it, which has room there; c counts what is in use
pub record Held (l : Store) (g : Graph) (m : Store) (c : Counts) : Type 0 where
  pub room : fits_in l g ≡ true
  pub used : c ≡ counts_of g
  pub arrays : m ≡ holding g l

-- what is in use after a line: what it counts, or, of a refusal, what was in use before it
abbrev pub in_use : Counts → Result Counts Refusal → Counts
in_use c (Ok k) = k
in_use c (Err w) = c

-- the reading has come to p, says so by its number, and c counts what is in use; a refusal keeps what was read before it
pub record Came {A : Type 0} (l : Store) (p : Progress) (m : Store) (r : Result A Refusal) (c : Counts) : Type 0 where
  pub number : number_of r ≡ p.number
  pub held : Held l p.graph m c

-- a part of the reading takes the arrays from m to m' as f says, whatever they were before the reading and whatever they
-- hold, and what is in use from c to c'
abbrev pub Does : {A : Type 0} → (Store → Graph → Progress) → Store → Counts → Store → Result A Refusal → Counts → Type 0
Does f m c m' r c' = (l : Store) (g : Graph) → Held l g m c → Came l (f l g) m' r c'

-- a part of pass one leaves the links alone, a part of pass two the nodes and letters
abbrev pub OnSegments : {A : Type 0} → (Store → Graph → Progress) → List ℕ → List ℕ → Counts → List ℕ → List ℕ → Result A Refusal → Counts → Type 0
OnSegments f nodes letters c nodes' letters' r c' = (links : List ℕ) → Does f (store nodes letters links) c (store nodes' letters' links) r c'

abbrev pub OnLinks : {A : Type 0} → (Store → Graph → Progress) → List ℕ → List ℕ → Counts → List ℕ → Result A Refusal → Counts → Type 0
OnLinks f nodes links c links' r c' = (letters : List ℕ) → Does f (store nodes letters links) c (store nodes letters links') r c'
