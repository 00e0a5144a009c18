-- Line by line: a turn of each pass, one pass after the other, and what is answered at the end.
use Prim.Native.Nat.{ℕ}
use mathlib.Core.Path.{◌≡◌, refl, sym, ap, subst, ◌∙◌}
use mathlib.Core.Bool.{false}
use mathlib.Core.List.{List, [], ◌∷◌}
use native.Mathlib.Omega.{arith}
use lib.Dec.{eqb}
use lib.ListN.{length}
use Rattle.std.specs.Prelude.{⊤, Result, Ok, Err}
use Rattle.kit.specs.declared.Refusal.{Refusal}
use Rattle.kit.specs.Refusal.{number}
use Rattle.kit.proofs.Refusals.{number_not_0, refused_is, passed_is}
use Rattle.store.specs.declared.Counts.{Counts}
use Rattle.store.specs.Graph.{Graph}
use Rattle.reading.specs.Reading.{Store, store, Progress, counts_of, stopped, going, goes_on, pass, empty}
use Rattle.reading.specs.Outcome.{outcome, ending, zeros}
use Rattle.reading.specs.Held.{in_use, Held, Came}
use Rattle.reading.proofs.Holding.{same_store, same_nodes, same-letters, same-links}

-- a reading that was stopped takes no more lines
pub pass-stopped : (f : Graph → List ℕ → Progress) (q : Progress) (ps : List (List ℕ)) → goes_on q ≡ false → pass f q ps ≡ q
pass-stopped f q [] t = refl
pass-stopped f q (p ∷ ps) t = rw t (pass-stopped f q ps t)

module _ {A : Type 0} {l : Store} {q : Progress} {m : Store} {r : Result A Refusal} {c : Counts} (s : Came l q m r c) where
  pub stopped_so : {e : Refusal} → r ≡ Err e → goes_on q ≡ false
  stopped_so {e} n = ap (λ (k : ℕ). eqb k 0) (refused_is s.number n) ∙ number_not_0 e

  pub goes_so : {a : A} → r ≡ Ok a → going q.graph ≡ q
  goes_so n = ap (λ (k : ℕ). stopped k q.graph) (sym (passed_is s.number n))

-- where the answer has the counts in it, what is held is counted by what it answers
module _ {l : Store} {q : Progress} {m : Store} {r : Result Counts Refusal} (c : Counts) (s : Came l q m r (in_use c r)) where
  pub held_by : {x : Result Counts Refusal} → r ≡ x → Held l q.graph m (in_use c x)
  held_by n = subst (λ (x : Result Counts Refusal). Held l q.graph m (in_use c x)) n s.held

  pub held_so : {k : Counts} → r ≡ Ok k → Held l q.graph m k
  held_so n = held_by n

-- the arrays hold a graph from which the lines that are left lead to `end`
pub record Turn (l : Store) (f : Graph → List ℕ → Progress) (lines : List (List ℕ)) (end : Progress) (m : Store) (c : Counts) : Type 0 where
  pub graph : Graph
  pub held : Held l graph m c
  pub left : pass f (going graph) lines ≡ end

-- a turn: the line is refused, it is the last, or others follow
module _ {A : Type 0} {l : Store} {f : Graph → List ℕ → Progress} {ps rest : List (List ℕ)} {p : List ℕ} {end : Progress} {m m' : Store} {c d : Counts} {r : Result A Refusal} (t : Turn l f ps end m c) (e : ps ≡ p ∷ rest) (s : Came l (f t.graph p) m' r d) where
  this : pass f (f t.graph p) rest ≡ end
  this = sym (ap (pass f (going t.graph)) e) ∙ t.left

  pub line_refused : {w : Refusal} → r ≡ Err w → Came l end m' r d
  line_refused n = subst (λ (q : Progress). Came l q m' r d) (sym (pass-stopped f (f t.graph p) rest (stopped_so s n)) ∙ this) s

  pub line-last : rest ≡ [] → Came l end m' r d
  line-last z = subst (λ (q : Progress). Came l q m' r d) (sym (ap (pass f (f t.graph p)) z) ∙ this) s

  pub line-passed : {a : A} → r ≡ Ok a → Turn l f rest end m' d
  line-passed n =
      record { graph = (f t.graph p).graph; held = s.held; left = ap (λ (q : Progress). pass f q rest) (goes_so s n) ∙ this }

-- the same of a line that answers what it counts: a pass answers no counts, they stand beside it
module _ {l : Store} {f : Graph → List ℕ → Progress} {ps rest : List (List ℕ)} {p : List ℕ} {end : Progress} {m m' : Store} {c : Counts} {r : Result Counts Refusal} (t : Turn l f ps end m c) (e : ps ≡ p ∷ rest) (s : Came l (f t.graph p) m' r (in_use c r)) where
  pub pass_refused : {w : Refusal} → r ≡ Err w → Came {A = ⊤} l end m' (Err w) c
  pass_refused n =
      let x = line_refused t e s n in
      record { number = sym (refused_is x.number n); held = held_by c x n }

  pub pass-ended : {k : Counts} → r ≡ Ok k → rest ≡ [] → Came {A = ⊤} l end m' (Ok tt) k
  pass-ended n z =
      let x = line-last t e s z in
      record { number = sym (passed_is x.number n); held = held_by c x n }

  pub pass_goes_on : {k : Counts} → r ≡ Ok k → Turn l f rest end m' k
  unfolding line-passed
  pass_goes_on n = record { graph = (f t.graph p).graph; held = held_so c s n; left = (line-passed t e s n).left }

-- one pass after the other: the first is refused, or the second goes on from what it came to
module _ {A : Type 0} {l : Store} {q : Progress} {m : Store} {r : Result A Refusal} {c : Counts} (f : Graph → List ℕ → Progress) (ps : List (List ℕ)) (s : Came l q m r c) where
  pub one-refused : {w : Refusal} → r ≡ Err w → Came l (pass f q ps) m r c
  one-refused n = subst (λ (p : Progress). Came l p m r c) (sym (pass-stopped f q ps (stopped_so s n))) s

  pub then-two : {a : A} → r ≡ Ok a → {m' : Store} {r' : Result A Refusal} {c' : Counts} → Came l (pass f (going q.graph) ps) m' r' c' → Came l (pass f q ps) m' r' c'
  then-two n {m'} {r'} {c'} t = subst (λ (p : Progress). Came l (pass f p ps) m' r' c') (goes_so s n) t

zeros-same : (a b : List ℕ) → length a ≡ length b → zeros a ≡ zeros b
zeros-same [] [] e = refl
zeros-same [] (y ∷ b) e = absurd (omega arith)
zeros-same (x ∷ a) [] e = absurd (omega arith)
zeros-same (x ∷ a) (y ∷ b) e = ap (λ (k : List ℕ). 0 ∷ k) (zeros-same a b (omega arith))

-- the outcome
module _ {A : Type 0} {l : Store} {q : Progress} {m : Store} {r : Result A Refusal} {c : Counts} (s : Came l q m r c) where
  pub read_good : {a : A} → r ≡ Ok a → outcome (record { number = 0; counts = c }) m ≡ ending q l
  read_good n = rw (passed_is s.number n, ← s.held.used, ← s.held.arrays)

  pub read-refused : {e : Refusal} → r ≡ Err e → {a b k : List ℕ} → a ≡ zeros m.nodes → b ≡ zeros m.letters → k ≡ zeros m.links → outcome (record { number = number e; counts = counts_of empty }) (store a b k) ≡ ending q l
  read-refused n {a} {b} {k} x y z =
      rw (stopped_so s n, ← refused_is s.number n)
      (ap (outcome (record { number = q.number; counts = counts_of empty }))
      (same_store
      (x ∙ zeros-same m.nodes l.nodes (same_nodes s.held))
      (y ∙ zeros-same m.letters l.letters (same-letters s.held))
      (z ∙ zeros-same m.links l.links (same-links s.held))))
