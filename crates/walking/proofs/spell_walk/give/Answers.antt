use Prim.Native.Nat.{ℕ, ◌≤◌}
use mathlib.Core.Path.{◌≡◌, sym, ap, ◌∙◌}
use mathlib.Core.List.{[], List, ◌++◌}
use native.Mathlib.Omega.{arith}
use borrow.Author.Tests.{lt-ltb, le-ltb}
use lib.ListN.{length, drop}
use Rattle.std.specs.Prelude.{Some, None}
use Rattle.store.specs.Graph.{nodes_of, graph_of}
use Rattle.affix.specs.Prefix.{handles_of}
use Rattle.spelling.specs.Spelling.{spell_walk}
use Rattle.spelling.specs.Measure.{within, walk_len}
use Rattle.spelling.proofs.Steps.{measure_fits, measure_exceeds}
use Rattle.spelling.proofs.Walks.{spelled-length}
use Rattle.walking.specs.SpellWalk.{outcome, answer, refused, given}
use Rattle.walking.proofs.spell_walk.give.Goals as goal

-- letters of length n, measured against the room
module _ (letters out : List ℕ) (n : ℕ) (e : length letters ≡ n) where
  exceeds : within (length out) n ≡ None → given letters out ≡ refused 7 0 out
  exceeds q = rw (lt-ltb (length out) (length letters) (omega (arith, measure_exceeds (length out) n q)))

  fits : (k : ℕ) → within (length out) n ≡ Some k → length letters ≤ length out
  fits k q = omega (arith, (measure_fits (length out) n k q).1)

  stands : (k : ℕ) → within (length out) n ≡ Some k → given letters out ≡ outcome (answer 0 0 k) (letters ++ drop (length letters) out)
  stands k q =
      rw (le-ltb (length out) (length letters) (fits k q))
      (ap (λ (m : ℕ). outcome (answer 0 0 m) (letters ++ drop (length letters) out)) (omega (arith, (measure_fits (length out) n k q).0)))

pub returns-in_default : goal.returns-in_default
returns-in_default c =
    let a = c.args in
    let letters = spell_walk (graph_of a.nodes.now a.text.now [] a.c) (handles_of a.walk.now) in
    let n = walk_len (nodes_of a.c.nodes a.nodes.now) (handles_of a.walk.now) in
    let e = spelled-length a.nodes.now a.text.now a.c c.requires (handles_of a.walk.now) in
    ap (λ r. outcome r a.out.now) c.refuse.ensures ∙ sym (exceeds letters a.out.now n e (sym c.spelled_len.ensures ∙ c.in_default.is))

pub write_spelling-requires : goal.write_spelling-requires
write_spelling-requires c =
    let a = c.args in
    let letters = spell_walk (graph_of a.nodes.now a.text.now [] a.c) (handles_of a.walk.now) in
    let n = walk_len (nodes_of a.c.nodes a.nodes.now) (handles_of a.walk.now) in
    let e = spelled-length a.nodes.now a.text.now a.c c.requires (handles_of a.walk.now) in
    record { readable = c.requires; walk_in_bounds = fits letters a.out.now n e _ (sym c.spelled_len.ensures ∙ c.in-Some.is) }

pub returns : goal.returns
returns c =
    let a = c.args in
    let letters = spell_walk (graph_of a.nodes.now a.text.now [] a.c) (handles_of a.walk.now) in
    let n = walk_len (nodes_of a.c.nodes a.nodes.now) (handles_of a.walk.now) in
    let e = spelled-length a.nodes.now a.text.now a.c c.requires (handles_of a.walk.now) in
    ap (outcome (answer 0 0 c.in-Some.length)) c.write_spelling.ensures ∙ sym (stands letters a.out.now n e c.in-Some.length (sym c.spelled_len.ensures ∙ c.in-Some.is))
