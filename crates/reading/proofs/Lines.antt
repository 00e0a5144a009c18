-- What each pass does with one line, test by test.
use Prim.Native.Nat.{ℕ}
use mathlib.Core.Path.{◌≡◌, sym, ap, ap₂, subst, ◌∙◌}
use mathlib.Core.Bool.{Bool, true, false}
use mathlib.Core.List.{List}
use Rattle.std.specs.Prelude.{Result, Ok, Err}
use Rattle.kit.specs.declared.Refusal.{Refusal}
use Rattle.kit.specs.declared.Refusal.TheVariants.{Absent}
use Rattle.kit.specs.Refusal.{number_of}
use Rattle.kit.proofs.Refusals.{number_not_0, refused_is, passed_is}
use Rattle.handle.specs.declared.Edge.{Edge}
use Rattle.store.specs.declared.Counts.{Counts}
use Rattle.store.specs.Graph.{Graph, nodes_of}
use Rattle.store.specs.declared.Node.{Node}
use Rattle.spelling.specs.Spelling.{all_stored}
use Rattle.text.specs.Pieces.{field, is_line}
use Rattle.text.specs.Names.{name_id}
use Rattle.text.specs.Fields.{line_number, edge_of, handles_said}
use Rattle.reading.specs.Reading.{Store, Progress, add_segment, add_link, pass_one_line, pass_two_line}
use Rattle.reading.specs.Held.{Held, Came}
use Rattle.reading.proofs.Holding.{nodes_held, stops, goes}

module _ {l : Store} {g : Graph} {m : Store} {c : Counts} (h : Held l g m c) (line : List ℕ) where
  -- pass one, where a says what the line alone is refused for
  module _ {A : Type 0} {a : Result A Refusal} (e : number_of a ≡ line_number line) where
    pub one_faulty : {w : Refusal} → a ≡ Err w → Came {A = Counts} l (pass_one_line l g line) m (Err w) c
    unfolding pass_one_line
    one_faulty {w} k = rw (refused_is e k, number_not_0 w) (stops h w)

    pub one-other : {v : A} → a ≡ Ok v → is_line 83 line ≡ false → Came l (pass_one_line l g line) m (Ok c) c
    unfolding pass_one_line
    one-other k t = rw (passed_is e k, t) (goes h)

    pub one_segment : {v : A} → a ≡ Ok v → is_line 83 line ≡ true → {id : ℕ} {s : List ℕ} {m' : Store} {r : Result Counts Refusal} {d : Counts} → id ≡ name_id (field 1 line) → s ≡ field 2 line → Came l (add_segment l g id s) m' r d → Came l (pass_one_line l g line) m' r d
    unfolding pass_one_line
    one_segment k t {id} {s} {m'} {r} {d} i j x =
        rw (passed_is e k, t) (subst (λ (p : Progress). Came l p m' r d) (ap₂ (add_segment l g) i j) x)

  -- pass two, where b says whether all that the line names is stored
  module _ {b : Bool} (e : b ≡ all_stored (nodes_of c.nodes m.nodes) (handles_said line)) where
    said : b ≡ all_stored g.nodes (handles_said line)
    said = e ∙ ap (λ (rs : List Node). all_stored rs (handles_said line)) (nodes_held h)

    pub two_faulty : b ≡ false → Came {A = Counts} l (pass_two_line l g line) m (Err Absent) c
    unfolding pass_two_line
    two_faulty k = rw (sym said ∙ k) (stops h Absent)

    pub two-other : b ≡ true → is_line 76 line ≡ false → Came l (pass_two_line l g line) m (Ok c) c
    unfolding pass_two_line
    two-other k t = rw (sym said ∙ k, t) (goes h)

    pub two-link : b ≡ true → is_line 76 line ≡ true → {d : Edge} {m' : Store} {r : Result Counts Refusal} {k : Counts} → d ≡ edge_of line → Came l (add_link l g d) m' r k → Came l (pass_two_line l g line) m' r k
    unfolding pass_two_line
    two-link s t {d} {m'} {r} {k} i a =
        rw (sym said ∙ s, t) (subst (λ (x : Edge). Came l (add_link l g x) m' r k) i a)
