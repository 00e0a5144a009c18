-- Pass two: it goes on exactly when each node that a line names is stored and the links fit; it then reads the links that
-- the lines say.
use Prim.Native.Nat.{ℕ}
use mathlib.Core.Path.{◌≡◌, refl, sym, ap, ◌∙◌}
use mathlib.Core.Bool.{Bool, true, false, cond, not}
use mathlib.Core.List.{List, [], ◌∷◌}
use Rattle.kit.specs.Loops.{all}
use Rattle.kit.proofs.Bools.{never, and_both, and_true_l, and_true_r}
use Rattle.store.specs.Graph.{Graph}
use Rattle.store.specs.declared.Node.{Node}
use Rattle.spelling.specs.Spelling.{all_stored}
use Rattle.text.specs.Pieces.{is_line}
use Rattle.text.specs.Fields.{handles_said}
use Rattle.reading.specs.Reading.{Store, Progress, fits_in, stopped, going, goes_on, pass_two_line, pass}
use Rattle.gfa.specs.Narrowings.{links_into}
use Rattle.gfa.proofs.ReadGrowth.{link_lines, more_link, fits_less, links_less, pass-before, goes_same}

abbrev with_two : Graph → List ℕ → Graph
with_two g line = cond (is_line 76 line) (more_link g line) g

links-more : (g : Graph) (line : List ℕ) (ls : List (List ℕ)) → links_into g (link_lines (line ∷ ls)) ≡ links_into (with_two g line) (link_lines ls)
links-more g line ls = by (is_line 76 line) (link_lines ls)
  where
    by : (b : Bool) (ks : List (List ℕ)) → links_into g (cond b (line ∷ ks) ks) ≡ links_into (cond b (more_link g line) g) ks
    by true ks = refl
    by false ks = refl

-- nodes stay as they are
nodes-two : (g : Graph) (line : List ℕ) → (with_two g line).nodes ≡ g.nodes
nodes-two g line = by (is_line 76 line)
  where
    by : (b : Bool) → (cond b (more_link g line) g).nodes ≡ g.nodes
    by true = refl
    by false = refl

record TwoLine (l : Store) (g : Graph) (line : List ℕ) : Type 0 where
  declared : all_stored g.nodes (handles_said line) ≡ true
  room : fits_in l (with_two g line) ≡ true

module _ (l : Store) (g : Graph) (line : List ℕ) where
  abbrev more : Graph
  more = more_link g line

  abbrev given : Bool
  given = all_stored g.nodes (handles_said line)

  -- the line's answer, by its tests
  abbrev answer : Bool → Bool → Bool → Progress
  answer d s f = cond (not d) (stopped 6 g) (cond s (cond f (going more) (stopped 7 g)) (going g))

  abbrev fits : Bool → Bool
  fits s = fits_in l (cond s more g)

  two_goes : fits_in l g ≡ true → goes_on (pass_two_line l g line) ≡ true → TwoLine l g line
  unfolding pass_two_line
  two_goes e t = by given (is_line 76 line) (fits true) refl refl refl t
    where
      by : (d s f : Bool) → given ≡ d → is_line 76 line ≡ s → fits true ≡ f → goes_on (answer d s f) ≡ true → TwoLine l g line
      by false s f p q v t = never (sym t)
      by true true false p q v t = never (sym t)
      by true true true p q v t = record { declared = p; room = ap fits q ∙ v }
      by true false f p q v t = record { declared = p; room = ap fits q ∙ e }

  two-same : TwoLine l g line → pass_two_line l g line ≡ going (with_two g line)
  unfolding pass_two_line
  two-same o = by given (is_line 76 line) (fits true) o.declared (λ q. sym (ap fits q) ∙ o.room)
    where
      by : (d s f : Bool) → d ≡ true → (s ≡ true → f ≡ true) → answer d s f ≡ going (cond s more g)
      by d true f p r = rw (p, r refl)
      by d false f p r = rw p

-- what pass two asks of the lines, from g on
pub record Twos (l : Store) (g : Graph) (ls : List (List ℕ)) : Type 0 where
  pub declared : all (λ line. all_stored g.nodes (handles_said line)) ls ≡ true
  pub room : fits_in l (links_into g (link_lines ls)) ≡ true

-- one line and the rest
module _ (l : Store) (g : Graph) (line : List ℕ) (ls : List (List ℕ)) where
  abbrev declared_in : List Node → Bool
  declared_in ns = all (λ k. all_stored ns (handles_said k)) ls

  twos_rest : Twos l g (line ∷ ls) → Twos l (with_two g line) ls
  twos_rest o =
      record {
        declared = ap declared_in (nodes-two g line) ∙ and_true_r (all_stored g.nodes (handles_said line)) _ o.declared;
        room = sym (ap (fits_in l) (links-more g line ls)) ∙ o.room;
      }

  twos_first : Twos l g (line ∷ ls) → TwoLine l g line
  twos_first o =
      let h = with_two g line in
      record {
        declared = and_true_l (all_stored g.nodes (handles_said line)) _ o.declared;
        room = fits_less l h (links_into h (link_lines ls)) (links_less h (link_lines ls)) (twos_rest o).room;
      }

  twos_more : TwoLine l g line → Twos l (with_two g line) ls → Twos l g (line ∷ ls)
  twos_more f o =
      record {
        declared = and_both _ _ f.declared (sym (ap declared_in (nodes-two g line)) ∙ o.declared);
        room = ap (fits_in l) (links-more g line ls) ∙ o.room;
      }

module _ (l : Store) where
  pub two-pass : (g : Graph) (ls : List (List ℕ)) → Twos l g ls → pass (pass_two_line l) (going g) ls ≡ going (links_into g (link_lines ls))
  two-pass g [] o = refl
  two-pass g (line ∷ ls) o =
      ap (λ r. pass (pass_two_line l) r ls) (two-same l g line (twos_first l g line ls o))
      ∙ two-pass (with_two g line) ls (twos_rest l g line ls o) ∙ ap going (sym (links-more g line ls))

  pub pass-two : (g : Graph) (ls : List (List ℕ)) → fits_in l g ≡ true → goes_on (pass (pass_two_line l) (going g) ls) ≡ true → Twos l g ls
  pass-two g [] f t = record { declared = refl; room = f }
  pass-two g (line ∷ ls) f t =
      let o = two_goes l g line f (pass-before (pass_two_line l) (pass_two_line l g line) ls t) in
      let u = sym (goes_same (pass_two_line l) ls (two-same l g line o)) ∙ t in
      twos_more l g line ls o (pass-two (with_two g line) ls o.room u)
