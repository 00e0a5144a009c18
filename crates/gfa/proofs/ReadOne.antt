-- Pass one: it goes on exactly when no line is refused for itself, no id is given twice and the segments fit; it then reads
-- the segments that the lines say.
use Prim.Native.Nat.{ℕ}
use mathlib.Core.Path.{◌≡◌, refl, sym, ap, ◌∙◌}
use mathlib.Core.Bool.{Bool, true, false, cond, not}
use mathlib.Core.List.Memᴰ
use mathlib.Core.List.{List, [], ◌∷◌, ◌++◌, map, map-append, append-nil}
use borrow.Author.Tests.{eq-eqb, eqb-true}
use lib.Dec.{eqb}
use lib.Seq.{append_snoc}
use Rattle.kit.specs.Loops.{all, any, distinct}
use Rattle.kit.proofs.Bools.{never, or_neither, and_both, and_true_l, and_true_r, eqb_sym}
use Rattle.kit.proofs.Lists.{distinct_snoc}
use Rattle.kit.proofs.Meaning.{distinct-first, distinct-rest, none_mem}
use Rattle.store.specs.Graph.{Graph}
use Rattle.store.specs.declared.Node.{Node}
use Rattle.store.specs.Views.{stored}
use Rattle.text.specs.Pieces.{is_line}
use Rattle.text.specs.Fields.{line_number}
use Rattle.reading.specs.Reading.{Store, Progress, fits_in, stopped, going, goes_on, pass_one_line, pass}
use Rattle.gfa.specs.Narrowings.{segments_into}
use Rattle.gfa.proofs.ReadGrowth.{segment_lines, segment_id, more_segment, fits_less, segments_less, pass-before, goes_same}

abbrev pub ids : Graph → List ℕ
ids g = map (λ r. r.id) g.nodes

abbrev with_one : Graph → List ℕ → Graph
with_one g line = cond (is_line 83 line) (more_segment g line) g

segments-more : (g : Graph) (line : List ℕ) (ls : List (List ℕ)) → segments_into g (segment_lines (line ∷ ls)) ≡ segments_into (with_one g line) (segment_lines ls)
segments-more g line ls = by (is_line 83 line) (segment_lines ls)
  where
    by : (b : Bool) (ks : List (List ℕ)) → segments_into g (cond b (line ∷ ks) ks) ≡ segments_into (cond b (more_segment g line) g) ks
    by true ks = refl
    by false ks = refl

ids_more : (g : Graph) (line : List ℕ) (ls : List (List ℕ)) → ids g ++ map segment_id (segment_lines (line ∷ ls)) ≡ ids (with_one g line) ++ map segment_id (segment_lines ls)
ids_more g line ls = by (is_line 83 line) (segment_lines ls)
  where
    by : (b : Bool) (ks : List (List ℕ)) → ids g ++ map segment_id (cond b (line ∷ ks) ks) ≡ ids (cond b (more_segment g line) g) ++ map segment_id ks
    by true ks = rw map-append (sym (append_snoc (ids g) (segment_id line) (map segment_id ks)))
    by false ks = refl

-- an id is stored exactly when it is among the ids
pub stored-ids : (i : ℕ) (rs : List Node) → stored i rs ≡ any (eqb i) (map (λ r. r.id) rs)
stored-ids i [] = refl
stored-ids i (r ∷ rs) = rw (eqb_sym r.id i, stored-ids i rs)

record OneLine (l : Store) (g : Graph) (line : List ℕ) : Type 0 where
  number : line_number line ≡ 0
  fresh : is_line 83 line ≡ true → stored (segment_id line) g.nodes ≡ false
  room : fits_in l (with_one g line) ≡ true

module _ (l : Store) (g : Graph) (line : List ℕ) where
  abbrev more : Graph
  more = more_segment g line

  abbrev zero : Bool
  zero = eqb (line_number line) 0

  abbrev old : Bool
  old = stored (segment_id line) g.nodes

  -- the line's answer, by its tests
  abbrev answer : Bool → Bool → Bool → Bool → Progress
  answer z s o f =
      cond (not z) (stopped (line_number line) g)
      (cond s (cond o (stopped 5 g) (cond (not f) (stopped 7 g) (going more)))
      (going g))

  abbrev fits : Bool → Bool
  fits s = fits_in l (cond s more g)

  one_goes : fits_in l g ≡ true → goes_on (pass_one_line l g line) ≡ true → OneLine l g line
  unfolding pass_one_line
  one_goes e t = by zero (is_line 83 line) old (fits true) refl refl refl refl t
    where
      by : (z s o f : Bool) → zero ≡ z → is_line 83 line ≡ s → old ≡ o → fits true ≡ f → goes_on (answer z s o f) ≡ true → OneLine l g line
      by false s o f p q u v t = never (sym t ∙ p)
      by true true true f p q u v t = never (sym t)
      by true true false false p q u v t = never (sym t)
      by true true false true p q u v t = record { number = eqb-true (line_number line) 0 p; fresh = λ x. u; room = ap fits q ∙ v }
      by true false o f p q u v t = record { number = eqb-true (line_number line) 0 p; fresh = λ x. never (sym x ∙ q); room = ap fits q ∙ e }

  one_same : OneLine l g line → pass_one_line l g line ≡ going (with_one g line)
  unfolding pass_one_line
  one_same o = by zero (is_line 83 line) old (fits true) (eq-eqb (line_number line) 0 o.number) o.fresh (λ q. sym (ap fits q) ∙ o.room)
    where
      by : (z s o f : Bool) → z ≡ true → (s ≡ true → o ≡ false) → (s ≡ true → f ≡ true) → answer z s o f ≡ going (cond s more g)
      by z true o f p q r = rw (p, q refl, r refl)
      by z false o f p q r = rw p

-- what pass one asks of the lines, from g on
pub record Ones (l : Store) (g : Graph) (ls : List (List ℕ)) : Type 0 where
  pub numbers : all (λ line. eqb (line_number line) 0) ls ≡ true
  pub once : distinct eqb (ids g ++ map segment_id (segment_lines ls)) ≡ true
  pub room : fits_in l (segments_into g (segment_lines ls)) ≡ true

-- an element stands nowhere before itself
distinct_mid : (xs : List ℕ) (x : ℕ) (ys : List ℕ) → distinct eqb (xs ++ (x ∷ ys)) ≡ true → any (eqb x) xs ≡ false
distinct_mid [] x ys t = refl
distinct_mid (a ∷ xs) x ys t =
    or_neither (eqb x a) (any (eqb x) xs)
    (eqb_sym x a ∙ none_mem (eqb a) (distinct-first eqb a (xs ++ (x ∷ ys)) t) (Memᴰ.append_right xs (Memᴰ.head refl)))
    (distinct_mid xs x ys (distinct-rest eqb a (xs ++ (x ∷ ys)) t))

-- one line and the rest
module _ (l : Store) (g : Graph) (line : List ℕ) (ls : List (List ℕ)) where
  abbrev apart : Bool → Bool
  apart s = distinct eqb (ids g ++ map segment_id (cond s (line ∷ segment_lines ls) (segment_lines ls)))

  ones_rest : Ones l g (line ∷ ls) → Ones l (with_one g line) ls
  ones_rest o =
      record {
        numbers = and_true_r (eqb (line_number line) 0) _ o.numbers;
        once = sym (ap (distinct eqb) (ids_more g line ls)) ∙ o.once;
        room = sym (ap (fits_in l) (segments-more g line ls)) ∙ o.room;
      }

  ones_first : Ones l g (line ∷ ls) → OneLine l g line
  ones_first o =
      let h = with_one g line in
      record {
        number = eqb-true (line_number line) 0 (and_true_l (eqb (line_number line) 0) _ o.numbers);
        fresh = λ s. stored-ids (segment_id line) g.nodes ∙ distinct_mid (ids g) (segment_id line) _ (sym (ap apart s) ∙ o.once);
        room = fits_less l h (segments_into h (segment_lines ls)) (segments_less h (segment_lines ls)) (ones_rest o).room;
      }

  ones_more : OneLine l g line → Ones l (with_one g line) ls → Ones l g (line ∷ ls)
  ones_more f o =
      record {
        numbers = and_both _ _ (eq-eqb (line_number line) 0 f.number) o.numbers;
        once = ap (distinct eqb) (ids_more g line ls) ∙ o.once;
        room = ap (fits_in l) (segments-more g line ls) ∙ o.room;
      }

module _ (l : Store) where
  pub one-pass : (g : Graph) (ls : List (List ℕ)) → Ones l g ls → pass (pass_one_line l) (going g) ls ≡ going (segments_into g (segment_lines ls))
  one-pass g [] o = refl
  one-pass g (line ∷ ls) o =
      ap (λ r. pass (pass_one_line l) r ls) (one_same l g line (ones_first l g line ls o))
      ∙ one-pass (with_one g line) ls (ones_rest l g line ls o) ∙ ap going (sym (segments-more g line ls))

  -- a segment's id is new, so that ids stay apart
  once_more : (g : Graph) (line : List ℕ) → OneLine l g line → distinct eqb (ids g) ≡ true → distinct eqb (ids (with_one g line)) ≡ true
  once_more g line o t = by (is_line 83 line) o.fresh
    where
      by : (b : Bool) → (b ≡ true → stored (segment_id line) g.nodes ≡ false) → distinct eqb (ids (cond b (more_segment g line) g)) ≡ true
      by true h =
          let i = segment_id line in
          let n : any (eqb i) (ids g) ≡ false = sym (stored-ids i g.nodes) ∙ h refl in
          rw map-append (distinct_snoc eqb (ids g) i t (λ a m. eqb_sym a i ∙ none_mem (eqb i) n m))
      by false h = t

  pub pass-one : (g : Graph) (ls : List (List ℕ)) → distinct eqb (ids g) ≡ true → fits_in l g ≡ true → goes_on (pass (pass_one_line l) (going g) ls) ≡ true → Ones l g ls
  pass-one g [] d f t = record { numbers = refl; once = ap (distinct eqb) (append-nil (ids g)) ∙ d; room = f }
  pass-one g (line ∷ ls) d f t =
      let o = one_goes l g line f (pass-before (pass_one_line l) (pass_one_line l g line) ls t) in
      let u = sym (goes_same (pass_one_line l) ls (one_same l g line o)) ∙ t in
      ones_more l g line ls o (pass-one (with_one g line) ls (once_more g line o d) o.room u)
