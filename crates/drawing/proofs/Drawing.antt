-- Steps one by one, and the whole text of a path or a walk.
use Prim.Native.Nat.{ℕ, ◌+◌, ◌^◌, ◌≤◌, ◌<◌}
use mathlib.Core.Path.{◌≡◌, refl, sym, ap, ◌∙◌, subst}
use mathlib.Core.Bool.{Bool, true, false, cond}
use mathlib.Core.List.{List, [], ◌∷◌, ◌++◌, append-nil, append_assoc}
use native.Mathlib.Omega.{arith}
use lib.Dec.{eqb}
use lib.ListN.{length, drop, get_or, length-append, get_or-map}
use Rattle.kit.specs.Decimal.{decimal}
use Rattle.kit.specs.Loops.{lines}
use Rattle.kit.proofs.Decimal.{decimal_short}
use Rattle.kit.proofs.Steps.{left_at}
use Rattle.handle.specs.declared.Handle.{Handle}
use Rattle.handle.specs.Handle.{id_of}
use Rattle.store.specs.Graph.{handle}
use Rattle.groups.specs.Groups.{numbers}
use Rattle.writing.specs.Marks.{sign_of, walk_step, path_step, walk_text, path_text}
use Rattle.drawing.specs.declared.step.Pen.{Pen}
use Rattle.drawing.specs.Capped.{Capped}
use Rattle.drawing.specs.Drawn.{step_text, later, steps_text, mark_after, Drawn}
use Rattle.drawing.proofs.Capping.{Capping, capping_next, capping_all, capping_stop}

-- how long a step is
module _ (h : Handle) (k : h.packed < 2 ^ 64) where
  digits : length (decimal (id_of h)) ≤ 20
  digits = decimal_short (id_of h) (omega arith)

  whole : length (path_step h) ≡ length (decimal (id_of h)) + 1
  whole = length-append (decimal (id_of h)) (sign_of h ∷ [])

  pub step_short : (mark : ℕ) → length (step_text mark h) ≤ 22
  step_short mark = by (eqb mark 0) (eqb mark 1)
    where
      by : (a b : Bool) → length (cond a (walk_step h) (cond b (path_step h) (44 ∷ path_step h))) ≤ 22
      by true b = omega (arith, digits)
      by false true = omega (arith, digits, whole)
      by false false = omega (arith, digits, whole)

steps-append : (mark : ℕ) (a b : List Handle) → steps_text mark (a ++ b) ≡ steps_text mark a ++ steps_text (mark_after mark a) b
steps-append mark [] b = refl
steps-append mark (h ∷ a) b =
    ap (λ (l : List ℕ). step_text mark h ++ l) (steps-append (later mark) a b)
    ∙ sym (append_assoc (step_text mark h) (steps_text (later mark) a) (steps_text (mark_after (later mark) a) b))

pub walk_text_lem : (hs : List Handle) → steps_text 0 hs ≡ walk_text hs
unfolding walk_text
walk_text_lem [] = refl
walk_text_lem (h ∷ hs) = ap (λ (l : List ℕ). walk_step h ++ l) (walk_text_lem hs)

later-text : (k : Handle) (hs : List Handle) → steps_text 2 (k ∷ hs) ≡ 44 ∷ path_text (k ∷ hs)
unfolding path_text
later-text k [] = ap (λ (l : List ℕ). 44 ∷ l) (append-nil (path_step k))
later-text k (h ∷ hs) = ap (λ (l : List ℕ). 44 ∷ (path_step k ++ l)) (later-text h hs)

pub path_text_lem : (hs : List Handle) → steps_text 1 hs ≡ path_text hs
unfolding path_text
path_text_lem [] = refl
path_text_lem (h ∷ []) = append-nil (path_step h)
path_text_lem (h ∷ k ∷ hs) = ap (λ (l : List ℕ). path_step h ++ l) (later-text k hs)

pub drawn_is : {stop : ℕ} {l : List ℕ} {p : Pen} {a b : List Handle} {m : List ℕ} {q : Pen} → a ≡ b → Drawn stop l p a m q → Drawn stop l p b m q
drawn_is {stop} {l} {p} {a} {b} {m} {q} e d = subst (λ (x : List Handle). Drawn stop l p x m q) e d

-- the packed number of a walk's step is that step
pub image-more : (hs : List Handle) (j x : ℕ) → j < length hs → x ≡ get_or (numbers hs) j 0 → drop j hs ≡ (handle x ∷ []) ++ drop (j + 1) hs
image-more hs j x h e =
    left_at hs j (handle 0) h
    ∙ ap (λ (y : Handle). y ∷ drop (j + 1) hs) (sym (ap handle (e ∙ get_or-map (λ (y : Handle). y.packed) hs j (handle 0))))

-- a loop over steps: the pen began as p and is q now; these are left
pub record Drawing (stop : ℕ) (l : List ℕ) (p : Pen) (all : List Handle) (m : List ℕ) (q : Pen) (rest : List Handle) : Type 0 where
  pub text : Capping stop l p.place (steps_text p.mark all) m q.place (steps_text q.mark rest)
  pub ends : mark_after q.mark rest ≡ mark_after p.mark all

mark_append : (mark : ℕ) (a b : List Handle) → mark_after mark (a ++ b) ≡ mark_after (mark_after mark a) b
mark_append mark [] b = refl
mark_append mark (h ∷ a) b = mark_append (later mark) a b

module _ {stop : ℕ} {l : List ℕ} {p : Pen} {all : List Handle} {m : List ℕ} {q : Pen} where
  -- a turn writes a
  pub drawing-next : {a rest more : List Handle} {k : List ℕ} {r : Pen} → Drawing stop l p all m q more → more ≡ a ++ rest → Drawn stop m q a k r → length k ≡ length m → Drawing stop l p all k r rest
  drawing-next {a} {rest} {more} {k} {r} d e w s =
      record {
        text = capping_next d.text (ap (steps_text q.mark) e ∙ steps-append q.mark a rest ∙ ap (λ (n : ℕ). steps_text q.mark a ++ steps_text n rest) (sym w.next)) w.written s;
        ends = ap (λ (n : ℕ). mark_after n rest) w.next ∙ sym (mark_append q.mark a rest) ∙ sym (ap (mark_after q.mark) e) ∙ d.ends;
      }

  pub drawing-all : {rest : List Handle} → Drawing stop l p all m q rest → rest ≡ [] → Drawn stop l p all m q
  drawing-all {rest} d e =
      record {
        written = capping_all d.text (ap (steps_text q.mark) e);
        next = sym (ap (mark_after q.mark) e) ∙ d.ends;
      }

-- a loop over the steps of a path or a walk, each of which gives an image: h, which is the first that is left, was written
module _ (f : Handle → List Handle) {stop : ℕ} {l : List ℕ} {at : ℕ} {all m k : List ℕ} {q r : Pen} {hs tail : List Handle} {h g : Handle} (d : Capping stop l at all m q.place (steps_text q.mark (lines f hs))) (e : hs ≡ g ∷ tail) (v : h ≡ g) (w : Drawn stop m q (f h) k r) (s : length k ≡ length m) where
  pub walk_next : Capping stop l at all k r.place (steps_text r.mark (lines f tail))
  walk_next =
      let x : Drawn stop m q (f g) k r = drawn_is (ap f v) w in
      capping_next d (ap (λ (y : List Handle). steps_text q.mark (lines f y)) e ∙ steps-append q.mark (f g) (lines f tail) ∙ ap (λ (n : ℕ). steps_text q.mark (f g) ++ steps_text n (lines f tail)) (sym x.next)) x.written s

  pub walk_end : tail ≡ [] → Capped stop l at all k r.place
  walk_end z = capping_all walk_next (ap (λ (y : List Handle). steps_text r.mark (lines f y)) z)

  pub walk_stop : stop ≤ r.place → Capped stop l at all k stop
  walk_stop z = capping_stop walk_next z
