-- Walks turned round, what they spell, and how long that is.
use Prim.Native.Nat.{ℕ, zero, suc, ◌+◌, ◌-◌, ◌≤◌}
use mathlib.Core.Path.{◌≡◌, refl, sym, ap, ap₂, ◌∙◌, fun_ext}
use mathlib.Core.Bool.{Bool, true, false, cond}
use mathlib.Core.List.{List, [], ◌∷◌, ◌++◌, append_assoc, append-nil}
use native.Mathlib.Omega.{arith}
use lib.ListN.{length, get_or, length-append, get_or-append}
use lib.Seq.{get_or_at}
use Rattle.kit.specs.Loops.{all, sum, lines}
use Rattle.kit.proofs.Bools.{and_true_l, and_true_r}
use Rattle.kit.proofs.Meaning.{lines-append}
use Rattle.letters.specs.Sequences.{all_letters, rev_comp, oriented}
use Rattle.letters.proofs.Sequences.{rev_comp-append, rev_comp-rev_comp}
use Rattle.handle.specs.declared.Handle.{Handle}
use Rattle.handle.specs.Handle.{id_of, dir_of, flip}
use Rattle.handle.proofs.Handles.{id-flip, dir_flip, dir_small, flip-flip}
use Rattle.store.specs.declared.Counts.{Counts}
use Rattle.store.specs.Graph.{Graph, graph_of, nodes_of}
use Rattle.store.specs.declared.Node.{Node}
use Rattle.store.specs.Views.{named, node_named, span, spell}
use Rattle.formed.specs.WellFormed.{good_node}
use Rattle.formed.proofs.Says.{node_says}
use Rattle.affix.specs.Reading.{Readable, reading_of}
use Rattle.affix.proofs.LookedUp.{inside, reads, length-read}
use Rattle.spelling.specs.Spelling.{turn_walk, spell_walk}
use Rattle.spelling.specs.Measure.{walk_len}

-- reversed and flipped: a walk of two parts, and back again
pub turn-append : (a b : List Handle) → turn_walk (a ++ b) ≡ turn_walk b ++ turn_walk a
turn-append [] b = sym (append-nil (turn_walk b))
turn-append (h ∷ a) b = ap (λ (l : List Handle). l ++ (flip h ∷ [])) (turn-append a b) ∙ append_assoc (turn_walk b) (turn_walk a) (flip h ∷ [])

pub turn-turn : (a : List Handle) → turn_walk (turn_walk a) ≡ a
turn-turn [] = refl
turn-turn (h ∷ a) = turn-append (turn_walk a) (flip h ∷ []) ∙ ap₂ ◌∷◌ (flip-flip h) (turn-turn a)

pub length-turn : (a : List Handle) → length (turn_walk a) ≡ length a
length-turn [] = refl
length-turn (h ∷ a) = length-append (turn_walk a) (flip h ∷ []) ∙ omega (arith, length-turn a)

-- step i of the walk turned round is step j flipped, counted from the other end
pub turn_at : (a : List Handle) (i j : ℕ) (d : Handle) → i + j + 1 ≡ length a → get_or (turn_walk a) i d ≡ flip (get_or a j d)
turn_at [] i j d e = absurd (omega arith)
turn_at (h ∷ a) i zero d e = get_or_at (turn_walk a) (flip h) [] d i (length-turn a ∙ omega arith)
turn_at (h ∷ a) i (suc j) d e =
    get_or-append (turn_walk a) (flip h ∷ []) d i (omega (arith, length-turn a)) ∙ turn_at a i j d (omega arith)

-- a reading, turned
oriented-turn : (s : List ℕ) → all_letters s ≡ true → (d : ℕ) → d ≤ 1 → oriented (1 - d) s ≡ rev_comp (oriented d s)
oriented-turn s h zero k = refl
oriented-turn s h (suc zero) k = sym (rev_comp-rev_comp s h)
oriented-turn s h (suc (suc d)) k = absurd (omega arith)

-- every node that is looked up has letters alone, also where it is not stored
named-letters : (letters : List ℕ) (id : ℕ) (rs : List Node) → all (good_node letters) rs ≡ true → all_letters (span letters (node_named id rs)) ≡ true
named-letters letters id [] t = refl
named-letters letters id (r ∷ rs) t = by (named id r) (named-letters letters id rs (and_true_r (good_node letters r) (all (good_node letters) rs) t))
  where
    by : (b : Bool) → all_letters (span letters (node_named id rs)) ≡ true → all_letters (span letters (cond b r (node_named id rs))) ≡ true
    by true h = (node_says letters r (and_true_l (good_node letters r) (all (good_node letters) rs) t)).ten_letters
    by false h = h

module _ (g : Graph) (ok : all (good_node g.letters) g.nodes ≡ true) where
  pub spell-flip : (h : Handle) → spell g (flip h) ≡ rev_comp (spell g h)
  spell-flip h =
      ap₂ (λ (id d : ℕ). oriented d (span g.letters (node_named id g.nodes))) (id-flip h) (dir_flip h)
      ∙ oriented-turn (span g.letters (node_named (id_of h) g.nodes)) (named-letters g.letters (id_of h) g.nodes ok) (dir_of h) (dir_small h)

  -- a walk turned round spells the reverse complement
  pub spell-turn : (hs : List Handle) → spell_walk g (turn_walk hs) ≡ rev_comp (spell_walk g hs)
  spell-turn [] = refl
  spell-turn (h ∷ hs) =
      lines-append (spell g) (turn_walk hs) (flip h ∷ [])
      ∙ ap₂ ◌++◌ (spell-turn hs) (append-nil (spell g (flip h)) ∙ spell-flip h)
      ∙ sym (rev_comp-append (spell g h) (spell_walk g hs))

-- the length of what is written, step by step
pub length-lines : {A B : Type 0} (f : A → List B) (rs : List A) → length (lines f rs) ≡ sum (λ a. length (f a)) rs
length-lines f [] = refl
length-lines f (a ∷ rs) = length-append (f a) (lines f rs) ∙ ap (λ (n : ℕ). length (f a) + n) (length-lines f rs)

pub spelled-length : (nodes letters : List ℕ) (c : Counts) → Readable nodes letters c → (hs : List Handle) → length (spell_walk (graph_of nodes letters [] c) hs) ≡ walk_len (nodes_of c.nodes nodes) hs
spelled-length nodes letters c ok hs =
    length-lines (spell (graph_of nodes letters [] c)) hs
    ∙ ap (λ (f : Handle → ℕ). sum f hs) (fun_ext (λ h.
    let r = reading_of (nodes_of c.nodes nodes) h in
    sym (ap length (reads nodes letters c ok h r refl)) ∙ length-read letters r (inside nodes letters c ok h r refl)))
