-- The walk of a rule, step by step, and the row of an old node.
use Prim.Native.Nat.{ℕ, ◌+◌, ◌*◌, ◌^◌, ◌≤◌, ◌<◌}
use mathlib.Core.Path.{◌≡◌, refl, sym, ap, ◌∙◌, fun_ext}
use mathlib.Core.Bool.{Bool, true, false, cond}
use mathlib.Core.List.{List, [], ◌∷◌, ◌++◌}
use native.Mathlib.Nat.{add-zero}
use native.Mathlib.Omega.{arith}
use borrow.Author.Tests.{eq-eqb}
use lib.ListN.{length, drop, get_or, length-append, drop_of_length-le}
use Rattle.kit.specs.Decimal.{decimal}
use Rattle.kit.specs.Loops.{lines}
use Rattle.kit.proofs.Steps.{left_at}
use Rattle.kit.proofs.Writes.{lines_more, lines_end}
use Rattle.handle.specs.declared.Handle.{Handle}
use Rattle.handle.specs.Handle.{id_of, dir_of, same_handle}
use Rattle.store.specs.declared.Counts.{Counts}
use Rattle.store.specs.Graph.{Graph, handle, nodes_of, graph_of}
use Rattle.store.specs.Views.{len_of}
use Rattle.events.specs.Events.{Rules, rule, steps_of}
use Rattle.events.specs.declared.Rule.{Rule}
use Rattle.rewriting.specs.Rewriting.{ruled, rule_under, nodes_on, transform_node}
use Rattle.rewriting.specs.Measure.{towards}
use Rattle.rewriting.proofs.Tables.{length-on, on-at}
use Rattle.rewriting.proofs.Images.{no_rule, by_rule}
use Rattle.text.specs.Bytes.{bytes}
use Rattle.writing.specs.Filled.{Filled}
use Rattle.writing.specs.Marks.{walk_step, walk_text}
use Rattle.writing.specs.TableText.{heading, just_itself, table_line, old_segments, table_text}

-- a walk of another length than one, and one of that
not-one : (h : Handle) (hs : List Handle) → (length hs ≡ 1 → ⊥) → just_itself h hs ≡ false
not-one h [] n = refl
not-one h (k ∷ []) n = absurd (n refl)
not-one h (k ∷ l ∷ hs) n = refl

only_one : (h : Handle) (hs : List Handle) → length hs ≡ 1 → just_itself h hs ≡ same_handle h (get_or hs 0 (handle 0))
only_one h [] e = absurd (omega arith)
only_one h (k ∷ []) e = refl
only_one h (k ∷ l ∷ hs) e = absurd (omega arith)

module _ (total : ℕ) (l : List ℕ) (first count : ℕ) (h : first + count ≤ total) where
  on : List Handle
  on = nodes_on (steps_of total l) (rule 0 0 first count)

  -- a turn of the loop along it, and its end
  pub walk_more : (j : ℕ) → j < count → lines walk_step (drop j (nodes_on (steps_of total l) (rule 0 0 first count))) ≡ walk_step (handle (get_or l (2 * (first + j)) 0)) ++ lines walk_step (drop (j + 1) (nodes_on (steps_of total l) (rule 0 0 first count)))
  unfolding on
  walk_more j k =
      lines_more walk_step (left_at on j (handle 0) (omega (arith, length-on total l first count h)) ∙ ap (λ (x : Handle). x ∷ drop (j + 1) on) (on-at total l first count h j k))

  pub walk_end : (j : ℕ) → count ≤ j → lines walk_step (drop j (nodes_on (steps_of total l) (rule 0 0 first count))) ≡ []
  unfolding on
  walk_end j k = lines_end walk_step (drop_of_length-le on {i = j} (omega (arith, length-on total l first count h)))

  pub itself_not : (u : Handle) → (count ≡ 1 → ⊥) → false ≡ just_itself u (nodes_on (steps_of total l) (rule 0 0 first count))
  unfolding on
  itself_not u n = sym (not-one u on (λ e. n (omega (arith, length-on total l first count h))))

  pub itself_one : (u : Handle) → count ≡ 1 → same_handle u (handle (get_or l (2 * first) 0)) ≡ just_itself u (nodes_on (steps_of total l) (rule 0 0 first count))
  unfolding on
  itself_one u e =
      let q : get_or on 0 (handle 0) ≡ handle (get_or l (2 * first) 0) = on-at total l first count h 0 (omega arith) ∙ ap (λ (k : ℕ). handle (get_or l (2 * k) 0)) (add-zero first) in
      ap (same_handle u) (sym q) ∙ sym (only_one u on (omega (arith, length-on total l first count h)))

-- what an old node of `len` letters has, whose walk is hs
abbrev row_of : Handle → ℕ → List Handle → List ℕ
row_of h len hs = cond (just_itself h hs) [] (decimal (id_of h) ++ bytes "\t" ++ walk_text hs ++ bytes "\t" ++ decimal len ++ bytes "\n")

module _ (g : Graph) (t : Rules) (h : Handle) where
  row_by : (hs : List Handle) → transform_node g t h ≡ hs → table_line g t h ≡ row_of h (len_of g (id_of h)) hs
  unfolding table_line
  row_by hs e = ap (row_of h (len_of g (id_of h))) e

  -- no longer than with its line
  pub row-length : length (table_line g t h) ≤ length (decimal (id_of h)) + length (walk_text (transform_node g t h)) + length (decimal (len_of g (id_of h))) + 3
  row-length = omega (arith, ap length (row_by (transform_node g t h) refl), by (just_itself h (transform_node g t h)))
    where
      by : (b : Bool) → length (cond b [] (decimal (id_of h) ++ bytes "\t" ++ walk_text (transform_node g t h) ++ bytes "\t" ++ decimal (len_of g (id_of h)) ++ bytes "\n")) ≤ length (decimal (id_of h)) + length (walk_text (transform_node g t h)) + length (decimal (len_of g (id_of h))) + 3
      by true = omega arith
      by false = simp length-append (omega arith)

  pub row-alone : ruled (id_of h) (len_of g (id_of h)) t.rules ≡ false → table_line g t h ≡ []
  row-alone f = row_by (h ∷ []) (no_rule g t h f) ∙ rw (eq-eqb h.packed h.packed refl)

  -- by the rule that is found
  pub image_by : dir_of h ≡ 0 → ruled (id_of h) (len_of g (id_of h)) t.rules ≡ true → (r : Rule) → rule_under (id_of h) (len_of g (id_of h)) t.rules ≡ r → transform_node g t h ≡ nodes_on t.steps r
  image_by z e r q =
      by_rule g t h e
      ∙ ap (λ (d : ℕ). towards d (nodes_on t.steps (rule_under (id_of h) (len_of g (id_of h)) t.rules))) z
      ∙ ap (nodes_on t.steps) q

  module _ (hs : List Handle) (e : transform_node g t h ≡ hs) where
    pub row_itself : just_itself h hs ≡ true → table_line g t h ≡ []
    row_itself b = row_by hs e ∙ rw b

    module _ (b : just_itself h hs ≡ false) (at id len : ℕ) (p : id ≡ id_of h) (q : len ≡ len_of g (id_of h)) where
      row_is : table_line g t h ≡ decimal id ++ bytes "\t" ++ walk_text hs ++ bytes "\t" ++ decimal len ++ bytes "\n"
      row_is = row_by hs e ∙ rw (b, q, p)

      pub row_fits : at + length (table_line g t h) < 2 ^ 64 → at + length (decimal id) + length (walk_text hs) + length (decimal len) + 3 < 2 ^ 64
      row_fits k = omega (arith, simp length-append at (ap length row_is))

      pub row-filled : {l m : List ℕ} {next : ℕ} → Filled l at (decimal id ++ bytes "\t" ++ walk_text hs ++ bytes "\t" ++ decimal len ++ bytes "\n") m next → Filled l at (table_line g t h) m next
      row-filled w = rw row_is w

-- neither letters nor links are read
pub table-bare : (nodes letters links : List ℕ) (c : Counts) (t : Rules) → table_text (graph_of nodes [] [] c) t ≡ table_text (graph_of nodes letters links c) t
unfolding table_line
table-bare nodes letters links c t =
    ap (λ (f : Handle → List ℕ). heading ++ lines f (old_segments (nodes_of c.nodes nodes)))
    (fun_ext {f = table_line (graph_of nodes [] [] c) t} {g = table_line (graph_of nodes letters links c) t} (λ h. refl))
