-- Texts written one after another into one room: how the parts of the room come together, and that what was written lies in it.
use Prim.Native.Nat.{ℕ, ◌+◌, ◌-◌, ◌≤◌, ◌<◌}
use mathlib.Core.Path.{◌≡◌, refl, sym, ap, ap₂, ◌∙◌}
use mathlib.Core.Bool.{Bool, true, false, cond, not}
use mathlib.Core.List.{List, [], ◌∷◌, ◌++◌, append-nil}
use native.Mathlib.Nat.{zero-add}
use native.Mathlib.Omega.{arith}
use borrow.Author.Tests.{ne_eqb, lt-ltb, le-ltb}
use lib.Dec.{eqb, ltb}
use lib.ListN.{length, take, drop, length-append, length-take, length-drop, drop_of_length-le}
use lib.Seq.{sets, length-sets, take_all}
use Rattle.kit.specs.Put.{Put}
use Rattle.kit.proofs.Writes.{put_then, sets-front}
use Rattle.store.specs.declared.Counts.{Counts}
use Rattle.store.specs.Graph.{nodes_of, graph_of}
use Rattle.formed.specs.WellFormed.{graph_number}
use Rattle.events.specs.declared.Used.{Used}
use Rattle.events.specs.Events.{list_of}
use Rattle.rewriting.specs.Rewriting.{old_number}
use Rattle.text.specs.Header.{header_of}
use Rattle.writing.specs.declared.Written.{Written}
use Rattle.writing.specs.Outcome.{Outcome, outcome, refused, writing}
use Rattle.writing.specs.GraphText.{graph_text}
use Rattle.writing.specs.TableText.{table_text}
use Rattle.paths.specs.PathText.{paths_text, paths_number}
use Rattle.texts.specs.PrintActiveSubgraph.{subgraph_outcome}
use Rattle.texts.specs.PrintTransformations.{table_outcome}
use Rattle.texts.specs.ParseAndTransformPaths.{paths_outcome}
use Rattle.desk.specs.Page.{fallback, head_text, and_then}

-- what was written lies in the room
abbrev pub Inside : Outcome → Type 0
Inside o = o.answer.len ≤ length o.room

pub writing-inside : (text room : List ℕ) → Inside (writing text room)
writing-inside text room = by (ltb (length room) (length text)) refl
  where
    by : (b : Bool) → ltb (length room) (length text) ≡ b → Inside (cond b (refused 7 room) (outcome (record { number = 0; len = length text }) (text ++ drop (length text) room)))
    by true e = omega arith
    by false e = let l : length (text ++ drop (length text) room) ≡ length text + length (drop (length text) room) = length-append text (drop (length text) room) in omega (arith, l)

pub refused_or_inside : (b : Bool) (number : ℕ) (text room : List ℕ) → Inside (cond (not b) (refused number room) (writing text room))
refused_or_inside true number text room = writing-inside text room
refused_or_inside false number text room = omega arith

pub subgraph_inside : (nodes letters links : List ℕ) (c : Counts) (room : List ℕ) → Inside (subgraph_outcome nodes letters links c room)
unfolding subgraph_outcome
subgraph_inside nodes letters links c room = refused_or_inside (eqb (graph_number nodes letters links c) 0) _ (graph_text (graph_of nodes letters links c)) room

module _ (nodes letters links : List ℕ) (c : Counts) (rules steps : List ℕ) (u : Used) (room : List ℕ) where
  pub table-inside : Inside (table_outcome nodes letters links c rules steps u room)
  unfolding table_outcome
  table-inside =
      refused_or_inside (eqb (old_number nodes letters links c rules steps u) 0) _ (table_text (graph_of nodes letters links c) (list_of rules steps u)) room

  either : (a b : Bool) (m n : ℕ) (text : List ℕ) → Inside (cond (not a) (refused m room) (cond (not b) (refused n room) (writing text room)))
  either true b m n text = refused_or_inside b n text room
  either false b m n text = omega arith

  pub paths-inside : (text : List ℕ) → Inside (paths_outcome text nodes letters links c rules steps u room)
  unfolding paths_outcome
  paths-inside text =
      either (eqb (old_number nodes letters links c rules steps u) 0) (eqb (paths_number (nodes_of c.nodes nodes) text) 0) _ _ (paths_text (graph_of nodes letters links c) (list_of rules steps u) text)

pub inside_of : (r : Written) (room : List ℕ) (o : Outcome) → outcome r room ≡ o → Inside o → r.len ≤ length room
inside_of r room o e i =
    let a : r.len ≡ o.answer.len = ap (λ (x : Outcome). x.answer.len) e in
    let b : length room ≡ length o.room = ap (λ (x : Outcome). length x.room) e in
    omega (arith, a, b, i)

-- the header and its newline
module _ (text room header : List ℕ) (e : header ≡ header_of text fallback) where
  long : length (head_text text) ≡ length header + 1
  long = length-append (header_of text fallback) (10 ∷ []) ∙ ap (λ (l : List ℕ). length l + 1) (sym e)

  pub head-refused : length room ≤ length header → outcome (record { number = 7; len = 0 }) room ≡ writing (head_text text) room
  head-refused h = rw (lt-ltb (length room) (length (head_text text)) (omega (arith, long, h)))

  pub head-written : (m k : List ℕ) (at len : ℕ) → length header < length room → Put room 0 header m at → Put m at (10 ∷ []) k len → (outcome (record { number = 0; len = len }) k ≡ writing (head_text text) room) × (len ≤ length k)
  head-written m k at len h p q =
      let w : Put room 0 (header ++ 10 ∷ []) k len = put_then p q in
      let t : header ++ 10 ∷ [] ≡ head_text text = ap (λ (l : List ℕ). l ++ 10 ∷ []) e in
      let n : len ≡ length (head_text text) = w.place ∙ ap (λ (l : List ℕ). 0 + length l) t ∙ zero-add (length (head_text text)) in
      let f : length (head_text text) ≤ length room = omega (arith, long, h) in
      let b : k ≡ head_text text ++ drop (length (head_text text)) room = w.bytes ∙ ap (sets room 0) t ∙ sets-front room (head_text text) f in
      let l : length k ≡ length room = ap length w.bytes ∙ length-sets room 0 (header ++ 10 ∷ []) in
      (rw (le-ltb (length room) (length (head_text text)) f) (ap₂ (λ (x : ℕ) (y : List ℕ). outcome (record { number = 0; len = x }) y) n b), omega (arith, n, f, l))

-- a room whose part from n on was lent: what is lent, and the room when it is back
module _ (n : ℕ) (xs : List ℕ) where
  pub part_whole : take (length xs - n) (drop n xs) ≡ drop n xs
  part_whole = take_all (length xs - n) (drop n xs) (omega (arith, length-drop n xs))

  pub part_back : (ys : List ℕ) → take n xs ++ (ys ++ drop (length xs - n) (drop n xs)) ≡ take n xs ++ ys
  part_back ys =
      let e : drop (length xs - n) (drop n xs) ≡ [] = drop_of_length-le (drop n xs) {i = length xs - n} (omega (arith, length-drop n xs)) in
      ap (λ (zs : List ℕ). take n xs ++ (ys ++ zs)) e ∙ ap (λ (zs : List ℕ). take n xs ++ zs) (append-nil ys)

  pub back_inside : (k : ℕ) (ys : List ℕ) → n ≤ length xs → k ≤ length ys → n + k ≤ length (take n xs ++ (ys ++ drop (length xs - n) (drop n xs)))
  back_inside k ys h i =
      let l : length (take n xs ++ ys) ≡ length (take n xs) + length ys = length-append (take n xs) ys in
      rw (part_back ys) (omega (arith, l, length-take n xs))

module _ (p : Outcome) (next : List ℕ → Outcome) (r : Written) (xs : List ℕ) (e : outcome r xs ≡ p) where
  pub first-refused : (r.number ≡ 0 → ⊥) → outcome r xs ≡ and_then p next
  first-refused z = rw (← e, ne_eqb r.number 0 z)

  module _ (z : r.number ≡ 0) (q : Written) (ys : List ℕ) (f : outcome q ys ≡ next (take (length xs - r.len) (drop r.len xs))) where
    written_next : outcome q ys ≡ next (drop r.len xs)
    written_next = f ∙ ap next (part_whole r.len xs)

    pub next_refused : (q.number ≡ 0 → ⊥) → outcome (record { number = q.number; len = 0 }) (take r.len xs ++ (ys ++ drop (length xs - r.len) (drop r.len xs))) ≡ and_then p next
    next_refused w = rw (← e, z, ← written_next, ne_eqb q.number 0 w, part_back r.len xs ys)

    pub both-written : q.number ≡ 0 → outcome (record { number = 0; len = r.len + q.len }) (take r.len xs ++ (ys ++ drop (length xs - r.len) (drop r.len xs))) ≡ and_then p next
    both-written w = rw (← e, z, ← written_next, w, part_back r.len xs ys)
