-- Where a member's letters stand, and how long two sequences agree.
use Rattle.std.specs.Prelude.{ℕ, ◌+◌, ◌*◌, ◌≤◌, ◌≡◌, true, cond, List, [], ◌∷◌, length, take, drop}
use Rattle.kit.specs.Loops.{all}
use Rattle.letters.specs.Letters.{same_letter}
use Rattle.letters.specs.Sequences.{oriented}
use Rattle.handle.specs.declared.Handle.{Handle}
use Rattle.handle.specs.Handle.{id_of, dir_of}
use Rattle.store.specs.declared.Counts.{Counts}
use Rattle.store.specs.Graph.{nodes_of}
use Rattle.store.specs.declared.Node.{Node}
use Rattle.store.specs.Views.{node_named}
use Rattle.formed.specs.WellFormed.{good_node}
use Rattle.affix.specs.declared.Reading.{Reading}

-- 01 "Numbers that say no", 13: what of it the reading of letters leans on
pub record Readable (nodes letters : List ℕ) (c : Counts) : Type 0 where
  pub node_room : 4 * c.nodes ≤ length nodes
  pub letter_room : c.letters ≤ length letters
  pub nodes_good : all (good_node (take c.letters letters)) (nodes_of c.nodes nodes) ≡ true

-- where the letters of an oriented node stand, and which way they are read
abbrev pub reading : ℕ → Node → Reading
reading direction r = record { start = r.start; len = r.len; direction = direction }

abbrev pub reading_of : List Node → Handle → Reading
reading_of nodes h = reading (dir_of h) (node_named (id_of h) nodes)

-- 01 "Nodes, letters, links", oriented nodes: the letters, as read
abbrev pub read : List ℕ → Reading → List ℕ
read letters r = oriented r.direction (take r.len (drop r.start letters))

-- how long two sequences have the same letters, case aside: a shared prefix of two, but for N
abbrev pub agree : List ℕ → List ℕ → ℕ
agree [] t = 0
agree (a ∷ s) [] = 0
agree (a ∷ s) (b ∷ t) = cond (same_letter a b) (1 + agree s t) 0
