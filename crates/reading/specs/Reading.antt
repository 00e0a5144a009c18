-- Reading a text in two passes: 01 "Numbers that say no", last paragraph; 01 "Reading and writing".
use Rattle.std.specs.Prelude.{ℕ, Bool, cond, not, List, [], ◌∷◌, ◌++◌, eqb, length}
use Rattle.handle.specs.declared.Edge.{Edge}
use Rattle.handle.specs.Edge.{written}
use Rattle.store.specs.declared.Counts.{Counts}
use Rattle.store.specs.Graph.{Graph, node, link}
use Rattle.store.specs.Views.{stored, linked}
use Rattle.formed.specs.WellFormed.{room_for}
use Rattle.spelling.specs.Spelling.{all_stored}
use Rattle.text.specs.Pieces.{lines_of, field, is_line}
use Rattle.text.specs.Names.{name_id}
use Rattle.text.specs.Fields.{line_number, edge_of, handles_said}

-- the arrays of a store that a text is read into
pub record Store : Type 0 where
  pub nodes : List ℕ
  pub letters : List ℕ
  pub links : List ℕ

abbrev pub store : List ℕ → List ℕ → List ℕ → Store
store nodes letters links = record { nodes = nodes; letters = letters; links = links }

abbrev pub counts_of : Graph → Counts
counts_of g = record { nodes = length g.nodes; letters = length g.letters; links = length g.links }

-- 7: inside the lent room and the limits
abbrev pub fits_in : Store → Graph → Bool
fits_in l g = room_for l.nodes l.letters l.links (counts_of g)

-- what has been read, and the number of what stopped it, 0 where nothing did
pub record Progress : Type 0 where
  pub number : ℕ
  pub graph : Graph

abbrev pub stopped : ℕ → Graph → Progress
stopped number g = record { number = number; graph = g }

abbrev pub going : Graph → Progress
going g = stopped 0 g

abbrev pub goes_on : Progress → Bool
goes_on r = eqb r.number 0

-- one more segment, its letters after those before it
abbrev pub with_segment : Graph → ℕ → List ℕ → Graph
with_segment g id s =
    record {
      nodes = g.nodes ++ (node id (length g.letters) (length s) 0 ∷ []);
      letters = g.letters ++ s;
      links = g.links;
    }

-- one more link in its written form; a repeated link is stored once
abbrev pub with_link : Graph → Edge → Graph
with_link g e =
    record {
      nodes = g.nodes;
      letters = g.letters;
      links = cond (linked e g.links) g.links (g.links ++ (link (written e) 0 ∷ []));
    }

-- a segment that its own line does not refuse: 5, then 7
abbrev pub add_segment : Store → Graph → ℕ → List ℕ → Progress
add_segment l g id s =
    cond (stored id g.nodes) (stopped 5 g)
    (cond (not (fits_in l (with_segment g id s))) (stopped 7 g)
    (going (with_segment g id s)))

-- pass one: what the line itself is refused for, then its segment
unfoldable pub pass_one_line : Store → Graph → List ℕ → Progress
pass_one_line l g line =
    cond (not (eqb (line_number line) 0)) (stopped (line_number line) g)
    (cond (is_line 83 line) (add_segment l g (name_id (field 1 line)) (field 2 line))
    (going g))

abbrev pub add_link : Store → Graph → Edge → Progress
add_link l g e = cond (fits_in l (with_link g e)) (going (with_link g e)) (stopped 7 g)

-- pass two: 6, then 7
unfoldable pub pass_two_line : Store → Graph → List ℕ → Progress
pass_two_line l g line =
    cond (not (all_stored g.nodes (handles_said line))) (stopped 6 g)
    (cond (is_line 76 line) (add_link l g (edge_of line))
    (going g))

-- line by line, up to the first that is refused
abbrev pub pass : (Graph → List ℕ → Progress) → Progress → List (List ℕ) → Progress
pass f r [] = r
pass f r (line ∷ lines) = pass f (cond (goes_on r) (f r.graph line) r) lines

abbrev pub empty : Graph
empty = record { nodes = []; letters = []; links = [] }

abbrev pub read_text : Store → List ℕ → Progress
read_text l text = pass (pass_two_line l) (pass (pass_one_line l) (going empty) (lines_of text)) (lines_of text)
