-- What goes to the graph's file: 01 "Reading and writing", output: header, graph, paths, in that order.
use Rattle.std.specs.Prelude.{ℕ, ◌+◌, cond, not, List, [], ◌∷◌, ◌++◌, eqb, take, drop}
use Rattle.store.specs.Graph.{Graph}
use Rattle.events.specs.declared.Used.{Used}
use Rattle.events.specs.Events.{Rules}
use Rattle.text.specs.Bytes.{bytes}
use Rattle.text.specs.Header.{header_of}
use Rattle.writing.specs.Outcome.{Outcome, outcome, refused, writing}
use Rattle.writing.specs.GraphText.{graph_text}
use Rattle.paths.specs.PathText.{paths_text}
use Rattle.texts.specs.PrintActiveSubgraph.{subgraph_outcome}
use Rattle.texts.specs.ParseAndTransformPaths.{paths_outcome}
use Rattle.checking.specs.CheckTransform.{Lent}

-- the header where no line begins with H
abbrev pub fallback : List ℕ
fallback = bytes "H\tVN:Z:1.1"

abbrev pub head_text : List ℕ → List ℕ
head_text text = header_of text fallback ++ 10 ∷ []

-- the whole of it
abbrev pub page_text : List ℕ → Graph → Graph → Rules → List ℕ
page_text text old new t = head_text text ++ graph_text new ++ paths_text old t text

-- one text after another in one room: the second is written into what the first leaves of it
abbrev pub and_then : Outcome → (List ℕ → Outcome) → Outcome
and_then p next =
    let n = p.answer.len in
    let o = next (drop n p.room) in
    let room = take n p.room ++ o.room in
    cond (not (eqb p.answer.number 0)) p
    (cond (not (eqb o.answer.number 0)) (refused o.answer.number room)
    (outcome (record { number = 0; len = n + o.answer.len }) room))

-- header, then graph
unfoldable pub headed_outcome : List ℕ → Lent → List ℕ → Outcome
headed_outcome text new room =
    and_then (writing (head_text text) room) (subgraph_outcome new.nodes new.letters new.links new.counts)

-- then paths
unfoldable pub page_outcome : List ℕ → Lent → Lent → List ℕ → List ℕ → Used → List ℕ → Outcome
page_outcome text old new rules steps u room =
    and_then (headed_outcome text new room)
    (paths_outcome text old.nodes old.letters old.links old.counts rules steps u)
