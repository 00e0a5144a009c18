-- 01 "Checked by hand", C1 to C15: one table of what the definitions behind the public operations give, as text, and what 01
-- says.
use Rattle.std.specs.Prelude.{ℕ, cond, List, [], ◌∷◌, ◌++◌, eqb, length, take, get_or, replicate}
use Prim.Native.String.{String}
use Rattle.kit.specs.Decimal.{decimal}
use Rattle.kit.specs.Layout.{encode}
use Rattle.kit.specs.Loops.{lines}
use Rattle.handle.specs.declared.Handle.{Handle}
use Rattle.handle.specs.Handle.{pack}
use Rattle.affix.specs.Prefix.{handles_of}
use Rattle.groups.specs.Groups.{numbers}
use Rattle.events.specs.declared.Used.{Used}
use Rattle.events.specs.Events.{Event, rule_layout, step_layout, unpack_rule, steps_of, step_to, walk_of, event, append_all}
use Rattle.events.specs.declared.Rule.{Rule}
use Rattle.events.specs.declared.Step.{Step}
use Rattle.text.specs.Bytes.{bytes}
use Rattle.text.specs.Steps.{path_handles}
use Rattle.text.specs.Header.{header_of}
use Rattle.reading.specs.Reading.{store}
use Rattle.reading.specs.Outcome.{read_outcome}
use Rattle.writing.specs.Marks.{walk_text, path_text}
use Rattle.writing.specs.Outcome as written
use Rattle.collapsing.specs.Outcome as state
use Rattle.asking.specs.GetSharedPrefix.{shared_prefix_outcome}
use Rattle.asking.specs.EnumerateBranch.{branch_outcome}
use Rattle.walking.specs.SpellWalk.{spell_outcome}
use Rattle.walking.specs.TransformWalk.{transform_outcome}
use Rattle.walking.specs.Expand.{expand_outcome}
use Rattle.checking.specs.CheckTransform.{Lent, lent, check_outcome}
use Rattle.folding.specs.CollapseAll.{collapse_all_outcome}
use Rattle.texts.specs.PrintActiveSubgraph.{subgraph_outcome}
use Rattle.texts.specs.PrintTransformations.{table_outcome}
use Rattle.texts.specs.ParseAndTransformPaths.{paths_outcome}

-- room for all of it
abbrev pub room : List ℕ
room = replicate 100 0

-- what was written, where nothing was refused
abbrev pub done : ℕ → List ℕ → List ℕ
done number text = cond (eqb number 0) text (bytes "refused")

-- a graph as it is read from a text
abbrev pub loaded : List ℕ → Lent
loaded text =
    let o = read_outcome (store room room room) text in
    lent o.arrays.nodes o.arrays.letters o.arrays.links o.answer.counts

-- the oriented nodes that a path says
abbrev pub said : String → List ℕ
said path = numbers (path_handles (bytes path))

-- the shared prefix of members
abbrev pub prefix_of : String → String → List ℕ
prefix_of graph members =
    let g = loaded (bytes graph) in
    let o = shared_prefix_outcome g.nodes g.letters g.links g.counts (said members) room in
    done o.answer.number (take o.answer.length o.room)

-- what a walk spells
abbrev pub spelling : String → String → List ℕ
spelling graph walk =
    let g = loaded (bytes graph) in
    let o = spell_outcome g.nodes g.letters g.links g.counts (said walk) room in
    done o.answer.number (take o.answer.length o.room)

-- an event list or a table as it is lent
pub record Table : Type 0 where
  pub rules : List ℕ
  pub steps : List ℕ
  pub used : Used

abbrev pub table : List Event → Table
table es =
    let t = append_all (record { rules = []; steps = [] }) es in
    record {
      rules = encode rule_layout t.rules;
      steps = encode step_layout t.steps;
      used = record { rules = length t.rules; steps = length t.steps };
    }

-- a step, forward or reversed, and its recorded length
abbrev pub fwd : ℕ → ℕ → Step
fwd id len = step_to (pack id 0) len

abbrev pub rev : ℕ → ℕ → Step
rev id len = step_to (pack id 1) len

-- a walk rewritten by a table
abbrev pub rewritten : String → Table → String → List ℕ
rewritten graph t walk =
    let g = loaded (bytes graph) in
    let o = transform_outcome g.nodes g.letters g.links g.counts t.rules t.steps t.used (said walk) room in
    done o.answer.number (walk_text (handles_of (take o.answer.length o.room)))

-- how many groups an oriented node has, and the members of the first
abbrev pub branch : String → Handle → List ℕ
branch graph v =
    let g = loaded (bytes graph) in
    let o = branch_outcome g.nodes g.letters g.links g.counts v.packed room room in
    done o.answer.number (decimal o.answer.groups ++ bytes ": " ++ path_text (handles_of (take (get_or o.ends 0 0) o.members)))

-- the table that an event list is expanded into
abbrev pub expand : Table → Table
expand t =
    let o = expand_outcome t.rules t.steps t.used room room in
    record { rules = o.rules; steps = o.steps; used = o.answer.used }

-- a rule's key and its walk, each step with its length
abbrev pub rule_text : List Step → Rule → List ℕ
rule_text steps r =
    bytes "(" ++ decimal r.id ++ bytes "," ++ decimal r.len ++ bytes ")"
    ++ lines (λ s. bytes " " ++ path_text (s.node ∷ []) ++ bytes ":" ++ decimal s.len) (walk_of steps r)

-- the first rule of a table
abbrev pub first_rule : Table → List ℕ
first_rule t = rule_text (steps_of t.used.steps t.steps) (unpack_rule t.rules)

-- what becomes of a text: the graph as it is read, the graph after collapse_all from no events on, and the table
pub record Made : Type 0 where
  pub old : Lent
  pub new : Lent
  pub table : Table

unfoldable pub made : List ℕ → Made
made text =
    let g = loaded text in
    let none : Used = record { rules = 0; steps = 0 } in
    let d = collapse_all_outcome (state.lent g.nodes g.links room room) g.letters g.counts none [] in
    record {
      old = g;
      new = lent d.arrays.nodes g.letters d.arrays.links d.answer.counts;
      table = expand (record { rules = d.arrays.rules; steps = d.arrays.steps; used = d.answer.used });
    }

abbrev pub wrote : written.Outcome → List ℕ
wrote o = done o.answer.number (take o.answer.len o.room)

-- header, live graph, paths, then the table
abbrev pub printed : List ℕ → Made → List ℕ
printed text m =
    let t = m.table in
    header_of text [] ++ bytes "\n"
    ++ wrote (subgraph_outcome m.new.nodes m.new.letters m.new.links m.new.counts room)
    ++ wrote (paths_outcome text m.old.nodes m.old.letters m.old.links m.old.counts t.rules t.steps t.used room)
    ++ wrote (table_outcome m.old.nodes m.old.letters m.old.links m.old.counts t.rules t.steps t.used room)

-- the verdict's number and its two places
abbrev pub checked : Lent → Lent → Table → List ℕ → List ℕ
checked old new t protected =
    let v = check_outcome old new t.rules t.steps t.used protected in
    decimal v.number ++ bytes " " ++ decimal v.first ++ bytes " " ++ decimal v.second

-- each ended by a newline
abbrev pub text : List String → List ℕ
text ls = lines (λ l. bytes l ++ bytes "\n") ls

abbrev pub c8 : List String
c8 =
    "H\tVN:Z:1.1"
    ∷ "S\t1\tA"
    ∷ "S\t2\tACG"
    ∷ "S\t3\tACT"
    ∷ "L\t1\t+\t2\t+\t0M"
    ∷ "L\t1\t+\t3\t+\t0M"
    ∷ "P\tx\t1+,3+\t*"
    ∷ []

-- C8's output, then its table
abbrev pub c8_out : List String
c8_out =
    "H\tVN:Z:1.1"
    ∷ "S\t1\tA"
    ∷ "S\t2\tAC"
    ∷ "S\t4\tG"
    ∷ "S\t5\tT"
    ∷ "L\t1\t+\t2\t+\t0M"
    ∷ "L\t2\t+\t4\t+\t0M"
    ∷ "L\t2\t+\t5\t+\t0M"
    ∷ "P\tx\t1+,2+,5+\t*"
    ∷ "original_node\ttransformed_walk\tbp_length"
    ∷ "2\t>2>4\t3"
    ∷ "3\t>2>5\t3"
    ∷ []

pub record Row : Type 0 where
  pub name : String
  pub gives : List ℕ
  pub says : List ℕ

abbrev pub row : String → List ℕ → List ℕ → Row
row name gives says = record { name = name; gives = gives; says = says }

-- m is what becomes of C8's text
abbrev pub rows : Made → List Row
rows m =
    row "C1" (prefix_of "S\t1\tACG\nS\t2\tacT\n" "1+,2+") (bytes "AC")
    ∷ row "C2" (prefix_of "S\t1\tANG\nS\t2\tANG\n" "1+,2+") (bytes "A")
    ∷ row "C3" (prefix_of "S\t1\tACNT\n" "1+") (bytes "AC")
    ∷ row "C4" (prefix_of "S\t1\tNA\nS\t2\tNA\n" "1+,2+") (bytes "")
    ∷ row "C5" (spelling "S\t1\tAcN\n" "1-") (bytes "NgT")
    ∷ row "C6" (rewritten "S\t2\tACG\n" (table (event 2 3 (fwd 2 2 ∷ fwd 4 1 ∷ []) ∷ [])) "2-") (bytes "<4<2")
    ∷ row "C7" (rewritten "S\t5\tAC\n" (table (event 5 2 (fwd 7 1 ∷ rev 8 1 ∷ []) ∷ [])) "5-") (bytes ">8<7")
    ∷ row "C8" (printed (text c8) m) (text c8_out)
    ∷ row "C8, the verdict" (checked m.old m.new m.table []) (bytes "0 0 0")
    ∷ row "C9" (checked m.old m.new (table (event 2 3 (fwd 2 2 ∷ fwd 4 1 ∷ []) ∷ event 3 3 (fwd 2 2 ∷ fwd 4 1 ∷ []) ∷ [])) []) (bytes "25 1 0")
    ∷ row "C10" (checked m.old m.new (table (event 2 3 (fwd 2 1 ∷ fwd 4 2 ∷ []) ∷ event 3 3 (fwd 2 2 ∷ fwd 5 1 ∷ []) ∷ [])) []) (bytes "22 0 0")
    ∷ row "C11" (checked m.old m.new (table (event 2 3 (fwd 2 2 ∷ fwd 4 1 ∷ []) ∷ [])) []) (bytes "26 3 0")
    ∷ row "C12" (checked (loaded (text (c8 ++ ("L\t2\t+\t3\t-\t0M" ∷ [])))) m.new m.table []) (bytes "27 2 0")
    ∷ row "C13" (branch "S\t1\tA\nS\t2\tAC\nS\t3\tGT\nS\t4\taC\nS\t5\tGT\nL\t1\t+\t2\t+\t0M\nL\t1\t+\t3\t-\t0M\nL\t1\t+\t4\t+\t0M\nL\t1\t+\t5\t-\t0M\n" (pack 1 0)) (bytes "1: 5-,3-,2+,4+")
    ∷ row "C14" (first_rule (expand (table (event 2 3 (fwd 2 2 ∷ fwd 4 1 ∷ []) ∷ event 2 2 (fwd 2 1 ∷ fwd 6 1 ∷ []) ∷ [])))) (bytes "(2,3) 2+:1 6+:1 4+:1")
    ∷ row "C15" (checked m.old m.new m.table (2 ∷ 3 ∷ [])) (bytes "28 1 0")
    ∷ []

abbrev pub worked : List Row
worked = rows (made (text c8))
