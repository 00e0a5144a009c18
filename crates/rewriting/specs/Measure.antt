-- How long a rewritten walk is, before any of it is written; and one direction of a rule's walk.
use Rattle.std.specs.Prelude.{ℕ, cond, List, eqb}
use Rattle.kit.specs.Loops.{sum}
use Rattle.handle.specs.declared.Handle.{Handle}
use Rattle.handle.specs.Handle.{id_of}
use Rattle.store.specs.declared.Node.{Node}
use Rattle.spelling.specs.Spelling.{turn_walk}
use Rattle.spelling.specs.Measure.{step_len}
use Rattle.events.specs.declared.Rule.{Rule}
use Rattle.rewriting.specs.Rewriting.{ruled, rule_under}

-- a walk as a direction has it: 0 is forward, any other number reverse
abbrev pub towards : ℕ → List Handle → List Handle
towards dir hs = cond (eqb dir 0) hs (turn_walk hs)

-- how many steps stand for a node
abbrev pub image_len : List Rule → ℕ → ℕ → ℕ
image_len rules id len = cond (ruled id len rules) (rule_under id len rules).steps 1

abbrev pub new_len : List Node → List Rule → Handle → ℕ
new_len nodes rules h = image_len rules (id_of h) (step_len nodes h)

abbrev pub new_walk_len : List Node → List Rule → List Handle → ℕ
new_walk_len nodes rules hs = sum (new_len nodes rules) hs
