use mathlib.Core.Path.{sym, ◌∙◌}
use borrow.Author.Rules.{rules}
use Rattle.drawing.proofs.Capping.{capped_none}
use Rattle.paths.proofs.line.add_line.Goals as goal

pub add_path_line-requires : goal.add_path_line-requires
add_path_line-requires c = record { nodes_in_bounds = c.requires.nodes_in_bounds; fact = (search rules, sym c.is_line.ensures ∙ c.if-is_line.true) }

pub returns-then-is_line : goal.returns-then-is_line
returns-then-is_line c = rw (sym c.is_line.ensures ∙ c.if-is_line.true) c.add_path_line.ensures

pub add_walk_line-requires : goal.add_walk_line-requires
add_walk_line-requires c = record { nodes_in_bounds = c.requires.nodes_in_bounds; fact = (search rules, sym c.is_line-2.ensures ∙ c.if-is_line-2.true) }

pub returns-then-is_line-2 : goal.returns-then-is_line-2
returns-then-is_line-2 c = rw (sym c.is_line.ensures ∙ c.if-is_line.false, sym c.is_line-2.ensures ∙ c.if-is_line-2.true) c.add_walk_line.ensures

pub returns : goal.returns
returns c = rw (sym c.is_line.ensures ∙ c.if-is_line.false, sym c.is_line-2.ensures ∙ c.if-is_line-2.false) (capped_none (search rules))
