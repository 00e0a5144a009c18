use mathlib.Core.Path.{◌∙◌}
use Rattle.handle.proofs.Edges.{lt_before}
use Rattle.handle.proofs.Edge.before.Goals as goal

pub returns : goal.returns
returns c = c.lt.ensures ∙ lt_before c.args.self c.args.later
