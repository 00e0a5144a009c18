use mathlib.Core.Path.{sym, ◌∙◌}
use Rattle.handle.proofs.Handles.{before_packed, derived_lt}
use Rattle.handle.proofs.Handle.before.Goals as goal

pub returns : goal.returns
returns c = c.lt.ensures ∙ derived_lt c.args.self.packed c.args.other.packed ∙ sym (before_packed c.args.self c.args.other)
