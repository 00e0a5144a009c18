use mathlib.Core.Path.{refl}
use Rattle.handle.specs.Handle.{flip}
use Rattle.handle.proofs.Handle.flip.Goals as goal

pub returns : goal.returns
unfolding flip
returns c = refl
