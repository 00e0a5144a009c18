use mathlib.Core.Path.{ap₂, ◌∙◌}
use mathlib.Core.Bool.{cond}
use Rattle.handle.specs.Edge.{edge, written}
use Rattle.handle.specs.Handle.{same_handle}
use Rattle.store.specs.Graph.{handle}
use Rattle.split.proofs.move_ends.Goals as goal

pub returns : goal.returns
returns c =
    let to = handle c.args.to in
    c.written.ensures
    ∙ ap₂ (λ x y. written (edge x y)) c.moved-a.ensures
    (c.moved-b.ensures ∙ ap₂ (λ p q. cond (same_handle to p) q to) c.flip-flip_v.ensures c.flip-flip_f.ensures)
