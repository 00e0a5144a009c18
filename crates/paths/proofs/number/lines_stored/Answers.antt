use borrow.Author.Rules.{rules}
use Rattle.store.specs.Graph.{nodes_of}
use Rattle.text.specs.Pieces.{lines_of}
use Rattle.paths.specs.PathText.{is_path_line}
use Rattle.paths.proofs.Refusing.{all-kept}
use Rattle.paths.proofs.number.lines_stored.Invariants.{said}
use Rattle.paths.proofs.number.lines_stored.Goals as goal

pub loop-count-init : goal.loop-count-init
loop-count-init c =
    let a = c.args in
    (search rules, all-kept is_path_line (said (nodes_of a.count a.nodes.now)) (lines_of a.text.now))
