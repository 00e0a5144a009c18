use borrow.Author.Rules.{rules}
use Rattle.text.specs.Pieces.{lines_of}
use Rattle.text.specs.Fields.{line_number}
use Rattle.paths.specs.PathText.{is_path_line}
use Rattle.paths.proofs.Refusing.{first-kept}
use Rattle.paths.proofs.number.check_lines.Goals as goal

pub loop-from-init : goal.loop-from-init
loop-from-init c = (search rules, first-kept is_path_line line_number (lines_of c.args.text.now))
