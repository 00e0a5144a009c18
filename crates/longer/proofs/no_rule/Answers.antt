use mathlib.Core.Bool.{not}
use mathlib.Core.Path.{ap, ◌∙◌}
use Rattle.std.specs.Option.{is_some}
use Rattle.kit.proofs.Meaning.{found_some}
use Rattle.events.specs.Events.{keyed, rules_of}
use Rattle.longer.proofs.no_rule.Goals as goal

pub returns : goal.returns
returns c =
    let a = c.args in
    ap not (c.is_some.ensures ∙ ap is_some c.find_rule.ensures.value ∙ found_some (keyed a.id a.len) 0 (rules_of a.count a.rules.now))
