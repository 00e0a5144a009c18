use mathlib.Core.Path.{ap, ◌∙◌}
use lib.ListN.{drop}
use Rattle.std.specs.Option.{is_some}
use Rattle.kit.proofs.Meaning.{found_some}
use Rattle.events.specs.Events.{rules_of, keyed}
use Rattle.events.proofs.key_again.Goals as goal

pub returns : goal.returns
returns c =
    let a = c.args in
    c.is_some.ensures ∙ ap is_some c.next_rule.ensures.value ∙ found_some (keyed a.id a.len) a.start (drop a.start (rules_of a.count a.rules.now))
