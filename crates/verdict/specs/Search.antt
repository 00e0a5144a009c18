-- 28: where a rule's steps stand.
use Rattle.events.specs.declared.Rule.{Rule}
use Rattle.verdict.specs.declared.repeats.Walk.{Walk}

abbrev pub walk_at : Rule → Walk
walk_at r = record { first = r.first; count = r.steps }
