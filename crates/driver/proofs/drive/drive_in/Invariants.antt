use mathlib.Core.Path.{◌≡◌}
use lib.ListN.{length}
use Rattle.store.specs.Graph.{nodes_of}
use Rattle.store.specs.Views.{live_letters}
use Rattle.collapsing.specs.Outcome.{lent}
use Rattle.driver.proofs.Going.{Going}
use Rattle.driver.proofs.drive.drive_in.Given as goal

abbrev pub invariant-loop-counts : goal.invariant-loop-counts
invariant-loop-counts l = (length l.members ≡ length l.initial.members) × Going (lent l.initial.nodes l.initial.links l.initial.rules l.initial.steps) l.text l.initial.counts l.initial.used l.protected (lent l.nodes l.links l.rules l.steps) l.counts l.used l.made

abbrev pub decreases-loop-counts : goal.decreases-loop-counts
decreases-loop-counts l = live_letters (nodes_of l.counts.nodes l.nodes)
