use mathlib.Core.Path.{◌∙◌}
use Rattle.reading.proofs.Found.{zeros_are}
use Rattle.reading.proofs.clear.clear_all.Goals as goal

pub returns-clause-nodes_after : goal.returns-clause-nodes_after
returns-clause-nodes_after c = c.fill.ensures.after (λ y e. e) ∙ zeros_are c.args.nodes.now

pub returns-clause-letters_after : goal.returns-clause-letters_after
returns-clause-letters_after c = c.fill-2.ensures.after (λ y e. e) ∙ zeros_are c.args.letters.now

pub returns-clause-links_after : goal.returns-clause-links_after
returns-clause-links_after c = c.fill-3.ensures.after (λ y e. e) ∙ zeros_are c.args.links.now
