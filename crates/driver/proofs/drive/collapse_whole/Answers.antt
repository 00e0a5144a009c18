use mathlib.Core.Path.{◌≡◌, ap, ◌∙◌}
use lib.ListN.{length}
use Rattle.affix.specs.Prefix.{handles_of, group_prefix}
use Rattle.affix.proofs.LookedUp.{formed_readable}
use Rattle.collapsing.specs.Outcome.{lent, outcome, state_in, group_outcome}
use Rattle.collapsing.proofs.Given.{Sound}
use Rattle.driver.proofs.Turns.{whole_refused, whole_made}
use Rattle.driver.proofs.drive.collapse_whole.Goals as goal

pub prefix_len-p-requires : goal.prefix_len-p-requires
prefix_len-p-requires c =
    let a = c.args in
    (formed_readable a.nodes.now a.text.now a.links.now a.c c.requires.c_value.0, c.requires.in_bounds)

pub returns-then-k-ne0 : goal.returns-then-k-ne0
returns-then-k-ne0 c =
    let sound : Sound ((lent c.args.nodes.now c.args.links.now c.args.rules.now c.args.steps.now)) c.args.text.now c.args.c c.args.u =
    record { graph = c.requires.c_value.0; events = c.requires.u_value.0; ids = c.requires.c_value.1; keys = c.requires.u_value.1 }
    in
    let answer : let ms = handles_of c.args.members.now in outcome c.collapse_group-k.result (lent c.collapse_group-k.new.nodes c.collapse_group-k.new.links c.collapse_group-k.new.rules c.collapse_group-k.new.steps) ≡ group_outcome ((lent c.args.nodes.now c.args.links.now c.args.rules.now c.args.steps.now)) c.args.text.now c.args.c c.args.u ms (length (group_prefix (state_in ((lent c.args.nodes.now c.args.links.now c.args.rules.now c.args.steps.now)) c.args.text.now c.args.c c.args.u).graph ms)) =
    let a = c.args in
    c.collapse_group-k.ensures ∙ ap (group_outcome ((lent c.args.nodes.now c.args.links.now c.args.rules.now c.args.steps.now)) a.text.now a.c a.u (handles_of a.members.now)) c.prefix_len-p.ensures
    in
    let a = c.args in
    rw c.refuse.ensures (whole_refused ((lent c.args.nodes.now c.args.links.now c.args.rules.now c.args.steps.now)) a.text.now a.c a.u (sound) (handles_of a.members.now) c.collapse_group-k.result _ (answer) c.if-k-ne0.true)

pub returns : goal.returns
returns c =
    let sound : Sound ((lent c.args.nodes.now c.args.links.now c.args.rules.now c.args.steps.now)) c.args.text.now c.args.c c.args.u =
    record { graph = c.requires.c_value.0; events = c.requires.u_value.0; ids = c.requires.c_value.1; keys = c.requires.u_value.1 }
    in
    let answer : let ms = handles_of c.args.members.now in outcome c.collapse_group-k.result (lent c.collapse_group-k.new.nodes c.collapse_group-k.new.links c.collapse_group-k.new.rules c.collapse_group-k.new.steps) ≡ group_outcome ((lent c.args.nodes.now c.args.links.now c.args.rules.now c.args.steps.now)) c.args.text.now c.args.c c.args.u ms (length (group_prefix (state_in ((lent c.args.nodes.now c.args.links.now c.args.rules.now c.args.steps.now)) c.args.text.now c.args.c c.args.u).graph ms)) =
    let a = c.args in
    c.collapse_group-k.ensures ∙ ap (group_outcome ((lent c.args.nodes.now c.args.links.now c.args.rules.now c.args.steps.now)) a.text.now a.c a.u (handles_of a.members.now)) c.prefix_len-p.ensures
    in
    let a = c.args in
    whole_made ((lent c.args.nodes.now c.args.links.now c.args.rules.now c.args.steps.now)) a.text.now a.c a.u (sound) (handles_of a.members.now) c.collapse_group-k.result _ (answer) c.if-k-ne0.false
