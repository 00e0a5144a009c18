use mathlib.Core.Path.{◌≡◌, refl, ◌∙◌}
use native.Mathlib.Omega.{arith}
use lib.ListN.{length, take}
use Rattle.collapsing.specs.Outcome.{lent}
use Rattle.collapsing.proofs.Given.{Sound}
use Rattle.driver.proofs.Turns.{found-size, found-fits, none_found, found}
use Rattle.driver.proofs.drive.turn.Goals as goal

pub next_group-requires : goal.next_group-requires
next_group-requires c = (c.requires.c_value.0, c.requires.nodes_in_bounds)

pub returns-in_default : goal.returns-in_default
returns-in_default c =
    let sound : Sound ((lent c.args.nodes.now c.args.links.now c.args.rules.now c.args.steps.now)) c.args.text.now c.args.c c.args.u =
    record { graph = c.requires.c_value.0; events = c.requires.u_value.0; ids = c.requires.c_value.1; keys = c.requires.u_value.1 }
    in
    let a = c.args in
    rw c.refuse.ensures (none_found ((lent c.args.nodes.now c.args.links.now c.args.rules.now c.args.steps.now)) a.text.now a.c a.u (sound) a.protected.now _ 0 c.in_default.ensures.value refl)

pub slice_bounds-collapse_whole-end : goal.slice_bounds-collapse_whole-end
slice_bounds-collapse_whole-end c =
    let sound : Sound ((lent c.args.nodes.now c.args.links.now c.args.rules.now c.args.steps.now)) c.args.text.now c.args.c c.args.u =
    record { graph = c.requires.c_value.0; events = c.requires.u_value.0; ids = c.requires.c_value.1; keys = c.requires.u_value.1 }
    in
    let a = c.args in
    found-fits ((lent c.args.nodes.now c.args.links.now c.args.rules.now c.args.steps.now)) a.text.now a.c a.u (sound) a.protected.now _ c.in-Some.n c.in-Some.ensures.value

pub slice_bounds-collapse_whole-end-2 : goal.slice_bounds-collapse_whole-end-2
slice_bounds-collapse_whole-end-2 c =
    let sound : Sound ((lent c.args.nodes.now c.args.links.now c.args.rules.now c.args.steps.now)) c.args.text.now c.args.c c.args.u =
    record { graph = c.requires.c_value.0; events = c.requires.u_value.0; ids = c.requires.c_value.1; keys = c.requires.u_value.1 }
    in
    let size : c.in-Some.n ≡ length (take c.in-Some.n c.next_group.new.members) =
    let a = c.args in
    found-size ((lent c.args.nodes.now c.args.links.now c.args.rules.now c.args.steps.now)) a.text.now a.c a.u (sound) a.protected.now _ c.in-Some.n c.in-Some.ensures.value
    in
    size

pub collapse_whole-requires : goal.collapse_whole-requires
collapse_whole-requires c =
    let sound : Sound ((lent c.args.nodes.now c.args.links.now c.args.rules.now c.args.steps.now)) c.args.text.now c.args.c c.args.u =
    record { graph = c.requires.c_value.0; events = c.requires.u_value.0; ids = c.requires.c_value.1; keys = c.requires.u_value.1 }
    in
    let size : c.in-Some.n ≡ length (take c.in-Some.n c.next_group.new.members) =
    let a = c.args in
    found-size ((lent c.args.nodes.now c.args.links.now c.args.rules.now c.args.steps.now)) a.text.now a.c a.u (sound) a.protected.now _ c.in-Some.n c.in-Some.ensures.value
    in
    record { c_value = c.requires.c_value; u_value = c.requires.u_value; in_bounds = omega (arith, size, c.in-Some.ensures.some) }

pub returns : goal.returns
returns c =
    let sound : Sound ((lent c.args.nodes.now c.args.links.now c.args.rules.now c.args.steps.now)) c.args.text.now c.args.c c.args.u =
    record { graph = c.requires.c_value.0; events = c.requires.u_value.0; ids = c.requires.c_value.1; keys = c.requires.u_value.1 }
    in
    let a = c.args in
    c.collapse_whole.ensures ∙ found ((lent c.args.nodes.now c.args.links.now c.args.rules.now c.args.steps.now)) a.text.now a.c a.u (sound) a.protected.now _ c.in-Some.n c.in-Some.ensures.value (λ z. omega (arith, c.in-Some.ensures.some))
