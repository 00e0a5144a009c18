use Prim.Native.Nat.{◌<◌}
use mathlib.Core.Path.{◌≡◌, sym, ◌∙◌}
use native.Mathlib.Omega.{arith}
use lib.ListN.{drop}
use Rattle.std.specs.Prelude.{Some}
use Rattle.kit.specs.Loops.{find_from}
use Rattle.events.specs.Events.{rules_of, keyed}
use Rattle.expansion.proofs.Lengths.{found_below}
use Rattle.expansion.proofs.node_len.Goals as goal

pub returns-in_default : goal.returns-in_default
returns-in_default c = rw (sym c.next_rule.ensures.value ∙ c.in_default.is)

pub offset_bounds-lens-j : goal.offset_bounds-lens-j
offset_bounds-lens-j c =
    let found : find_from (keyed c.args.id c.args.len) c.args.ahead (drop c.args.ahead (rules_of c.args.count c.args.rules.now)) ≡ Some c.in-Some.j =
    sym c.next_rule.ensures.value ∙ c.in-Some.is
    in
    let place : c.in-Some.j < c.args.count =
    let a = c.args in
    found_below (keyed a.id a.len) a.count a.ahead c.in-Some.j a.rules.now (found)
    in
    omega (arith, place)

pub bounds-lens-j : goal.bounds-lens-j
bounds-lens-j c =
    let found : find_from (keyed c.args.id c.args.len) c.args.ahead (drop c.args.ahead (rules_of c.args.count c.args.rules.now)) ≡ Some c.in-Some.j =
    sym c.next_rule.ensures.value ∙ c.in-Some.is
    in
    let place : c.in-Some.j < c.args.count =
    let a = c.args in
    found_below (keyed a.id a.len) a.count a.ahead c.in-Some.j a.rules.now (found)
    in
    omega (arith, place)

pub returns : goal.returns
returns c =
    let found : find_from (keyed c.args.id c.args.len) c.args.ahead (drop c.args.ahead (rules_of c.args.count c.args.rules.now)) ≡ Some c.in-Some.j =
    sym c.next_rule.ensures.value ∙ c.in-Some.is
    in
    rw (found)
