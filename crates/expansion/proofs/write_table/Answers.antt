use Rattle.expansion.proofs.Built.{rules_ask, rules_fill, built}
use Rattle.expansion.proofs.write_table.Goals as goal

pub write_rules-requires : goal.write_rules-requires
write_rules-requires c =
    let a = c.args in
    rules_ask a.rules.now a.steps.now a.c a.lens.now a.table.now a.out.now a.d c.requires

pub fill-requires : goal.fill-requires
fill-requires c =
    let a = c.args in
    rules_fill a.rules.now a.steps.now a.c a.lens.now a.table.now a.out.now a.d c.requires _ c.write_rules.ensures

pub returns : goal.returns
returns c =
    let a = c.args in
    built a.rules.now a.steps.now a.c a.lens.now a.table.now a.out.now a.d c.requires _ c.write_rules.ensures _ c.fill.ensures
