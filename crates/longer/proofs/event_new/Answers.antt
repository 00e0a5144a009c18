use Prim.Native.Nat.{ℕ, ◌-◌}
use mathlib.Core.Path.{◌≡◌, sym, ap, ◌∙◌}
use mathlib.Core.Bool.{Bool, true, false, cond, not, ◌&&◌}
use mathlib.Core.List.{List}
use native.Mathlib.Omega.{arith}
use borrow.Author.Tests.{not-true, not-false, lt-ltb, le-ltb}
use borrow.Author.Rules.{rules}
use lib.Dec.{ltb}
use Rattle.kit.specs.Loops.{any}
use Rattle.handle.specs.declared.Handle.{Handle}
use Rattle.handle.specs.Handle.{id_of}
use Rattle.events.specs.Events.{keyed, rules_of}
use Rattle.events.specs.declared.Rule.{Rule}
use Rattle.events.specs.WellFormed.{steps_later}
use Rattle.merging.specs.Plan.{suffix_by}
use Rattle.longer.specs.Longer.{event_one}
use Rattle.longer.proofs.OneEvent.{walk_all}
use Rattle.longer.proofs.event_new.Goals as goal

abbrev new : List Rule → ℕ → ℕ → Bool
new rules id len = not (any (keyed id len) rules)

-- what the rules say of x, and then of a long member's suffix
module _ (rules : List Rule) (p len : ℕ) (x : Handle) (fresh : ℕ) (m : Handle) where
  asked : steps_later rules (event_one p len x fresh m).walk ≡ (new rules (id_of x) p && cond (ltb p len) (new rules (id_of (suffix_by fresh m)) (len - p)) true)
  asked = walk_all p len x fresh m (new rules)

  old-x : new rules (id_of x) p ≡ false → steps_later rules (event_one p len x fresh m).walk ≡ false
  old-x e = asked ∙ rw e

  exact : new rules (id_of x) p ≡ true → ltb p len ≡ false → steps_later rules (event_one p len x fresh m).walk ≡ true
  exact e l = asked ∙ rw (e, l)

  long : new rules (id_of x) p ≡ true → ltb p len ≡ true → steps_later rules (event_one p len x fresh m).walk ≡ new rules (id_of (suffix_by fresh m)) (len - p)
  long e l = asked ∙ rw (e, l)

told : (rules : List Rule) (x : Handle) (id len : ℕ) {b : Bool} → b ≡ new rules id len → id ≡ id_of x → new rules (id_of x) len ≡ b
told rules x id len e f = rw (e, f)

pub returns-then-not-no_rule : goal.returns-then-not-no_rule
returns-then-not-no_rule c =
    let a = c.args in
    let R = rules_of a.count a.rules.now in
    sym (old-x R a.p a.len a.x a.fresh a.m (told R a.x _ a.p c.no_rule.ensures c.id.ensures ∙ not-true _ c.if-not-no_rule.true-raw))

pub returns-then-len-p : goal.returns-then-len-p
returns-then-len-p c =
    let a = c.args in
    let R = rules_of a.count a.rules.now in
    sym (exact R a.p a.len a.x a.fresh a.m (told R a.x _ a.p c.no_rule.ensures c.id.ensures ∙ not-false _ c.if-not-no_rule.false-raw) (le-ltb a.p a.len c.if-len-p.true))

pub suffix_of-rest-requires : goal.suffix_of-rest-requires
suffix_of-rest-requires c =
    let l : ltb c.args.p c.args.len ≡ true = lt-ltb c.args.p c.args.len (omega arith) in
    let h = rw l at c.requires.1 in
    omega arith

pub returns : goal.returns
returns c =
    let a = c.args in
    let R = rules_of a.count a.rules.now in
    c.no_rule-2.ensures
    ∙ ap (λ (k : ℕ). new R k (a.len - a.p)) (c.id-2.ensures ∙ ap id_of c.suffix_of-rest.ensures)
    ∙ sym (long R a.p a.len a.x a.fresh a.m (told R a.x _ a.p c.no_rule.ensures c.id.ensures ∙ not-false _ c.if-not-no_rule.false-raw) (lt-ltb a.p a.len (omega arith)))
