use Prim.Native.Nat.{ℕ}
use mathlib.Core.Path.{ap, ◌∙◌}
use mathlib.Core.List.{List}
use lib.ListN.{length, take}
use Rattle.cases.proofs.lend.numbers.Goals as goal

pub returns : goal.returns
returns c =
    let room = length c.args.to.now in
    c.copy.ensures ∙ ap (λ (l : List ℕ). take room l) c.array.ensures
