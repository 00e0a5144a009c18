use Prim.Native.Nat.{ℕ}
use mathlib.Core.Path.{ap, ◌∙◌}
use mathlib.Core.List.{List, map}
use lib.ListN.{length, take}
use Rattle.cases.specs.Parts.{low_byte}
use Rattle.cases.proofs.lend.bytes.Goals as goal

pub returns : goal.returns
returns c =
    let room = length c.args.to.now in
    c.narrow.ensures ∙ ap (λ (l : List ℕ). map low_byte (take room l)) c.array.ensures
