use Prim.Native.Nat.{◌<◌}
use borrow.Author.Rules.{rules}
use Rattle.letters.specs.Letters.{complement_of, is_letter, upper_of, is_base}
use Rattle.letters.proofs.Laws.{entry}
use Rattle.letters.proofs.complement.Goals as goal

-- the code's table passes the test: `tt`, once it is computed
pub returns : goal.returns
unfolding complement_of is_letter upper_of is_base
returns c = let h : c.args.b < 256 = search rules in rw (entry, tt)
