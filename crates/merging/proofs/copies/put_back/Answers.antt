use Rattle.merging.proofs.Putting.{both-put}
use Rattle.merging.proofs.copies.put_back.Goals as goal

pub returns : goal.returns
returns c =
    let a = c.args in
    both-put a.old a.new a.links.now a.plan.now c.requires.0 c.put_ends.ensures c.put_new.ensures
