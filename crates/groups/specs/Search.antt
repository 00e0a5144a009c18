-- What the code goes along, from one to the next: the neighbours of one key, and the heads.
use Rattle.std.specs.Prelude.{Bool, List, []}
use Rattle.kit.specs.Loops.{first_or, keep}
use Rattle.handle.specs.declared.Handle.{Handle}
use Rattle.handle.specs.Handle.{same_handle}
use Rattle.store.specs.Graph.{Graph, handle}
use Rattle.sides.specs.Sides.{right_of}
use Rattle.groups.specs.Groups.{same_key, heads}

-- the neighbours of v that have u's key, as they are met
abbrev pub of_key : Graph → Handle → Handle → List Handle
of_key g v u = keep (same_key g u) (right_of g v)

abbrev pub heads_of : Graph → Handle → List Handle
heads_of g v = heads g [] (right_of g v)

-- u is the first of its key in a list
abbrev pub first_met : Graph → List Handle → Handle → Bool
first_met g us u = same_handle (first_or (handle 0) (same_key g u) us) u
