-- Links in the order in which they are written: 01 "Reading and writing", output.
use Rattle.std.specs.Prelude.{cond, List, [], ◌∷◌}
use Rattle.handle.specs.Edge.{edge_before}
use Rattle.store.specs.Graph.{ends}
use Rattle.store.specs.declared.Link.{Link}

abbrev pub insert_link : Link → List Link → List Link
insert_link r [] = r ∷ []
insert_link r (s ∷ ss) = cond (edge_before (ends r) (ends s)) (r ∷ s ∷ ss) (s ∷ insert_link r ss)

-- by first id, + before -, second id, + before -
abbrev pub written_order : List Link → List Link
written_order [] = []
written_order (r ∷ rs) = insert_link r (written_order rs)
