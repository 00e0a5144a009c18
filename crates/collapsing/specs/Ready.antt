-- The numbers of a collapse as the code finds them: all that is known before the links are made, then whether these fit.
use Rattle.std.specs.Prelude.{ℕ, Bool, cond, not, ◌&&◌, List, eqb, length}
use Rattle.handle.specs.declared.Handle.{Handle}
use Rattle.collapsing.specs.Making.{State, Room, state_after, group_number, fits}

abbrev pub lists_fit : Room → State → Bool
lists_fit room s =
    fits 4 65536 (length s.graph.nodes) room.nodes
    && (fits 4 65536 (length s.events.rules) room.rules && fits 2 262144 (length s.events.steps) room.steps)

abbrev pub links_fit : Room → State → Bool
links_fit room s = fits 3 131072 (length s.graph.links) room.links

abbrev pub ready_number : Room → ℕ → State → List Handle → ℕ
ready_number room p s ms =
    cond (not (eqb (group_number p s ms) 0)) (group_number p s ms)
    (cond (not (lists_fit room (state_after p s ms))) 7
    0)
