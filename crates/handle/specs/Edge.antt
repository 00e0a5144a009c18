-- A link's ends and its written form: 01 "Nodes, letters, links", third entry; the order in which links are written:
-- 01 "Reading and writing".
use Rattle.std.specs.Prelude.{Bool, cond, ◌&&◌, ◌||◌, eqb, leb}
use Rattle.handle.specs.declared.Handle.{Handle}
use Rattle.handle.specs.declared.Edge.{Edge}
use Rattle.handle.specs.Handle.{id_of, dir_of, flip, same_handle, before}

abbrev pub edge : Handle → Handle → Edge
edge u v = record { from = u; to = v }

-- the link's other form: u to v is flip v to flip u
abbrev pub turned : Edge → Edge
turned e = edge (flip e.to) (flip e.from)

abbrev pub both_forward : Edge → Bool
both_forward e = eqb (dir_of e.from) 0 && eqb (dir_of e.to) 0

-- the both-forward form if it has one; otherwise, of its two forms, the one whose first id is smaller
unfoldable pub written : Edge → Edge
written e =
    cond (both_forward e) e
    (cond (both_forward (turned e)) (turned e)
    (cond (leb (id_of e.from) (id_of (turned e).from)) e (turned e)))

abbrev pub same_ends : Edge → Edge → Bool
same_ends e f = same_handle e.from f.from && same_handle e.to f.to

-- the same link, in either form
abbrev pub same_link : Edge → Edge → Bool
same_link e f = same_ends e f || same_ends (turned e) f

-- first id, + before -, second id, + before -
unfoldable pub edge_before : Edge → Edge → Bool
edge_before e f = before e.from f.from || (same_handle e.from f.from && before e.to f.to)
