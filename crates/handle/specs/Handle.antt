-- Ids and oriented nodes: 01 "Nodes, letters, links", first entry. An oriented node is one number, its id times two
-- plus 0 for forward or 1 for reverse.
use Rattle.std.specs.Prelude.{ℕ, ◌+◌, ◌-◌, ◌*◌, ◌/◌, ◌%◌, Bool, ◌&&◌, ◌||◌, eqb, leb, ltb}
use Rattle.handle.specs.declared.Handle.{Handle}

abbrev pub max_id : ℕ
max_id = 4294967295

-- an id is 1 to max_id
abbrev pub is_id : ℕ → Bool
is_id n = leb 1 n && leb n max_id

abbrev pub pack : ℕ → ℕ → Handle
pack id dir = record { packed = id * 2 + dir }

abbrev pub id_of : Handle → ℕ
id_of h = h.packed / 2

-- 0 forward, 1 reverse
abbrev pub dir_of : Handle → ℕ
dir_of h = h.packed % 2

-- the same id, the other direction
unfoldable pub flip : Handle → Handle
flip h = pack (id_of h) (1 - dir_of h)

abbrev pub is_handle : Handle → Bool
is_handle h = is_id (id_of h)

abbrev pub same_handle : Handle → Handle → Bool
same_handle u v = eqb u.packed v.packed

-- rising id, forward before reverse
unfoldable pub before : Handle → Handle → Bool
before u v = ltb (id_of u) (id_of v) || (eqb (id_of u) (id_of v) && ltb (dir_of u) (dir_of v))
