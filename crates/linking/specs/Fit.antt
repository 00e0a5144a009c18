-- Links made in room of the code's own: whether they fit, and what the code asks of those it starts from.
use Rattle.std.specs.Prelude.{ℕ, ◌+◌, ◌*◌, ◌≤◌, ◌≡◌, Bool, true, cond, not, ◌&&◌, List, [], ◌∷◌, ◌++◌, map, eqb, leb, length, drop, Option, Some, None}
use Rattle.kit.specs.Layout.{encode}
use Rattle.kit.specs.Loops.{all, distinct, count}
use Rattle.handle.specs.declared.Handle.{Handle}
use Rattle.handle.specs.Handle.{max_id, id_of, pack}
use Rattle.store.specs.Graph.{link_layout}
use Rattle.store.specs.declared.Node.{Node}
use Rattle.store.specs.declared.Link.{Link}
use Rattle.store.specs.Views.{largest}
use Rattle.split.specs.Split.{split_links}
use Rattle.merging.specs.Merging.{is_forward, add_links, read_as}
use Rattle.merging.specs.Plan.{bury, right_in, long_by, prefix_if, suffix_by}

-- how many links stand in the room, or that it is full
abbrev pub fitted : ℕ → List Link → Option ℕ
fitted room rs = cond (leb (3 * length rs) room) (Some (length rs)) None

-- the array l was made to hold these links, which left m and answered r; where they do not fit, m is no one's
pub record Makes (l : List ℕ) (rs : List Link) (r : Option ℕ) (m : List ℕ) : Type 0 where
  pub answer : r ≡ fitted (length l) rs
  pub stands : 3 * length rs ≤ length l → m ≡ encode link_layout rs ++ drop (3 * length rs) l

-- what a later member adds before its prefix is buried, and the links after it, by whether it is long
abbrev pub given_by : Bool → Handle → ℕ → List Link → Handle → List Link
given_by long x fresh links m =
    add_links x (cond long (suffix_by fresh m ∷ []) (map (read_as m x) (right_in links m))) (cond long (split_links (id_of m) fresh links) links)

abbrev pub later_by : Bool → Handle → ℕ → List Link → Handle → List Link
later_by long x fresh links m = map (bury (id_of (prefix_if long fresh m))) (given_by long x fresh links m)

-- no end of a link has id 0
abbrev pub ends_named : Link → Bool
ends_named r = leb 1 (id_of r.from) && leb 1 (id_of r.to)

abbrev pub is_named : ℕ → Handle → Bool
is_named top m = leb 1 (id_of m) && leb (id_of m) top

-- the later members: x, the shared node, is on none of their nodes, and the ids from `fresh` on are enough
pub record Later (p : ℕ) (nodes : List Node) (x : Handle) (fresh : ℕ) (links : List Link) (ms : List Handle) : Type 0 where
  pub shared : 1 ≤ id_of x
  pub low : 1 ≤ fresh
  pub enough : fresh + count (long_by p nodes) ms ≤ max_id + 1
  pub ids : all (is_named max_id) ms ≡ true
  pub apart : all (λ m. not (eqb (id_of x) (id_of m))) ms ≡ true
  pub ends : all ends_named links ≡ true

-- all members: no two on one node, each id one of 1 to the largest, and enough ids above that
pub record Plans (p : ℕ) (nodes : List Node) (links : List Link) (ms : List Handle) : Type 0 where
  pub some : 1 ≤ length ms
  pub enough : largest nodes + count (long_by p nodes) ms ≤ max_id
  pub ids : all (is_named (largest nodes)) ms ≡ true
  pub apart : distinct (λ u v. eqb (id_of u) (id_of v)) ms ≡ true
  pub ends : all ends_named links ≡ true
