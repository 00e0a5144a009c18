-- What stands where a member was looked up: its letters, as it reads them.
use Prim.Native.Nat.{ℕ, ◌+◌, ◌≤◌, ◌<◌}
use mathlib.Core.Path.{◌≡◌, sym, ap, ◌∙◌}
use mathlib.Core.Bool.{Bool, true, false, cond}
use mathlib.Core.List.{List, [], ◌∷◌}
use native.Mathlib.Omega.{arith}
use lib.ListN.{length, take, drop, get_or, length-take, length-drop, take-append-drop}
use lib.Seq.{length-take-le, take-append-le, drop-append-le}
use Rattle.kit.specs.Loops.{all}
use Rattle.kit.proofs.Bools.{and_true_l, and_true_r}
use Rattle.letters.specs.Sequences.{oriented, letter_at}
use Rattle.letters.proofs.Sequences.{length-oriented, oriented-at}
use Rattle.handle.specs.declared.Handle.{Handle}
use Rattle.handle.specs.Handle.{id_of, dir_of}
use Rattle.store.specs.declared.Counts.{Counts}
use Rattle.store.specs.Graph.{graph_of, nodes_of}
use Rattle.store.specs.declared.Node.{Node}
use Rattle.store.specs.Views.{named, node_named, spell}
use Rattle.formed.specs.WellFormed.{good_node, well_formed}
use Rattle.formed.proofs.Says.{node_says, formed_room, formed_good}
use Rattle.affix.specs.declared.Reading.{Reading}
use Rattle.affix.specs.Reading.{Readable, reading_of, read}

pub formed_readable : (nodes letters links : List ℕ) (c : Counts) → well_formed nodes letters links c ≡ true → Readable nodes letters c
formed_readable nodes letters links c t =
    let room = formed_room nodes letters links c t in
    record { node_room = room.node_room; letter_room = room.letter_room; nodes_good = (formed_good nodes letters links c t).nodes_good }

-- a node that is looked up lies inside the letters, also where it is not stored
named-inside : (letters : List ℕ) (id : ℕ) (rs : List Node) → all (good_node letters) rs ≡ true → (node_named id rs).start + (node_named id rs).len ≤ length letters
named-inside letters id [] t = omega arith
named-inside letters id (r ∷ rs) t = by (named id r) (named-inside letters id rs (and_true_r (good_node letters r) (all (good_node letters) rs) t))
  where
    by : (b : Bool) → (node_named id rs).start + (node_named id rs).len ≤ length letters → (cond b r (node_named id rs)).start + (cond b r (node_named id rs)).len ≤ length letters
    by true h = (node_says letters r (and_true_l (good_node letters r) (all (good_node letters) rs) t)).inside
    by false h = h

-- a part that lies in the first k places
part_of-take : (l : List ℕ) (k start len : ℕ) → start + len ≤ length (take k l) → take len (drop start l) ≡ take len (drop start (take k l))
part_of-take l k start len h =
    let p : start ≤ length (take k l) = omega arith in
    let q : len ≤ length (drop start (take k l)) = omega (arith, length-drop start (take k l)) in
    ap (λ (x : List ℕ). take len (drop start x)) (sym (take-append-drop k l))
    ∙ ap (take len) (drop-append-le start (take k l) (drop k l) p)
    ∙ take-append-le len (drop start (take k l)) (drop k l) q

module _ (nodes letters : List ℕ) (c : Counts) (ok : Readable nodes letters c) (h : Handle) where
  inside-used : (node_named (id_of h) (nodes_of c.nodes nodes)).start + (node_named (id_of h) (nodes_of c.nodes nodes)).len ≤ length (take c.letters letters)
  inside-used = named-inside (take c.letters letters) (id_of h) (nodes_of c.nodes nodes) ok.nodes_good

  module _ (r : Reading) (e : r ≡ reading_of (nodes_of c.nodes nodes) h) where
    pub inside : r.start + r.len ≤ length letters
    inside = rw e (omega (arith, inside-used, length-take c.letters letters))

    pub reads : read letters r ≡ spell (graph_of nodes letters [] c) h
    reads =
        let n = node_named (id_of h) (nodes_of c.nodes nodes) in
        rw e (ap (oriented (dir_of h)) (part_of-take letters c.letters n.start n.len inside-used))

module _ (letters : List ℕ) (r : Reading) (h : r.start + r.len ≤ length letters) where
  length_part : length (take r.len (drop r.start letters)) ≡ r.len
  length_part = length-take-le r.len (drop r.start letters) (omega (arith, length-drop r.start letters))

  pub length-read : length (read letters r) ≡ r.len
  length-read = length-oriented r.direction (take r.len (drop r.start letters)) ∙ length_part

  pub read_at : (i : ℕ) → i < r.len → letter_at (take r.len (drop r.start letters)) r.direction i ≡ get_or (read letters r) i 0
  read_at i k = sym (oriented-at r.direction (take r.len (drop r.start letters)) i (omega (arith, length_part)))
