-- One segment more, one link more: the room that it takes, and what the arrays hold then.
use Prim.Native.Nat.{ℕ, ◌+◌, ◌*◌, ◌≤◌}
use mathlib.Core.Path.{◌≡◌, refl, sym, ap, ◌∙◌}
use mathlib.Core.Bool.{Bool, true, false}
use mathlib.Core.List.{List, [], ◌∷◌, ◌++◌}
use native.Mathlib.Omega.{arith}
use lib.ListN.{length, drop, length-append, length-drop}
use lib.Seq.{sets, sets-eq, take-append_seam, drop-append-add, drop-drop}
use Rattle.std.specs.Prelude.{Ok, Err}
use Rattle.kit.specs.declared.Refusal.TheVariants.{Twice, Room}
use Rattle.kit.specs.Layout.{Layout, decode, encode}
use Rattle.kit.proofs.Bools.{same_test}
use Rattle.kit.proofs.Laws.{then-decode, then-drop}
use Rattle.handle.specs.declared.Edge.{Edge}
use Rattle.handle.specs.Edge.{written}
use Rattle.store.specs.declared.Counts.{Counts}
use Rattle.store.specs.Graph.{Graph, node, link, node_layout, link_layout, nodes_of, links_of}
use Rattle.store.specs.declared.Link.{Link}
use Rattle.store.specs.Views.{stored, linked}
use Rattle.formed.specs.WellFormed.{room_for}
use Rattle.formed.proofs.Says.{room_says, says_room}
use Rattle.reading.specs.Reading.{Store, store, counts_of, fits_in, with_segment, add_segment, add_link}
use Rattle.reading.specs.Held.{Held, Came, counts}
use Rattle.reading.proofs.Holding.{same_store, room_held, node-count, letter_count, link-count, nodes_now, letters_now, links_now, nodes_held, links_held, same_nodes, same-letters, same-links, stops, goes}

-- one record after those of rs, in an array that holds them: m, which was l before them
pub one_record : {A : Type 0} (L : Layout A) (rs : List A) (l : List ℕ) (n : ℕ) (a : A) {m m' : List ℕ} → n ≡ length rs → m ≡ encode L rs ++ drop (L.stride * length rs) l → m' ≡ encode L (decode L n m ++ (a ∷ [])) ++ drop (L.stride * (n + 1)) m → m' ≡ encode L (rs ++ (a ∷ [])) ++ drop (L.stride * length (rs ++ (a ∷ []))) l
one_record L rs l n a {m} {m'} e h q =
    let k : length (rs ++ (a ∷ [])) ≡ length rs + 1 = length-append rs (a ∷ []) in
    q ∙ rw (h, e, then-decode L (length rs) rs (drop (L.stride * length rs) l) refl, then-drop L (length rs) (length rs + 1) rs l refl (omega arith), k)

-- and letters after those of t
more-letters : (t s l : List ℕ) (n : ℕ) {m m' : List ℕ} → n ≡ length t → m ≡ t ++ drop (length t) l → m' ≡ sets m n s → length t + length s ≤ length l → m' ≡ t ++ s ++ drop (length (t ++ s)) l
more-letters t s l n {m} {m'} e h q room =
    let k : length (t ++ s) ≡ length t + length s = length-append t s in
    let fits : length t + length s ≤ length (t ++ drop (length t) l) = omega (arith, length-append t (drop (length t) l), length-drop (length t) l) in
    q ∙ rw (h, e, sets-eq s (t ++ drop (length t) l) (length t) fits, take-append_seam t (drop (length t) l), drop-append-add t (drop (length t) l) (length s), drop-drop (length s) (length t) l, k)

module _ {l : Store} {g : Graph} {m : Store} {c : Counts} (h : Held l g m c) where
  -- a segment
  module _ (id : ℕ) (s : List ℕ) where
    abbrev g' : Graph
    g' = with_segment g id s

    one-node : length g'.nodes ≡ length g.nodes + 1
    one-node = length-append g.nodes (node id (length g.letters) (length s) 0 ∷ [])

    its_letters : length g'.letters ≡ length g.letters + length s
    its_letters = length-append g.letters s

    segment_fits : room_for m.nodes m.letters [] (counts (c.nodes + 1) (c.letters + length s) 0) ≡ fits_in l g'
    segment_fits = same_test _ _ there back
      where
        there : room_for m.nodes m.letters [] (counts (c.nodes + 1) (c.letters + length s) 0) ≡ true → fits_in l g' ≡ true
        there t =
            let r = room_says m.nodes m.letters [] (counts (c.nodes + 1) (c.letters + length s) 0) t in
            says_room l.nodes l.letters l.links (counts_of g') (record {
              few_nodes = omega (arith, one-node, node-count h, r.few_nodes);
              node_room = omega (arith, one-node, node-count h, same_nodes h, r.node_room);
              few_letters = omega (arith, its_letters, letter_count h, r.few_letters);
              letter_room = omega (arith, its_letters, letter_count h, same-letters h, r.letter_room);
              few_links = (room_held h).few_links;
              link_room = (room_held h).link_room;
            })

        back : fits_in l g' ≡ true → room_for m.nodes m.letters [] (counts (c.nodes + 1) (c.letters + length s) 0) ≡ true
        back t =
            let r = room_says l.nodes l.letters l.links (counts_of g') t in
            says_room m.nodes m.letters [] (counts (c.nodes + 1) (c.letters + length s) 0) (record {
              few_nodes = omega (arith, one-node, node-count h, r.few_nodes);
              node_room = omega (arith, one-node, node-count h, same_nodes h, r.node_room);
              few_letters = omega (arith, its_letters, letter_count h, r.few_letters);
              letter_room = omega (arith, its_letters, letter_count h, same-letters h, r.letter_room);
              few_links = omega arith;
              link_room = omega arith;
            })

    -- 5
    pub segment_again : stored id (nodes_of c.nodes m.nodes) ≡ true → Came {A = Counts} l (add_segment l g id s) m (Err Twice) c
    segment_again t = rw (sym (ap (stored id) (nodes_held h)) ∙ t) (stops h Twice)

    -- 7, or it is stored
    module _ (new : stored id (nodes_of c.nodes m.nodes) ≡ false) {b : Bool} (f : b ≡ room_for m.nodes m.letters [] (counts (c.nodes + 1) (c.letters + length s) 0)) where
      absent : stored id g.nodes ≡ false
      absent = sym (ap (stored id) (nodes_held h)) ∙ new

      pub segment_full : b ≡ false → Came {A = Counts} l (add_segment l g id s) m (Err Room) c
      segment_full t = rw (absent, sym segment_fits ∙ sym f ∙ t) (stops h Room)

      pub segment_stored : b ≡ true → {nodes letters : List ℕ} {end : ℕ} → nodes ≡ encode node_layout (nodes_of c.nodes m.nodes ++ (node id c.letters (length s) 0 ∷ [])) ++ drop (4 * (c.nodes + 1)) m.nodes → letters ≡ sets m.letters c.letters s → end ≡ c.letters + length s → Came l (add_segment l g id s) (store nodes letters m.links) (Ok (counts (c.nodes + 1) end c.links)) (counts (c.nodes + 1) end c.links)
      segment_stored t {nodes} {letters} {end} p q e =
          let fit : fits_in l g' ≡ true = sym segment_fits ∙ sym f ∙ t in
          let r = room_says l.nodes l.letters l.links (counts_of g') fit in
          let n : nodes ≡ encode node_layout (nodes_of c.nodes m.nodes ++ (node id (length g.letters) (length s) 0 ∷ [])) ++ drop (4 * (c.nodes + 1)) m.nodes = rw (← letter_count h) p in
          rw (absent, fit)
          (record {
            number = refl;
            held =
                record {
                  room = fit;
                  used = rw (one-node, its_letters, e, node-count h, letter_count h, link-count h);
                  arrays =
                      same_store
                      (one_record node_layout g.nodes l.nodes c.nodes (node id (length g.letters) (length s) 0) (node-count h) (nodes_now h) n)
                      (more-letters g.letters s l.letters c.letters (letter_count h) (letters_now h) q (omega (arith, its_letters, r.letter_room)))
                      (links_now h);
                };
          })

  -- a link
  module _ (e : Edge) where
    -- stored already: nothing changes
    pub link_again : linked e (links_of c.links m.links) ≡ true → Came l (add_link l g e) m (Ok c) c
    link_again t = rw (sym (ap (linked e) (links_held h)) ∙ t, h.room) (goes h)

    module _ (new : linked e (links_of c.links m.links) ≡ false) {b : Bool} (f : b ≡ room_for [] [] m.links (counts 0 0 (c.links + 1))) where
      unlinked : linked e g.links ≡ false
      unlinked = sym (ap (linked e) (links_held h)) ∙ new

      abbrev more : List Link
      more = g.links ++ (link (written e) 0 ∷ [])

      abbrev g'' : Graph
      g'' = record { nodes = g.nodes; letters = g.letters; links = more }

      one_link : length more ≡ length g.links + 1
      one_link = length-append g.links (link (written e) 0 ∷ [])

      link_fits : room_for [] [] m.links (counts 0 0 (c.links + 1)) ≡ fits_in l g''
      link_fits = same_test _ _ there back
        where
          there : room_for [] [] m.links (counts 0 0 (c.links + 1)) ≡ true → fits_in l g'' ≡ true
          there t =
              let r = room_says [] [] m.links (counts 0 0 (c.links + 1)) t in
              says_room l.nodes l.letters l.links (counts_of g'') (record {
                few_nodes = (room_held h).few_nodes;
                node_room = (room_held h).node_room;
                few_letters = (room_held h).few_letters;
                letter_room = (room_held h).letter_room;
                few_links = omega (arith, one_link, link-count h, r.few_links);
                link_room = omega (arith, one_link, link-count h, same-links h, r.link_room);
              })

          back : fits_in l g'' ≡ true → room_for [] [] m.links (counts 0 0 (c.links + 1)) ≡ true
          back t =
              let r = room_says l.nodes l.letters l.links (counts_of g'') t in
              says_room [] [] m.links (counts 0 0 (c.links + 1)) (record {
                few_nodes = omega arith;
                node_room = omega arith;
                few_letters = omega arith;
                letter_room = omega arith;
                few_links = omega (arith, one_link, link-count h, r.few_links);
                link_room = omega (arith, one_link, link-count h, same-links h, r.link_room);
              })

      pub link_full : b ≡ false → Came {A = Counts} l (add_link l g e) m (Err Room) c
      link_full t = rw (unlinked, sym link_fits ∙ sym f ∙ t) (stops h Room)

      pub link-stored : b ≡ true → {links : List ℕ} {w : Edge} → w ≡ written e → links ≡ encode link_layout (links_of c.links m.links ++ (link w 0 ∷ [])) ++ drop (3 * (c.links + 1)) m.links → Came l (add_link l g e) (store m.nodes m.letters links) (Ok (counts c.nodes c.letters (c.links + 1))) (counts c.nodes c.letters (c.links + 1))
      link-stored t {links} {w} v p =
          let fit : fits_in l g'' ≡ true = sym link_fits ∙ sym f ∙ t in
          rw (unlinked, fit)
          (record {
            number = refl;
            held =
                record {
                  room = fit;
                  used = rw (one_link, node-count h, letter_count h, link-count h);
                  arrays =
                      same_store (nodes_now h) (letters_now h)
                      (one_record link_layout g.links l.links c.links (link (written e) 0) (link-count h) (links_now h) (rw (← v) p));
                };
          })
