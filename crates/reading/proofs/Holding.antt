-- What arrays that hold a graph tell of it, and of those that they came from.
use Prim.Native.Nat.{ℕ, ◌*◌, ◌≤◌}
use mathlib.Core.Path.{◌≡◌, refl, sym, ap, ◌∙◌}
use mathlib.Core.List.{List, ◌++◌}
use native.Mathlib.Omega.{arith}
use lib.ListN.{length, drop, length-append, length-drop}
use Rattle.std.specs.Prelude.{Ok, Err}
use Rattle.kit.specs.declared.Refusal.{Refusal}
use Rattle.kit.specs.Refusal.{number}
use Rattle.kit.specs.Layout.{encode}
use Rattle.kit.proofs.Laws.{then-decode, then-length}
use Rattle.store.specs.declared.Counts.{Counts}
use Rattle.store.specs.Graph.{Graph, node_layout, link_layout, nodes_of, links_of}
use Rattle.formed.proofs.Says.{Room, room_says, says_room}
use Rattle.reading.specs.Reading.{Store, store, counts_of, empty, stopped, going}
use Rattle.reading.specs.Held.{Held, Came, counts}

pub same_store : {a b c d e f : List ℕ} → a ≡ d → b ≡ e → c ≡ f → store a b c ≡ store d e f
same_store p q r = rw (p, q, r)

module _ {l : Store} {g : Graph} {m : Store} {c : Counts} (h : Held l g m c) where
  pub room_held : Room l.nodes l.letters l.links (counts_of g)
  room_held = room_says l.nodes l.letters l.links (counts_of g) h.room

  pub node-count : c.nodes ≡ length g.nodes
  node-count = ap (λ (k : Counts). k.nodes) h.used

  pub letter_count : c.letters ≡ length g.letters
  letter_count = ap (λ (k : Counts). k.letters) h.used

  pub link-count : c.links ≡ length g.links
  link-count = ap (λ (k : Counts). k.links) h.used

  pub nodes_now : m.nodes ≡ encode node_layout g.nodes ++ drop (4 * length g.nodes) l.nodes
  nodes_now = ap (λ (s : Store). s.nodes) h.arrays

  pub letters_now : m.letters ≡ g.letters ++ drop (length g.letters) l.letters
  letters_now = ap (λ (s : Store). s.letters) h.arrays

  pub links_now : m.links ≡ encode link_layout g.links ++ drop (3 * length g.links) l.links
  links_now = ap (λ (s : Store). s.links) h.arrays

  -- the records in use are the graph's
  pub nodes_held : nodes_of c.nodes m.nodes ≡ g.nodes
  nodes_held = ap (nodes_of c.nodes) nodes_now ∙ then-decode node_layout c.nodes g.nodes (drop (4 * length g.nodes) l.nodes) (sym node-count)

  pub links_held : links_of c.links m.links ≡ g.links
  links_held = ap (links_of c.links) links_now ∙ then-decode link_layout c.links g.links (drop (3 * length g.links) l.links) (sym link-count)

  -- the arrays are as long as they were, and the counts lie inside them
  pub same_nodes : length m.nodes ≡ length l.nodes
  same_nodes = ap length nodes_now ∙ then-length node_layout (length g.nodes) g.nodes l.nodes refl room_held.node_room

  pub same-letters : length m.letters ≡ length l.letters
  same-letters =
      ap length letters_now
      ∙ length-append g.letters (drop (length g.letters) l.letters)
      ∙ omega (arith, length-drop (length g.letters) l.letters, room_held.letter_room)

  pub same-links : length m.links ≡ length l.links
  same-links = ap length links_now ∙ then-length link_layout (length g.links) g.links l.links refl room_held.link_room

  pub node_room : 4 * c.nodes ≤ length m.nodes
  node_room = omega (arith, node-count, same_nodes, room_held.node_room)

  pub link_room_lem : 3 * c.links ≤ length m.links
  link_room_lem = omega (arith, link-count, same-links, room_held.link_room)

  -- nothing more is read: a refusal, or a line that is passed over
  pub stops : (e : Refusal) → Came {A = Counts} l (stopped (number e) g) m (Err e) c
  stops e = record { number = refl; held = h }

  pub goes : Came {A = Counts} l (going g) m (Ok c) c
  goes = record { number = refl; held = h }

-- before the first line, every array holds the empty graph
pub held_none : (nodes letters links : List ℕ) → Held (store nodes letters links) empty (store nodes letters links) (counts 0 0 0)
held_none nodes letters links =
    record {
      room = says_room nodes letters links (counts_of empty) (record {
        few_nodes = omega arith;
        node_room = omega arith;
        few_letters = omega arith;
        letter_room = omega arith;
        few_links = omega arith;
        link_room = omega arith;
      });
      used = refl;
      arrays = refl;
    }
