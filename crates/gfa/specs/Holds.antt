-- How a store holds what a text says, and how it holds the live part of another.
use Rattle.std.specs.Prelude.{ℕ, ◌≡◌, true}
use mathlib.Core.List.{List, map, Memᴰ}
use Rattle.kit.specs.Decimal.{decimal}
use Rattle.handle.specs.declared.Handle.{Handle}
use Rattle.handle.specs.Handle.{id_of, dir_of}
use Rattle.handle.specs.Edge.{edge}
use Rattle.store.specs.Graph.{Graph, link, ends}
use Rattle.store.specs.declared.Node.{Node}
use Rattle.store.specs.declared.Link.{Link}
use Rattle.store.specs.Views.{joins, span, spell}
use Rattle.formed.specs.WellFormed.{links_once, unmarked}
use Rattle.writing.specs.GraphText.{live_segments, live_links}
use Rattle.gfa.specs.Said as said
use Rattle.gfa.specs.Said.{Segment, Place, Join, segments, paths, walks}

-- a stored node is a segment: its name is the id in decimal
abbrev pub segment_in : Graph → Node → Segment
segment_in g r = record { name = decimal r.id; sequence = span g.letters r }

-- an oriented node is the one that a place names
pub record Names (h : Handle) (p : Place) : Type 0 where
  pub name : decimal (id_of h) ≡ p.name
  pub dir : dir_of h ≡ p.dir

-- a link is one that the text says, in either form
pub record Says (j : Join) (r : Link) : Type 0 where
  pub from : Handle
  pub to : Handle
  pub from_named : Names from j.from
  pub to_named : Names to j.to
  pub same : joins (edge from to) r ≡ true

pub record Declared (g : Graph) (p : Place) : Type 0 where
  pub node : Node
  pub in_nodes : Memᴰ node g.nodes
  pub name : decimal node.id ≡ p.name

-- exactly the segments and the links that the text says, and each step of its paths and walks is declared
pub record Holds (g : Graph) (text : List ℕ) : Type 0 where
  pub segments_held : map (segment_in g) g.nodes ≡ segments text
  pub joins_held : (j : Join) → Memᴰ j (said.joins text) → (r : Link) × Memᴰ r g.links × Says j r
  pub links_said : (r : Link) → Memᴰ r g.links → (j : Join) × Memᴰ j (said.joins text) × Says j r
  pub links_once : links_once g.links ≡ true
  pub no_marks : unmarked g ≡ true
  pub paths_declared : (ps : List Place) → Memᴰ ps (paths text) → (p : Place) → Memᴰ p ps → Declared g p
  pub walks_declared : (ps : List Place) → Memᴰ ps (walks text) → (p : Place) → Memᴰ p ps → Declared g p

-- what is written of a node
abbrev pub segment_of : Graph → Handle → Segment
segment_of g h = record { name = decimal (id_of h); sequence = spell g h }

-- the live part of g, in the order in which it is written: the same nodes with the same letters, the same links, no marks
pub record LivePart (g live : Graph) : Type 0 where
  pub nodes_same : map (segment_in live) live.nodes ≡ map (segment_of g) (live_segments g.nodes)
  pub links_same : live.links ≡ map (λ r. link (ends r) 0) (live_links g)
  pub no_marks : unmarked live ≡ true
