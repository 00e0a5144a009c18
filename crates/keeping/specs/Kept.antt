-- What the new graph has kept of the old one: 01 "The eight conditions", 5 and 6.
use Rattle.std.specs.Prelude.{ℕ, ◌+◌, Bool, ◌&&◌, ◌||◌, List, [], ◌∷◌, map}
use Rattle.letters.specs.Sequences.{same_spelling}
use Rattle.handle.specs.declared.Handle.{Handle}
use Rattle.handle.specs.Handle.{id_of, pack}
use Rattle.handle.specs.Edge.{edge}
use Rattle.store.specs.Graph.{Graph, handle}
use Rattle.store.specs.declared.Link.{Link}
use Rattle.store.specs.Views.{len_of, live_node, spell, live_linked}
use Rattle.sides.specs.Sides.{rising}
use Rattle.events.specs.Events.{Rules}
use Rattle.rewriting.specs.Rewriting.{ruled, transform_node}
use Rattle.scanning.specs.declared.Verdict.{Verdict}
use Rattle.scanning.specs.Rules.{verdict, or_then, unless}

-- 5: an old node without a rule under its length is live in the new graph, same spelling
abbrev pub node_kept : Graph → Graph → Rules → Handle → Bool
node_kept old new t h =
    ruled (id_of h) (len_of old (id_of h)) t.rules
    || (live_node (id_of h) new.nodes && same_spelling (spell old h) (spell new h))

-- by rising id
abbrev pub old_nodes : Graph → List Handle
old_nodes old = rising (map (λ r. pack r.id 0) old.nodes)

abbrev pub nodes_fault : Graph → Graph → Rules → List Handle → Verdict
nodes_fault old new t [] = verdict 0 0 0
nodes_fault old new t (h ∷ hs) = or_then (unless (node_kept old new t h) 26 (id_of h) 0) (nodes_fault old new t hs)

-- 6: an old link has a live counterpart from the last step of one image to the first of the next
abbrev pub last_of : List Handle → Handle
last_of [] = handle 0
last_of (h ∷ []) = h
last_of (h ∷ k ∷ hs) = last_of (k ∷ hs)

abbrev pub first_of : List Handle → Handle
first_of [] = handle 0
first_of (h ∷ hs) = h

abbrev pub link_kept : Graph → Graph → Rules → Link → Bool
link_kept old new t r =
    live_linked new (edge (last_of (transform_node old t r.from)) (first_of (transform_node old t r.to)))

-- by written order
abbrev pub links_fault : Graph → Graph → Rules → ℕ → List Link → Verdict
links_fault old new t i [] = verdict 0 0 0
links_fault old new t i (r ∷ rs) = or_then (unless (link_kept old new t r) 27 i 0) (links_fault old new t (i + 1) rs)
