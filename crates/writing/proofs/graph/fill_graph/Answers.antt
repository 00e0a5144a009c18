use Rattle.store.specs.Graph.{nodes_of}
use Rattle.formed.proofs.Says.{formed_room, formed_good}
use Rattle.affix.proofs.LookedUp.{formed_readable}
use Rattle.groups.proofs.Along.{formed_number}
use Rattle.writing.specs.GraphText.{live_segments}
use Rattle.writing.proofs.Filling.{filled-then}
use Rattle.writing.proofs.Sizes.{segments_fit, links_fit_lem}
use Rattle.writing.proofs.Texts.{segments-bare}
use Rattle.writing.proofs.graph.fill_graph.Goals as goal

pub fill_segments-at-requires : goal.fill_segments-at-requires
fill_segments-at-requires c =
    let a = c.args in
    record { readable = formed_readable a.nodes.now a.text.now a.links.now a.c c.requires; nodes_bound = segments_fit a.nodes.now a.text.now a.links.now a.c c.requires }

pub fill_links-requires : goal.fill_links-requires
fill_links-requires c =
    let a = c.args in
    let room = formed_room a.nodes.now a.text.now a.links.now a.c c.requires in
    record { nodes_in_bounds = (room.node_room, room.link_room); nodes_value = (formed_number a.nodes.now a.text.now a.links.now a.c c.requires, (formed_good a.nodes.now a.text.now a.links.now a.c c.requires).links_once); c_bound = links_fit_lem a.nodes.now a.text.now a.links.now a.c c.requires c.fill_segments-at.result c.fill_segments-at.ensures.place }

pub returns : goal.returns
returns c =
    let a = c.args in
    filled-then (rw (segments-bare a.nodes.now a.text.now a.links.now a.c (live_segments (nodes_of a.c.nodes a.nodes.now))) at c.fill_segments-at.ensures) c.fill_links.ensures
