use native.Mathlib.Omega.{arith}
use Rattle.store.specs.Graph.{link}
use Rattle.writing.proofs.Filling.{filled-then}
use Rattle.writing.proofs.Texts.{link_parts, link-size}
use Rattle.writing.proofs.graph.fill_link.Goals as goal

pub fill_bytes-p-requires : goal.fill_bytes-p-requires
fill_bytes-p-requires c = omega (arith, link-size (link c.args.e 0))

pub fill_end-q-requires : goal.fill_end-q-requires
fill_end-q-requires c = omega (arith, link-size (link c.args.e 0))

pub fill_end-s-requires : goal.fill_end-s-requires
fill_end-s-requires c = omega (arith, link-size (link c.args.e 0))

pub fill_bytes-requires : goal.fill_bytes-requires
fill_bytes-requires c = omega (arith, link-size (link c.args.e 0))

pub returns : goal.returns
returns c = rw (← (link_parts (link c.args.e 0))) (filled-then (filled-then (filled-then c.fill_bytes-p.ensures c.fill_end-q.ensures) c.fill_end-s.ensures) c.fill_bytes.ensures)
