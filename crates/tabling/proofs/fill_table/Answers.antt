use native.Mathlib.Omega.{arith}
use Rattle.writing.proofs.Filling.{filled-then}
use Rattle.tabling.proofs.fill_table.Goals as goal

pub fill_rows-requires : goal.fill_rows-requires
fill_rows-requires c = record { nodes_in_bounds = c.requires.nodes_in_bounds; nodes_value = c.requires.nodes_value; nodes_bound = omega (arith, c.fill_bytes-at.ensures.place, c.requires.u_len_bound) }

pub returns : goal.returns
returns c = filled-then c.fill_bytes-at.ensures c.fill_rows.ensures
