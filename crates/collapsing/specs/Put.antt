-- How a collapse is put into the lent arrays once its links are planned.
use Rattle.std.specs.Prelude.{ℕ, ◌+◌, ◌*◌, ◌≤◌, ◌<◌, ◌^◌, ◌≡◌, true, cond, List, [], ltb, length, Option}
use Rattle.handle.specs.declared.Handle.{Handle}
use Rattle.store.specs.Graph.{links_of}
use Rattle.store.specs.declared.Node.{Node}
use Rattle.store.specs.declared.Link.{Link}
use Rattle.store.specs.Views.{node_named}
use Rattle.formed.specs.WellFormed.{ids_once}
use Rattle.events.specs.Events.{Rules, append_all}
use Rattle.linking.specs.Fit.{fitted}
use Rattle.merging.specs.Plan.{merged_nodes, remark}
use Rattle.collapsing.specs.Making.{State, state}
use Rattle.longer.specs.Ahead.{events_by}
use Rattle.longer.specs.Longer.{Passed}

-- these links were planned in l, which left m and answered r
pub record Planned (l : List ℕ) (rs : List Link) (r : Option ℕ) (m : List ℕ) : Type 0 where
  pub answer : r ≡ fitted (length l) rs
  pub holds : 3 * length rs ≤ length l → links_of (length rs) m ≡ rs

-- how much room the plan has: that of the links, up to the limit
abbrev pub link_room : ℕ → ℕ
link_room len = cond (ltb len 393216) len 393216

-- what is stored: nodes and events by the members, links by the plan. Letters are not looked at.
abbrev pub state_by : ℕ → List Node → List Link → Rules → List Link → List Handle → State
state_by p nodes links t plan ms =
    state (record { nodes = merged_nodes p nodes ms; letters = []; links = remark links plan }) (append_all t (events_by p nodes ms))

-- what it asks of the nodes and the members
pub record Storable (p : ℕ) (nodes : List Node) (ms : List Handle) : Type 0 where
  pub passed : Passed p nodes ms
  pub once : ids_once nodes ≡ true
  pub spans : (id : ℕ) → (node_named id nodes).start + (node_named id nodes).len < 2 ^ 64
