-- The fields of the i-th node and link, as the code reads and stores them.
use Prim.Native.Nat.{ℕ, ◌+◌, ◌*◌, ◌<◌, ◌-◌, ◌≤◌}
use mathlib.Core.Path.{◌≡◌, ap, ◌∙◌, sym}
use mathlib.Core.List.{List, ◌∷◌}
use native.Mathlib.Nat.{add-zero}
use lib.ListN.{drop, get_or}
use lib.Seq.{get_or-drop}
use Rattle.kit.proofs.Laws.{left_cons, decode-at, length-decode}
use Rattle.store.specs.Graph.{node_layout, link_layout, nodes_of, links_of, unpack_node, unpack_link}
use Rattle.store.specs.declared.Node.{Node}
use Rattle.store.specs.declared.Link.{Link}
pub use Rattle.store.specs.Graph.{node_at, link_at}
use mathlib.Core.Bool.{true}
use native.Mathlib.Omega.{arith}
use borrow.Author.Tests.{leb-true}
use lib.Dec.{leb}
use Rattle.kit.specs.Loops.{all}
use Rattle.kit.proofs.Bools.{and_true_r}
use Rattle.kit.proofs.Meaning.{all-at}
use Rattle.handle.specs.Handle.{is_id, max_id}

node_at_lem : (l : List ℕ) (i : ℕ) → unpack_node (drop (4 * i) l) ≡ node_at l i
node_at_lem l i = simp (get_or-drop, add-zero)

link_at_lem : (l : List ℕ) (i : ℕ) → unpack_link (drop (3 * i) l) ≡ link_at l i
link_at_lem l i = simp (get_or-drop, add-zero)

module _ (n i : ℕ) (l : List ℕ) (h : i < n) where
  -- what is left from i on, in a turn of a loop
  pub left-node : drop i (nodes_of n l) ≡ node_at l i ∷ drop (i + 1) (nodes_of n l)
  left-node = left_cons node_layout n i l h ∙ ap (λ (r : Node). r ∷ drop (i + 1) (nodes_of n l)) (node_at_lem l i)

  pub left-link : drop i (links_of n l) ≡ link_at l i ∷ drop (i + 1) (links_of n l)
  left-link = left_cons link_layout n i l h ∙ ap (λ (r : Link). r ∷ drop (i + 1) (links_of n l)) (link_at_lem l i)

  -- the i-th of the records in use
  pub node_is : (d : Node) → get_or (nodes_of n l) i d ≡ node_at l i
  node_is d = decode-at node_layout n i l d h ∙ node_at_lem l i

  pub link_is : (d : Link) → get_or (links_of n l) i d ≡ link_at l i
  link_is d = decode-at link_layout n i l d h ∙ link_at_lem l i

-- the same in a loop from the last record to the first
module _ (n i : ℕ) (l : List ℕ) (low : 0 < i) (high : i ≤ n) where
  before : i - 1 + 1 ≡ i
  before = omega arith

  pub back_node : drop (i - 1) (nodes_of n l) ≡ node_at l (i - 1) ∷ drop i (nodes_of n l)
  back_node = left-node n (i - 1) l (omega arith) ∙ ap (λ (k : ℕ). node_at l (i - 1) ∷ drop k (nodes_of n l)) before

  pub back_link : drop (i - 1) (links_of n l) ≡ link_at l (i - 1) ∷ drop i (links_of n l)
  back_link = left-link n (i - 1) l (omega arith) ∙ ap (λ (k : ℕ). link_at l (i - 1) ∷ drop k (links_of n l)) before

-- an id in range, where each is
pub id_high : (n i : ℕ) (l : List ℕ) → all (λ r. is_id r.id) (nodes_of n l) ≡ true → i < n → get_or l (4 * i) 0 ≤ max_id
id_high n i l t h =
    let r = node_at l i in
    let e : is_id r.id ≡ true = sym (ap (λ (x : Node). is_id x.id) (node_is n i l h r)) ∙ all-at (λ (x : Node). is_id x.id) (nodes_of n l) t i (omega (arith, length-decode node_layout n l)) r in
    leb-true r.id max_id (and_true_r (leb 1 r.id) (leb r.id max_id) e)
