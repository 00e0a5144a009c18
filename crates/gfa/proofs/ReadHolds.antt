-- What is read is what the text says by GFA 1.
use Prim.Native.Nat.{ℕ, ◌≤◌}
use mathlib.Core.Path.{◌≡◌, refl, sym, ap, ap₂, ◌∙◌, subst}
use mathlib.Core.Bool.{Bool, true, false, cond, ◌&&◌}
use mathlib.Core.List.Memᴰ
use mathlib.Core.List.{List, map, Memᴰ}
use mathlib.Core.Logic.{⊎_elim}
use native.Mathlib.Omega.{arith}
use borrow.Author.Tests.{eqb-true}
use lib.Dec.{eqb}
use lib.ListN.{drop, get_or}
use Rattle.kit.specs.Decimal.{decimal}
use Rattle.kit.specs.Loops.{all, keep}
use Rattle.kit.proofs.Bools.{and_true_l, and_true_r}
use Rattle.kit.proofs.Meaning.{all_mem, any_some}
use Rattle.kit.proofs.Members.{of_keep}
use Rattle.handle.specs.Handle.{pack, id_of}
use Rattle.handle.proofs.Handles.{id-pack, dir_pack}
use Rattle.store.specs.Graph.{Graph}
use Rattle.store.specs.declared.Node.{Node}
use Rattle.store.specs.declared.Link.{Link}
use Rattle.store.specs.Views.{named, stored, joins, span}
use Rattle.spelling.specs.Spelling.{all_stored}
use Rattle.text.specs.Pieces.{lines_of, field, is_line}
use Rattle.text.specs.Names.{is_name, name_id}
use Rattle.text.specs.Steps.{sign_dir, arrow_dir, path_steps, step_sign, step_name, walk_steps}
use Rattle.text.specs.Fields.{line_number, edge_of, handles_said}
use Rattle.reading.specs.Reading.{Store, goes_on, empty, read_text}
use Rattle.gfa.specs.Accepted.{Accepted}
use Rattle.gfa.specs.Said as said
use Rattle.gfa.specs.Said.{Place, Join, place, join_said, segments}
use Rattle.gfa.specs.Narrowings.{graph_said}
use Rattle.gfa.specs.Holds.{Names, Says, Declared, Holds, segment_in}
use Rattle.gfa.proofs.ReadGrowth.{segment_lines, link_lines}
use Rattle.gfa.proofs.ReadLines.{path_handles_lem, walk_handles_lem, link_narrow, path_narrow, walk_narrow}
use Rattle.gfa.proofs.ReadNodes.{name_said, nodes_held, links_untouched}
use Rattle.gfa.proofs.ReadLinks.{links_held, links_whence}
use Rattle.gfa.proofs.ReadSaid.{segments_only, said-nodes, said-letters, line-zero, line-stored, read_accepted, read-said}
use Rattle.gfa.proofs.ReadGood.{segment_read, said_plain, said-unmarked}

bit : (t : Bool) → cond t 1 0 ≤ 1
bit true = omega arith
bit false = omega arith

module _ (name : List ℕ) (dir : ℕ) (t : is_name name ≡ true) (h : dir ≤ 1) where
  names : Names (pack (name_id name) dir) (place name dir)
  names = record { name = ap decimal (id-pack (name_id name) dir h) ∙ name_said name t; dir = dir_pack (name_id name) dir h }

  declared : (g : Graph) → stored (id_of (pack (name_id name) dir)) g.nodes ≡ true → Declared g (place name dir)
  declared g s =
      let f = any_some (named (id_of (pack (name_id name) dir))) g.nodes s in
      record {
        node = f.0;
        in_nodes = f.1;
        name = ap decimal (eqb-true f.0.id (id_of (pack (name_id name) dir)) f.2) ∙ names.name;
      }

-- lines of one kind that name nodes step by step
record StepLines (letter : ℕ) (steps : List ℕ → List (List ℕ)) (name : List ℕ → List ℕ) (dir : List ℕ → ℕ) : Type 0 where
  small : (s : List ℕ) → dir s ≤ 1
  narrow : (line : List ℕ) → line_number line ≡ 0 → is_line letter line ≡ true → all (λ s. is_name (name s)) (steps line) ≡ true
  handles : (line : List ℕ) → is_line letter line ≡ true → handles_said line ≡ map (λ s. pack (name_id (name s)) (dir s)) (steps line)

path_lines : StepLines 80 (λ line. path_steps (field 2 line)) step_name (λ s. sign_dir (step_sign s))
path_lines = record { small = λ s. bit (eqb (step_sign s) 45); narrow = path_narrow; handles = path_handles_lem }

walk_lines : StepLines 87 (λ line. walk_steps (field 6 line)) (drop 1) (λ s. arrow_dir (get_or s 0 0))
walk_lines = record { small = λ s. bit (eqb (get_or s 0 0) 60); narrow = walk_narrow; handles = walk_handles_lem }

module _ (l : Store) (text : List ℕ) (a : Accepted l text) where
  segments-same : map (segment_in (graph_said text)) (graph_said text).nodes ≡ segments text
  segments-same =
      ap₂ (λ (s : List ℕ) (ns : List Node). map (λ r. record { name = decimal r.id; sequence = span s r }) ns)
      (said-letters text) (said-nodes text)
      ∙ nodes_held empty (segment_lines (lines_of text)) (segment_read l text a) refl

  says : {k : List ℕ} → Memᴰ k (link_lines (lines_of text)) → (r : Link) → joins (edge_of k) r ≡ true → Says (join_said k) r
  says {k} m r t =
      let f = of_keep (is_line 76) (lines_of text) m in
      let both = and_true_l (is_name (field 1 k) && is_name (field 3 k)) _ (link_narrow k (line-zero l text a f.0) f.1) in
      record {
        from = (edge_of k).from;
        to = (edge_of k).to;
        from_named = names (field 1 k) _ (and_true_l (is_name (field 1 k)) (is_name (field 3 k)) both) (bit (eqb (get_or (field 2 k) 0 0) 45));
        to_named = names (field 3 k) _ (and_true_r (is_name (field 1 k)) (is_name (field 3 k)) both) (bit (eqb (get_or (field 4 k) 0 0) 45));
        same = t;
      }

  joins_held : (j : Join) → Memᴰ j (said.joins text) → (r : Link) × Memᴰ r (graph_said text).links × Says j r
  unfolding graph_said
  joins_held j m =
      let k = Memᴰ.of_map join_said (link_lines (lines_of text)) m in
      let f = links_held (segments_only text) (link_lines (lines_of text)) k.1 in
      (f.0, f.1, subst (λ (x : Join). Says x f.0) k.2 (says k.1 f.0 f.2))

  links_said : (r : Link) → Memᴰ r (graph_said text).links → (j : Join) × Memᴰ j (said.joins text) × Says j r
  unfolding graph_said
  links_said r m =
      ⊎_elim
      (λ n. absurd (Memᴰ.not-nil (subst (λ (rs : List Link). Memᴰ r rs) (links_untouched empty (segment_lines (lines_of text))) n)))
      (λ f. (join_said f.0, Memᴰ.map join_said f.1, says f.1 r f.2))
      (links_whence (segments_only text) (link_lines (lines_of text)) m)

  -- each step of a line of one kind is declared
  module _ (letter : ℕ) (steps : List ℕ → List (List ℕ)) (name : List ℕ → List ℕ) (dir : List ℕ → ℕ) (k : StepLines letter steps name dir) where
    steps_declared : (ps : List Place) → Memᴰ ps (map (λ line. map (λ s. place (name s) (dir s)) (steps line)) (keep (is_line letter) (lines_of text))) → (p : Place) → Memᴰ p ps → Declared (graph_said text) p
    steps_declared ps m p n =
        let ns = (graph_said text).nodes in
        let x = Memᴰ.of_map _ (keep (is_line letter) (lines_of text)) m in
        let f = of_keep (is_line letter) (lines_of text) x.1 in
        let s = Memᴰ.of_map _ (steps x.0) (subst (λ (z : List Place). Memᴰ p z) (sym x.2) n) in
        let t = all_mem (λ z. is_name (name z)) (k.narrow x.0 (line-zero l text a f.0) f.1) s.1 in
        let q = sym (ap (all_stored ns) (k.handles x.0 f.1)) ∙ line-stored l text a f.0 in
        subst (Declared (graph_said text)) s.2
        (declared (name s.0) (dir s.0) t (k.small s.0) (graph_said text) (all_mem (λ h. stored (id_of h) ns) q (Memᴰ.map _ s.1)))

  said_holds : Holds (graph_said text) text
  said_holds =
      record {
        segments_held = segments-same;
        joins_held = joins_held;
        links_said = links_said;
        links_once = (said_plain l text a).once;
        no_marks = said-unmarked l text a;
        paths_declared = steps_declared _ _ _ _ path_lines;
        walks_declared = steps_declared _ _ _ _ walk_lines;
      }

pub read_holds : (l : Store) (text : List ℕ) → goes_on (read_text l text) ≡ true → Holds (read_text l text).graph text
read_holds l text t =
    subst (λ (g : Graph). Holds g text) (sym (ap (λ r. r.graph) (read-said l text t))) (said_holds l text (read_accepted l text t))
