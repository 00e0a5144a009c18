-- A text is read exactly when no line of it is refused, each name is given once, each that is used is given, and the whole
-- fits; what is read then is the graph that it says.
use Prim.Native.Nat.{ℕ}
use mathlib.Core.Path.{◌≡◌, refl, sym, ap, ◌∙◌}
use mathlib.Core.Bool.{Bool, true}
use mathlib.Core.List.{List, Memᴰ}
use mathlib.Core.Logic.{◌↔◌}
use native.Mathlib.Omega.{arith}
use borrow.Author.Tests.{eqb-true}
use lib.Dec.{eqb}
use Rattle.kit.specs.Loops.{all}
use Rattle.kit.proofs.Meaning.{all_mem}
use Rattle.store.specs.Graph.{Graph}
use Rattle.store.specs.declared.Node.{Node}
use Rattle.formed.proofs.Says.{says_room}
use Rattle.spelling.specs.Spelling.{all_stored}
use Rattle.text.specs.Pieces.{lines_of}
use Rattle.text.specs.Fields.{line_number, handles_said}
use Rattle.reading.specs.Reading.{Store, counts_of, fits_in, going, goes_on, pass_one_line, pass_two_line, pass, empty, read_text}
use Rattle.gfa.specs.Accepted.{Accepted}
use Rattle.gfa.specs.Narrowings.{segments_into, graph_said}
use Rattle.gfa.proofs.ReadGrowth.{segment_lines, link_lines, fits_less, links_less, links-nodes, links-letters, pass-before, goes_same}
use Rattle.gfa.proofs.ReadOne.{Ones, one-pass, pass-one}
use Rattle.gfa.proofs.ReadTwo.{Twos, two-pass, pass-two}

-- the graph between the passes
abbrev pub segments_only : List ℕ → Graph
segments_only text = segments_into empty (segment_lines (lines_of text))

pub said-nodes : (text : List ℕ) → (graph_said text).nodes ≡ (segments_only text).nodes
unfolding graph_said
said-nodes text = links-nodes (segments_only text) (link_lines (lines_of text))

pub said-letters : (text : List ℕ) → (graph_said text).letters ≡ (segments_only text).letters
unfolding graph_said
said-letters text = links-letters (segments_only text) (link_lines (lines_of text))

empty-fits : (l : Store) → fits_in l empty ≡ true
empty-fits l =
    says_room l.nodes l.letters l.links (counts_of empty) (record {
      few_nodes = omega arith;
      node_room = omega arith;
      few_letters = omega arith;
      letter_room = omega arith;
      few_links = omega arith;
      link_room = omega arith;
    })

-- line by line
module _ (l : Store) (text : List ℕ) (a : Accepted l text) where
  pub line-zero : {line : List ℕ} → Memᴰ line (lines_of text) → line_number line ≡ 0
  line-zero {line} m = eqb-true (line_number line) 0 (all_mem (λ k. eqb (line_number k) 0) a.numbers m)

  pub line-stored : {line : List ℕ} → Memᴰ line (lines_of text) → all_stored (graph_said text).nodes (handles_said line) ≡ true
  line-stored m = all_mem (λ k. all_stored (graph_said text).nodes (handles_said k)) a.names_declared m

module _ (l : Store) (text : List ℕ) where
  declared_in_lem : List Node → Bool
  declared_in_lem ns = all (λ line. all_stored ns (handles_said line)) (lines_of text)

  pub read_accepted : goes_on (read_text l text) ≡ true → Accepted l text
  unfolding graph_said declared_in_lem
  read_accepted t =
      let ls = lines_of text in
      let o = pass-one l empty ls refl (empty-fits l) (pass-before (pass_two_line l) (pass (pass_one_line l) (going empty) ls) ls t) in
      let w = pass-two l (segments_only text) ls o.room (sym (goes_same (pass_two_line l) ls (one-pass l empty ls o)) ∙ t) in
      record {
        numbers = o.numbers;
        names_once = o.once;
        names_declared = ap declared_in_lem (said-nodes text) ∙ w.declared;
        room = w.room;
      }

  pub accepted_read : Accepted l text → read_text l text ≡ going (graph_said text)
  unfolding graph_said declared_in_lem
  accepted_read a =
      let ls = lines_of text in
      let o : Ones l empty ls = record {
        numbers = a.numbers;
        once = a.names_once;
        room = fits_less l (segments_only text) (graph_said text) (links_less (segments_only text) (link_lines ls)) a.room;
      }
      in
      let w : Twos l (segments_only text) ls = record { declared = sym (ap declared_in_lem (said-nodes text)) ∙ a.names_declared; room = a.room } in
      ap (λ r. pass (pass_two_line l) r ls) (one-pass l empty ls o) ∙ two-pass l (segments_only text) ls w

  pub read-said : goes_on (read_text l text) ≡ true → read_text l text ≡ going (graph_said text)
  read-said t = accepted_read (read_accepted t)

  pub read_exactly : (goes_on (read_text l text) ≡ true) ↔ Accepted l text
  read_exactly = (read_accepted, λ a. ap goes_on (accepted_read a))
