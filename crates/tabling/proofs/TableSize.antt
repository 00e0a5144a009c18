-- The table's text does not leave 64 bits either.
use Prim.Native.Nat.{ℕ, ◌*◌, ◌^◌, ◌≤◌, ◌<◌}
use mathlib.Core.Path.{◌≡◌, refl, ap, ◌∙◌}
use mathlib.Core.Bool.{Bool, true, false, cond}
use mathlib.Core.List.{List, [], map, Memᴰ}
use native.Mathlib.Omega.{arith}
use borrow.Author.Tests.{leb-true, le-leb}
use lib.Dec.{leb}
use lib.ListN.{length, take, drop, length-append, length-take, length-map}
use Rattle.kit.specs.Loops.{all, lines}
use Rattle.kit.proofs.Bools.{and_true_r, and_both}
use Rattle.kit.proofs.Decimal.{decimal_short}
use Rattle.kit.proofs.Laws.{length-decode}
use Rattle.kit.proofs.Meaning.{all_mem, all_map, all_take, all_drop}
use Rattle.handle.specs.declared.Handle.{Handle}
use Rattle.handle.specs.Handle.{max_id, is_handle, id_of, dir_of, pack}
use Rattle.store.specs.declared.Counts.{Counts}
use Rattle.store.specs.Graph.{Graph, node_layout, nodes_of, graph_of}
use Rattle.store.specs.Views.{unmarked_node, len_of}
use Rattle.formed.specs.WellFormed.{well_formed}
use Rattle.formed.proofs.Says.{formed_room}
use Rattle.affix.specs.Reading.{reading_of}
use Rattle.affix.proofs.LookedUp.{formed_readable, inside, reads, length-read}
use Rattle.events.specs.declared.Used.{Used}
use Rattle.events.specs.Events.{Rules, rules_of, list_of}
use Rattle.events.specs.declared.Step.{Step}
use Rattle.events.specs.WellFormed.{room_for_rules, good_rule, good_step, good_table, table_formed}
use Rattle.events.proofs.Says.{table-room}
use Rattle.rewriting.specs.Rewriting.{ruled, rule_under, transform_node}
use Rattle.rewriting.proofs.Tables.{steps-inside}
use Rattle.rewriting.proofs.Images.{no_rule, length-new}
use Rattle.writing.specs.Marks.{walk_step, walk_text}
use Rattle.writing.specs.TableText.{table_line, heading, old_segments, table_text}
use Rattle.writing.proofs.Lists.{lines-bound, length-rising}
use Rattle.tabling.proofs.Rows.{image_by, row-length}
use Rattle.writing.proofs.Segments.{readable_ids, segment_of_lem, segment_id_lem, live-old}
use Rattle.writing.proofs.Sizes.{spell_short}

-- what stands for a node is made of steps of the table, or the node itself
image_good : (g : Graph) (t : Rules) (h : Handle) → dir_of h ≡ 0 → is_handle h ≡ true → all good_step t.steps ≡ true → all is_handle (transform_node g t h) ≡ true
image_good g t h z good ok = by (ruled (id_of h) (len_of g (id_of h)) t.rules) refl
  where
    by : (b : Bool) → ruled (id_of h) (len_of g (id_of h)) t.rules ≡ b → all is_handle (transform_node g t h) ≡ true
    by true e =
        let r = rule_under (id_of h) (len_of g (id_of h)) t.rules in
        ap (all is_handle) (image_by g t h z e r refl)
        ∙ all_map is_handle (λ (s : Step). s.node) (take r.steps (drop r.first t.steps))
        ∙ all_take good_step r.steps (drop r.first t.steps) (all_drop good_step r.first t.steps ok)
    by false e = ap (all is_handle) (no_rule g t h e) ∙ and_both (is_handle h) true good refl

step_short : (h : Handle) → is_handle h ≡ true → length (walk_step h) ≤ 21
step_short h t =
    let k = leb-true (id_of h) max_id (and_true_r (leb 1 (id_of h)) (leb (id_of h) max_id) t) in
    omega (arith, decimal_short (id_of h) (omega arith))

walk_short : (hs : List Handle) → all is_handle hs ≡ true → length (walk_text hs) ≤ 21 * length hs
unfolding walk_text
walk_short hs t = lines-bound walk_step 21 hs (λ h m. step_short h (all_mem is_handle t m))

module _ (nodes letters links : List ℕ) (c : Counts) (t : well_formed nodes letters links c ≡ true) where
  len_short : (h : Handle) → len_of (graph_of nodes [] [] c) (id_of h) ≤ 16777216
  len_short h =
      let ok = formed_readable nodes letters links c t in
      let r = reading_of (nodes_of c.nodes nodes) h in
      omega (arith, length-read letters r (inside nodes letters c ok h r refl), ap length (reads nodes letters c ok h r refl), spell_short (graph_of nodes letters [] c) h, length-take c.letters letters, (formed_room nodes letters links c t).few_letters)

  module _ (rules steps : List ℕ) (u : Used) (ok : table_formed rules steps u ≡ true) where
    few_steps : (h : Handle) → length (transform_node (graph_of nodes [] [] c) (list_of rules steps u) h) ≤ 262145
    few_steps h =
        omega (arith, length-new nodes rules steps c u ok h, by (ruled (id_of h) (len_of (graph_of nodes [] [] c) (id_of h)) (rules_of u.rules rules)))
      where
        by : (b : Bool) → cond b (rule_under (id_of h) (len_of (graph_of nodes [] [] c) (id_of h)) (rules_of u.rules rules)).steps 1 ≤ 262145
        by true = omega (arith, steps-inside rules steps u ok (id_of h) (len_of (graph_of nodes [] [] c) (id_of h)), (table-room rules steps u ok).few_steps)
        by false = omega arith

    row_short : (h : Handle) → dir_of h ≡ 0 → is_handle h ≡ true → length (table_line (graph_of nodes [] [] c) (list_of rules steps u) h) ≤ 5505088
    row_short h z good =
        let g = graph_of nodes [] [] c in
        let l = list_of rules steps u in
        let all-good = and_true_r (all (good_rule (length l.steps)) l.rules) (all good_step l.steps) (and_true_r (room_for_rules rules steps u) (good_table l) ok) in
        let k = leb-true (id_of h) max_id (and_true_r (leb 1 (id_of h)) (leb (id_of h) max_id) good) in
        omega (arith, row-length g l h, decimal_short (id_of h) (omega arith), decimal_short (len_of g (id_of h)) (omega (arith, len_short h)), walk_short (transform_node g l h) (image_good g l h z good all-good), few_steps h)

    pub table_fits_lem : all unmarked_node (nodes_of c.nodes nodes) ≡ true → length (table_text (graph_of nodes [] [] c) (list_of rules steps u)) < 2 ^ 64
    table_fits_lem live =
        let ns = nodes_of c.nodes nodes in
        let ids = readable_ids nodes letters c (formed_readable nodes letters links c t) in
        let f = table_line (graph_of nodes [] [] c) (list_of rules steps u) in
        let each : (h : Handle) → Memᴰ h (old_segments ns) → length (f h) ≤ 5505088 =
        λ h m.
        let k = rw (← (live-old ns live)) at m in
        let i = segment_id_lem ns ids k in
        row_short h (segment_of_lem ns k).forward (and_both _ _ (le-leb 1 (id_of h) i.0) (le-leb (id_of h) max_id i.1))
        in
        omega (arith, length-append heading (lines f (old_segments ns)), lines-bound f 5505088 (old_segments ns) each, length-rising (map (λ r. pack r.id 0) ns), length-map ns (λ r. pack r.id 0), length-decode node_layout c.nodes nodes, (formed_room nodes letters links c t).few_nodes)
