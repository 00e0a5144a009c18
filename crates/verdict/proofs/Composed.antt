-- The conditions, one after another: what each part finds on the arrays that it reads is what it finds on the whole graphs.
use Prim.Native.Nat.{ℕ}
use mathlib.Core.Path.{◌≡◌, sym, ap, ◌∙◌}
use mathlib.Core.Bool.{true}
use mathlib.Core.List.{List, []}
use borrow.Author.Tests.{eq-eqb, ne_eqb}
use Rattle.kit.specs.Loops.{all}
use Rattle.store.specs.declared.Counts.{Counts}
use Rattle.store.specs.Graph.{Graph, links_of, graph_of}
use Rattle.store.specs.Order.{written_order}
use Rattle.events.specs.declared.Used.{Used}
use Rattle.events.specs.Events.{Rules, rules_of, steps_of, list_of}
use Rattle.scanning.specs.declared.Verdict.{Verdict}
use Rattle.scanning.specs.Rules.{or_then, has_steps, rules_fault}
use Rattle.scanning.proofs.RuleTurns.{rules-old, scan_steps}
use Rattle.keeping.specs.Kept.{old_nodes, nodes_fault, links_fault}
use Rattle.verdict.specs.Conditions.{protected_fault, conditions_fault}
use Rattle.keeping.proofs.LinksKept.{links-bare}
use Rattle.keeping.proofs.NodesKept.{nodes-bare}
use Rattle.verdict.proofs.Protected.{protected_bare}

-- a fault is the answer, none leaves it to what follows
module _ (v w x : Verdict) (e : v ≡ w) where
  stops : (v.number ≡ 0 → ⊥) → or_then w x ≡ v
  stops z = ap (λ (y : Verdict). or_then y x) (sym e) ∙ rw (ne_eqb v.number 0 z)

  goes_on_lem : v.number ≡ 0 → or_then w x ≡ x
  goes_on_lem z = ap (λ (y : Verdict). or_then y x) (sym e) ∙ rw (eq-eqb v.number 0 z)

module _ (old-nodes old-letters old-links nodes letters links : List ℕ) (c d : Counts) (rules steps : List ℕ) (u : Used) (protected : List ℕ) where
  abbrev old : Graph
  old = graph_of old-nodes old-letters old-links c

  abbrev new : Graph
  new = graph_of nodes letters links d

  abbrev t : Rules
  t = list_of rules steps u

  abbrev fault : Verdict
  fault = conditions_fault old new t protected

  abbrev on_repeats : Verdict
  on_repeats = protected_fault old t 0 [] protected

  abbrev on_links : Verdict
  on_links = links_fault old new t 0 (written_order old.links)

  abbrev on_nodes : Verdict
  on_nodes = nodes_fault old new t (old_nodes old)

  abbrev on_rules : Verdict
  on_rules = rules_fault old new t.steps 0 t.rules

  module _ (v : Verdict) (e : v ≡ rules_fault (graph_of old-nodes old-letters [] c) new (steps_of u.steps steps) 0 (rules_of u.rules rules)) where
    whole_rules : v ≡ on_rules
    whole_rules = e ∙ rules-old old-nodes old-letters old-links c new t.steps 0 t.rules

    pub rules_stop : (v.number ≡ 0 → ⊥) → v ≡ fault
    rules_stop z = sym (stops v on_rules (or_then on_nodes (or_then on_links on_repeats)) whole_rules z)

    module _ (z : v.number ≡ 0) where
      pub rules_full : all has_steps (rules_of u.rules rules) ≡ true
      rules_full = scan_steps old new t.steps 0 t.rules (ap (λ (x : Verdict). x.number) (sym whole_rules) ∙ z)

      past_rules : fault ≡ or_then on_nodes (or_then on_links on_repeats)
      past_rules = goes_on_lem v on_rules (or_then on_nodes (or_then on_links on_repeats)) whole_rules z

      module _ (w : Verdict) (f : w ≡ nodes_fault (graph_of old-nodes old-letters [] c) (graph_of nodes letters [] d) (list_of rules [] u) (old_nodes (graph_of old-nodes old-letters [] c))) where
        whole_nodes : w ≡ on_nodes
        whole_nodes =
            f ∙ nodes-bare (graph_of old-nodes old-letters [] c) (graph_of nodes letters [] d) (list_of rules [] u) (old_nodes old)
            ∙ sym (nodes-bare old new t (old_nodes old))

        pub nodes_stop : (w.number ≡ 0 → ⊥) → w ≡ fault
        nodes_stop y = sym (past_rules ∙ stops w on_nodes (or_then on_links on_repeats) whole_nodes y)

        module _ (y : w.number ≡ 0) where
          past_nodes : fault ≡ or_then on_links on_repeats
          past_nodes = past_rules ∙ goes_on_lem w on_nodes (or_then on_links on_repeats) whole_nodes y

          module _ (x : Verdict) (g : x ≡ links_fault (graph_of old-nodes [] [] c) (graph_of nodes [] links d) t 0 (written_order (links_of c.links old-links))) where
            whole_links : x ≡ on_links
            whole_links =
                g ∙ links-bare (graph_of old-nodes [] [] c) (graph_of nodes [] links d) t 0 (written_order old.links)
                ∙ sym (links-bare old new t 0 (written_order old.links))

            pub links_stop : (x.number ≡ 0 → ⊥) → x ≡ fault
            links_stop k = sym (past_nodes ∙ stops x on_links on_repeats whole_links k)

            pub repeats_last : x.number ≡ 0 → (r : Verdict) → r ≡ protected_fault (graph_of old-nodes [] [] c) t 0 [] protected → r ≡ fault
            repeats_last k r h =
                h ∙ protected_bare (graph_of old-nodes [] [] c) t 0 [] protected ∙ sym (protected_bare old t 0 [] protected)
                ∙ sym (past_nodes ∙ goes_on_lem x on_links on_repeats whole_links k)
