-- Links that are copied into room of the code's own, dimmed, and planned there.
use Prim.Native.Nat.{ℕ, ◌+◌, ◌*◌, ◌≤◌}
use mathlib.Core.Path.{◌≡◌, refl, sym, ap, subst, ◌∙◌}
use mathlib.Core.Bool.{Bool, true, false, cond}
use mathlib.Core.List.{List, [], ◌∷◌, ◌++◌}
use native.Mathlib.Omega.{arith}
use borrow.Author.Tests.{lt-leb}
use lib.Dec.{leb}
use lib.ListN.{length, drop}
use Rattle.kit.specs.Layout.{encode}
use Rattle.kit.proofs.Laws.{decode-encode, then-decode, then-length}
use Rattle.handle.specs.declared.Handle.{Handle}
use Rattle.handle.specs.Handle.{id_of}
use Rattle.store.specs.Graph.{link_layout, links_of}
use Rattle.store.specs.declared.Node.{Node}
use Rattle.store.specs.declared.Link.{Link}
use Rattle.store.specs.Views.{largest}
use Rattle.split.specs.Split.{split_links}
use Rattle.std.specs.Prelude.{Option, Some, None}
use Rattle.merging.specs.Plan.{long_by, fresh_after, prefix_by, alone_links, planned}
use Rattle.linking.specs.Fit.{Makes, fitted}
use Rattle.linking.proofs.Fitting.{counted, filled}
use Rattle.linking.proofs.Growth.{split-more, later_all-more}
use Rattle.collapsing.specs.Put.{Planned}

module _ (count : ℕ) (ds : List Link) (room mid : List ℕ) (n : length ds ≡ count) (e : mid ≡ encode link_layout ds ++ drop (3 * count) room) where
  pub copied : links_of count mid ≡ ds
  copied = ap (links_of count) e ∙ then-decode link_layout count ds (drop (3 * count) room) n

  pub size : 3 * count ≤ length room → length mid ≡ length room
  size h = ap length e ∙ then-length link_layout count ds room n h

  pub planned_in : (f : List Link → List Link) (r : Option ℕ) (m : List ℕ) → 3 * count ≤ length room → Makes mid (f (links_of count mid)) r m → Planned room (f ds) r m
  planned_in f r m h made =
      let s = size h in
      let k : Makes mid (f ds) r m = subst (λ (rs : List Link). Makes mid (f rs) r m) copied made in
      record {
        answer = k.answer ∙ ap (λ (i : ℕ). fitted i (f ds)) s;
        holds = λ q. ap (links_of (length (f ds))) (k.stands (omega arith)) ∙ decode-encode link_layout (f ds) (drop (3 * length (f ds)) mid);
      }

-- what the plan's answer tells
pub record Fits (l : List ℕ) (rs : List Link) (n : ℕ) (m : List ℕ) : Type 0 where
  pub many : length rs ≡ n
  pub room : 3 * n ≤ length l
  pub here : links_of n m ≡ rs

pub planned-count : {l m : List ℕ} {rs : List Link} {r : Option ℕ} (n : ℕ) → Planned l rs r m → r ≡ Some n → Fits l rs n m
planned-count {l} {m} {rs} n s e =
    let c = counted l rs n (leb (3 * length rs) (length l)) refl (sym e ∙ s.answer) in
    record { many = c.0; room = c.1; here = rw (← c.0) (s.holds (omega arith)) }

pub planned_full : {l m : List ℕ} {rs : List Link} {r : Option ℕ} → Planned l rs r m → r ≡ None → leb (3 * length rs) (length l) ≡ false
planned_full {l} {m} {rs} s e = lt-leb (3 * length rs) (length l) (filled l rs (leb (3 * length rs) (length l)) refl (sym e ∙ s.answer))

-- no link is lost in a plan
pub planned-more : (p : ℕ) (nodes : List Node) (links : List Link) (ms : List Handle) → length links ≤ length (planned p nodes links ms)
planned-more p nodes links [] = omega arith
planned-more p nodes links (m ∷ ms) =
    omega (arith, alone (long_by p nodes m), later_all-more p nodes (prefix_by p nodes (largest nodes + 1) m) (fresh_after p nodes (largest nodes + 1) m) (alone_links p nodes (largest nodes + 1) links m) ms)
  where
    alone : (b : Bool) → length links ≤ length (cond b (split_links (id_of m) (largest nodes + 1) links) links)
    alone true = omega (arith, split-more (id_of m) (largest nodes + 1) links)
    alone false = omega arith
