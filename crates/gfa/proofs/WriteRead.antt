-- Reading what was written of a graph gives its live part, and writing that gives the same text.
use mathlib.Core.Path.{◌≡◌, sym, ap, ◌∙◌, subst}
use mathlib.Core.Bool.{true}
use Rattle.store.specs.Graph.{Graph}
use Rattle.formed.specs.WellFormed.{good_graph}
use Rattle.reading.specs.Reading.{Store, fits_in, going, read_text}
use Rattle.writing.specs.GraphText.{graph_text}
use Rattle.gfa.specs.Narrowings.{graph_said}
use Rattle.gfa.specs.Holds.{LivePart}
use Rattle.gfa.proofs.ReadInside.{inside-read}
use Rattle.gfa.proofs.WriteInside.{written-inside}
use Rattle.gfa.proofs.WritePart.{live_is, live-text}
use Rattle.gfa.proofs.WriteSaid.{said-live}

module _ (g : Graph) (good : good_graph g ≡ true) where
  pub written-live : LivePart g (graph_said (graph_text g))
  written-live = subst (LivePart g) (sym (said-live g good)) (live_is g)

  pub written_again : graph_text (graph_said (graph_text g)) ≡ graph_text g
  written_again = ap graph_text (said-live g good) ∙ live-text g good

  -- where there is room for it
  pub read-written : (l : Store) → fits_in l (graph_said (graph_text g)) ≡ true → read_text l (graph_text g) ≡ going (graph_said (graph_text g))
  read-written l t = inside-read l (graph_text g) (written-inside g good) t
