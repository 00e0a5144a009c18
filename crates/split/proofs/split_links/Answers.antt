use Prim.Native.Nat.{ℕ}
use mathlib.Core.Path.{◌≡◌, ◌∙◌}
use mathlib.Core.List.{List}
use Rattle.handle.specs.Handle.{pack}
use Rattle.store.specs.Graph.{link_layout}
use Rattle.split.specs.Split.{move_link}
use Rattle.split.proofs.Arrays.{map_push}
use Rattle.split.proofs.split_links.Goals as goal

pub returns : goal.returns
returns c =
    let a = c.args in
    let l : List ℕ = a.links.now in
    let v : c.forward-v.result ≡ pack a.id 0 = c.forward-v.ensures in
    let f : c.forward-f.result ≡ pack a.fresh 0 = c.forward-f.ensures in
    map_push link_layout a.count l (move_link c.forward-v.result c.forward-f.result) _ c.move_links.ensures c.push_link.ensures
    ∙ rw (v, f)
