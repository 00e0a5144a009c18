-- The table as text: 01 "Reading and writing", output; 01 "Checked by hand", C8.
use Rattle.std.specs.Prelude.{ℕ, Bool, false, cond, List, [], ◌∷◌, ◌++◌, map}
use Rattle.kit.specs.Decimal.{decimal}
use Rattle.kit.specs.Loops.{lines}
use Rattle.handle.specs.declared.Handle.{Handle}
use Rattle.handle.specs.Handle.{id_of, same_handle, pack}
use Rattle.store.specs.Graph.{Graph}
use Rattle.store.specs.declared.Node.{Node}
use Rattle.store.specs.Views.{len_of}
use Rattle.sides.specs.Sides.{rising}
use Rattle.events.specs.Events.{Rules}
use Rattle.rewriting.specs.Rewriting.{transform_node}
use Rattle.text.specs.Bytes.{bytes}
use Rattle.writing.specs.Marks.{walk_text}

abbrev pub heading : List ℕ
heading = bytes "original_node\ttransformed_walk\tbp_length\n"

-- a walk that is just the node itself, forward
abbrev pub just_itself : Handle → List Handle → Bool
just_itself h [] = false
just_itself h (k ∷ []) = same_handle h k
just_itself h (k ∷ l ∷ hs) = false

-- a node, its walk, its length; nothing where the walk is just itself forward
unfoldable pub table_line : Graph → Rules → Handle → List ℕ
table_line old t h =
    cond (just_itself h (transform_node old t h)) []
    (decimal (id_of h) ++ bytes "\t" ++ walk_text (transform_node old t h) ++ bytes "\t" ++ decimal (len_of old (id_of h)) ++ bytes "\n")

-- old nodes by rising id
abbrev pub old_segments : List Node → List Handle
old_segments nodes = rising (map (λ r. pack r.id 0) nodes)

abbrev pub table_text : Graph → Rules → List ℕ
table_text old t = heading ++ lines (table_line old t) (old_segments old.nodes)
