-- GFA 1 lines, small ones.
use mathlib.Core.Path.{◌≡◌, refl}
use mathlib.Core.Bool.{true, false}
use mathlib.Core.List.{[], ◌∷◌, map}
use Rattle.letters.specs.Letters.{complement_of, is_letter}
use Rattle.handle.specs.Handle.{flip, before}
use Rattle.handle.specs.Edge.{written}
use Rattle.text.specs.Bytes.{bytes}
use Rattle.text.specs.Fields.{handles_said}
use Rattle.gfa.specs.Gfa1.{is_header, is_segment, is_link, is_path, is_walk}
use Rattle.gfa.specs.Narrowings.{inside, graph_said}

headers : map is_header (bytes "H\tVN:Z:1.1" ∷ bytes "H" ∷ bytes "Hello" ∷ []) ≡ true ∷ true ∷ false ∷ []
headers = refl

segments : map is_segment (bytes "S\t1\tA" ∷ bytes "S\tx\t*\tLN:i:3" ∷ bytes "S\t*x\tA" ∷ bytes "S\t1\t" ∷ bytes "S\t1\tA-" ∷ []) ≡ true ∷ true ∷ false ∷ false ∷ false ∷ []
segments = refl

links : map is_link (bytes "L\t1\t+\t2\t-\t0M" ∷ bytes "L\t1\t+\t2\t-\t4M2I" ∷ bytes "L\t1\t+\t2\t-\tM" ∷ bytes "L\t1\t+\t2\t-\t4" ∷ bytes "L\t1\t*\t2\t-\t*" ∷ []) ≡ true ∷ true ∷ false ∷ false ∷ false ∷ []
links = refl

paths : map is_path (bytes "P\tx\t1+,2-\t*" ∷ bytes "P\tx\t1+,2-\t0M,1M" ∷ bytes "P\tx\t1+,\t*" ∷ bytes "P\tx\t1+" ∷ []) ≡ true ∷ true ∷ false ∷ false ∷ []
paths = refl

walks : map is_walk (bytes "W\ta\t0\ts\t*\t1\t>1<2" ∷ bytes "W\ta\tx\ts\t0\t1\t>1" ∷ bytes "W\ta\t0\ts\t0\t1\t>" ∷ []) ≡ true ∷ false ∷ false ∷ []
walks = refl

whole : map inside (bytes "S\t1\tAc\nL\t1\t+\t1\t-\t*\nP\tx\t1+\t*\n" ∷ bytes "S\t1\t*" ∷ bytes "S\t1\tA\nS\t1\tA" ∷ bytes "P\tx\t1+\t*" ∷ []) ≡ true ∷ false ∷ false ∷ false ∷ []
unfolding is_letter complement_of handles_said graph_said written flip before
whole = refl
