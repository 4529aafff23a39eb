-- Text in the facts that are computed: a list of ASCII codes. Assumes nothing.
use Rattle.std.specs.Prelude.{ℕ, List, [], ◌∷◌, ◌++◌}
use Prim.Native.Char.{code}
use Prim.Native.String.{String, [] as no_text, ◌∷◌ as ◌then◌}

-- the codes of a text's characters
unfoldable pub ascii : String → List ℕ
ascii no_text = []
ascii (c then s) = code c ∷ ascii s

-- lines, each with its end
unfoldable pub lines : List String → List ℕ
lines [] = []
lines (l ∷ ls) = ascii l ++ (10 ∷ lines ls)
