-- Whether two lists of bytes are the same, whether fixed bytes stand at a place, and a quoted text as its bytes.
use Rattle.std.specs.Prelude.{ℕ, Bool, true, false, ◌&&◌, List, [], ◌∷◌, eqb, length}
use Prim.Native.Char.{code}
use Prim.Native.String.{String, [] as none, ◌∷◌ as ◌then◌}
use Rattle.field.specs.Part.{part}

-- the same bytes in the same order, and no more on either side
unfoldable pub same : List ℕ → List ℕ → Bool
same [] [] = true
same [] (y ∷ ys) = false
same (x ∷ xs) [] = false
same (x ∷ xs) (y ∷ ys) = eqb x y && same xs ys

-- the bytes w stand in s at the place at
unfoldable pub has_at : List ℕ → ℕ → List ℕ → Bool
has_at s at w = same (part s at (length w)) w

-- the bytes of a quoted text, so that a definition shows the words of the document
abbrev pub ascii : String → List ℕ
ascii none = []
ascii (◌then◌ c s) = code c ∷ ascii s
