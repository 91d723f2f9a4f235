-- Lines of fields (document 02, P1): the delimiters, the bytes of lines, and where their fields stand. A field is its bytes, a line is its fields.
use Rattle.std.specs.Prelude.{ℕ, ◌+◌, ◌≤◌, Bool, true, false, ◌||◌, List, [], ◌∷◌, ◌++◌, eqb, length}
use Rattle.field.specs.Bytes.{ascii}
use Rattle.field.specs.Part.{part}

-- "The delimiter is one byte the caller gives: comma, semicolon, vertical bar or tab."
abbrev pub is_delimiter : ℕ → Bool
is_delimiter b = eqb b 44 || eqb b 59 || eqb b 124 || eqb b 9

-- "separated by the list delimiter, no spaces, and ended by CR LF": what follows a field that is the last of its line, or is not
abbrev pub separator : ℕ → Bool → List ℕ
separator d true = ascii "\r\n"
separator d false = d ∷ []

-- what follows the first field of a line, by the other fields
unfoldable pub others : ℕ → List (List ℕ) → List ℕ
others d [] = separator d true
others d (x ∷ xs) = separator d false ++ (x ++ others d xs)

unfoldable pub line : ℕ → List (List ℕ) → List ℕ
line d [] = separator d true
line d (x ∷ xs) = x ++ others d xs

unfoldable pub lines : ℕ → List (List (List ℕ)) → List ℕ
lines d [] = []
lines d (l ∷ ls) = line d l ++ lines d ls

-- the place and the length of each field of a line that begins at the place p
unfoldable pub places_of : ℕ → List (List ℕ) → List ℕ
places_of p [] = []
places_of p (x ∷ xs) = p ∷ (length x ∷ places_of (p + length x + 1) xs)

-- the same of lines, one after the other
unfoldable pub cells_of : ℕ → ℕ → List (List (List ℕ)) → List ℕ
cells_of d p [] = []
cells_of d p (l ∷ ls) = places_of p l ++ cells_of d (p + length (line d l)) ls

-- the fields of lines, one after the other
unfoldable pub fields : List (List (List ℕ)) → List (List ℕ)
fields [] = []
fields (l ∷ ls) = l ++ fields ls

-- each of a list
pub data Each {A : Type 0} (P : A → Type 0) : List A → Type 0 where
  none : Each P []
  and : {x : A} {xs : List A} → P x → Each P xs → Each P (x ∷ xs)

-- Places and lengths, in order: these parts of the source, all within it.
pub data Parts (source : List ℕ) : List ℕ → List (List ℕ) → Type 0 where
  no_more : Parts source [] []
  part_and : {p n : ℕ} {cells : List ℕ} {xs : List (List ℕ)} → p + n ≤ length source → Parts source cells xs
      → Parts source (p ∷ (n ∷ cells)) (part source p n ∷ xs)
