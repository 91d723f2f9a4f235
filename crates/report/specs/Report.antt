-- Report files (document 02, P1): "a first line of names, then none or more lines of as many values, separated by the list delimiter, no spaces, and ended by
-- CR LF".
use Rattle.std.specs.Prelude.{ℕ, ◌≤◌, ◌≡◌, Bool, true, List, [], ◌∷◌, ◌++◌, length, get_or}
use Rattle.counts.specs.Limits.{columns}
use Rattle.scan.specs.Kinds.{is_letter}
use Rattle.word.specs.Word.{word_read}
use Rattle.word.specs.declared.Word.TheVariants.{Name as name}
use Rattle.std.specs.declared.option.Option.TheVariants.{Some}
use Rattle.token.specs.Token.{WholeString}
use Rattle.number.specs.Number.{Numeral}
use Rattle.delimited.specs.Lines.{line, lines, Each, cells_of}

-- 01: "A name is a word that isn't reserved.": the bytes are one word, and it is a name
pub record Name (bytes : List ℕ) : Type 0 where
  pub letter : is_letter (get_or bytes 0 0) ≡ true
  pub word : word_read bytes 0 ≡ Some (name, length bytes)

-- "A value is a number or a string as in 01": the bytes are one
pub data Value (bytes : List ℕ) : Type 0 where
  number : {minus : Bool} {whole after : List ℕ} → Numeral bytes minus whole after → Value bytes
  string : {content : List ℕ} → (w : WholeString bytes 0 content) → w.after ≡ [] → Value bytes

-- "a first line of names", "1 to 64 columns"
pub record NameLine (row : List (List ℕ)) : Type 0 where
  pub some : 1 ≤ length row
  pub few : length row ≤ columns
  pub each : Each Name row

-- "lines of as many values"
pub record ValueLine (many : ℕ) (row : List (List ℕ)) : Type 0 where
  pub as_many : length row ≡ many
  pub each : Each Value row

-- the rows of a report: its names, and the values of each line after them
pub record Rows : Type 0 where
  pub names : List (List ℕ)
  pub values : List (List (List ℕ))

pub record RowsFit (r : Rows) : Type 0 where
  pub first : NameLine r.names
  pub then : Each (ValueLine (length r.names)) r.values

abbrev pub report_text : ℕ → Rows → List ℕ
report_text d r = lines d (r.names ∷ r.values)

-- The text is the report of these rows.
pub record Report (d : ℕ) (r : Rows) (text : List ℕ) : Type 0 where
  pub fits : RowsFit r
  pub is : text ≡ report_text d r

-- "7, reading with the start of the first line that doesn't fit (65 names too)": it begins at p. No line of names begins the text; or the lines before p
-- are those of a report, the text goes on, and no line of as many values follows them.
pub data Breaks (d : ℕ) (text : List ℕ) : ℕ → Type 0 where
  at_names : ((row : List (List ℕ)) (rest : List ℕ) → NameLine row → text ≡ line d row ++ rest → ⊥) → Breaks d text 0
  at_line : (r : Rows) (rest : List ℕ) → RowsFit r → text ≡ report_text d r ++ rest → (rest ≡ [] → ⊥)
      → ((row : List (List ℕ)) (after : List ℕ) → ValueLine (length r.names) row → rest ≡ line d row ++ after → ⊥)
      → Breaks d text (length (report_text d r))

-- What is told of a report: its columns, its lines of values, and the place and length of each name and each value, in order.
pub record Told : Type 0 where
  pub columns : ℕ
  pub lines : ℕ
  pub cells : List ℕ

abbrev pub told : ℕ → Rows → Told
told d r = record { columns = length r.names; lines = length r.values; cells = cells_of d 0 (r.names ∷ r.values) }
