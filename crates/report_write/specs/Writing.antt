-- What `write_report` answers and leaves (document 02, P1).
use Rattle.std.specs.Prelude.{ℕ, ◌+◌, ◌-◌, ◌≤◌, Bool, false, cond, ◌&&◌, ◌||◌, List, [], ◌∷◌, ◌++◌, eqb, leb, length}
use Rattle.counts.specs.Limits.{columns}
use Rattle.counts.specs.Refusals.{out_of_range, not_a_record, too_little_room}
use Rattle.counts.specs.Result.{Result, paper}
use Rattle.counts.specs.Result.Result.{refused, done}
use Rattle.field.specs.Part.{part, put}
use Rattle.delimited.specs.Lines.{is_delimiter, separator}
use Rattle.report.specs.Reading.{field_at, on_field}
use Rattle.counts.specs.declared.Refusal.{Refusal}
use Rattle.std.specs.declared.result.Result.{Result as Returned}

-- ---- Need not be believed: a report as it is written, cell by cell. `writes_report` of the page of claims ties it to `Report`.

-- A cell is a part of the source, by its place and length; `left` is how many fields of its line are still to come, and `values` tells that the line of
-- names is over.

-- the bytes are one name, or one value
unfoldable pub is_field : Bool → List ℕ → Bool
is_field values x = on_field (field_at values x 0) false (λ e. eqb e (length x))

-- the n bytes of the source from p on are one
unfoldable pub is_cell : Bool → List ℕ → ℕ → ℕ → Bool
is_cell values source p n = leb (p + n) (length source) && is_field values (part source p n)

-- how many fields are still to come after one of those left
abbrev pub left_after : ℕ → ℕ → ℕ
left_after many left = cond (eqb left 1) many (left - 1)

-- names in the first line, then values, up to the end of a line
unfoldable pub are_lines : List ℕ → ℕ → Bool → ℕ → List ℕ → Bool
are_lines source many values left [] = values && eqb left many
are_lines source many values left (p ∷ []) = false
are_lines source many values left (p ∷ (n ∷ cells)) =
    is_cell values source p n && are_lines source many (values || eqb left 1) (left_after many left) cells

-- the text of the cells
unfoldable pub text_from : ℕ → List ℕ → ℕ → ℕ → List ℕ → List ℕ
text_from d source many left [] = []
text_from d source many left (p ∷ []) = []
text_from d source many left (p ∷ (n ∷ cells)) =
    (part source p n ++ separator d (eqb left 1)) ++ text_from d source many (left_after many left) cells

-- the column count in its range
abbrev pub InRange : ℕ → Type 0
InRange many = (1 ≤ many) × (many ≤ columns)

-- the delimiter is one of the four, and the column count in its range
unfoldable pub may_write : ℕ → ℕ → Bool
may_write d many = is_delimiter d && leb 1 many && leb many columns

-- "11 for delimiter or, writing, column count; then 7 [..]; then 8": the number, and 0 for none
unfoldable pub write_refusal : List ℕ → List ℕ → ℕ → ℕ → ℕ → ℕ
write_refusal source cells many d room =
    cond (may_write d many)
    (cond (are_lines source many false many cells) (cond (leb (length (text_from d source many many cells)) room) 0 too_little_room) not_a_record)
    out_of_range

-- the text, or the refusal
unfoldable pub written : List ℕ → List ℕ → ℕ → ℕ → ℕ → Result (List ℕ)
written source cells many d room =
    let no = write_refusal source cells many d room in
    cond (eqb no 0) (done (text_from d source many many cells)) (refused no 0)

-- ---- what the call returns and leaves

-- The text goes to the front of the lent output; "a refusal changes no lent byte or entry".
abbrev pub filled : Result (List ℕ) → List ℕ → List ℕ
filled (done text) out = put out 0 text
filled (refused number place) out = out

-- the paper's value of each answer
abbrev pub paper_report_written : Returned ℕ Refusal → Result ℕ
paper_report_written = paper λ n. n
