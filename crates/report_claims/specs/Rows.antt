-- Document 02's rows for the calls on report files (P1): one constructor for each answer, in P1's order.
use Rattle.std.specs.Prelude.{ℕ, ◌≤◌, ◌<◌, ◌≡◌, true, false, List, ◌∷◌, length}
use Rattle.counts.specs.Limits.{columns}
use Rattle.counts.specs.Refusals.{out_of_range, not_a_record, too_little_room}
use Rattle.counts.specs.Result.{Result, refused, done}
use Rattle.delimited.specs.Lines.{is_delimiter, fields, Parts}
use Rattle.report.specs.Report.{Rows, RowsFit, report_text, Report, Breaks, Told, told}

-- read_report: "Refusals: 11 for delimiter [..]; then 7, reading with the start of the first line that doesn't fit (65 names too); then 8."
pub data ReadReportRow (d : ℕ) (text : List ℕ) (room : ℕ) : Result Told → Type 0 where
  eleven : is_delimiter d ≡ false → ReadReportRow d text room (refused out_of_range 0)
  seven : {p : ℕ} → is_delimiter d ≡ true → Breaks d text p → ReadReportRow d text room (refused not_a_record p)
  eight : (r : Rows) → is_delimiter d ≡ true → Report d r text → room < length (told d r).cells → ReadReportRow d text room (refused too_little_room 0)
  report_read : (r : Rows) → is_delimiter d ≡ true → Report d r text → length (told d r).cells ≤ room → ReadReportRow d text room (done (told d r))

-- The cells are the names and values of these rows, in order, as parts of the source, and there are as many names as columns are given.
pub record Given (source cells : List ℕ) (many : ℕ) (r : Rows) : Type 0 where
  pub fits : RowsFit r
  pub as_many : length r.names ≡ many
  pub parts : Parts source cells (fields (r.names ∷ r.values))

-- write_report: "Refusals: 11 for delimiter or, writing, column count; then 7 [..]; then 8."
pub data WriteReportRow (source cells : List ℕ) (many d room : ℕ) : Result (List ℕ) → Type 0 where
  eleven_delimiter : is_delimiter d ≡ false → WriteReportRow source cells many d room (refused out_of_range 0)
  eleven_columns : is_delimiter d ≡ true → (1 ≤ many → many ≤ columns → ⊥) → WriteReportRow source cells many d room (refused out_of_range 0)
  seven : is_delimiter d ≡ true → 1 ≤ many → many ≤ columns → ((r : Rows) → Given source cells many r → ⊥)
      → WriteReportRow source cells many d room (refused not_a_record 0)
  eight : (r : Rows) → is_delimiter d ≡ true → Given source cells many r → room < length (report_text d r)
      → WriteReportRow source cells many d room (refused too_little_room 0)
  report_written : (r : Rows) → is_delimiter d ≡ true → Given source cells many r → length (report_text d r) ≤ room
      → WriteReportRow source cells many d room (done (report_text d r))

-- The text is the report of some rows, what is told of it is what is told of these, and there is room for that.
pub record ReadAs (d : ℕ) (text : List ℕ) (room : ℕ) (t : Told) : Type 0 where
  pub delimiter : is_delimiter d ≡ true
  pub rows : Rows
  pub is : Report d rows text
  pub gives : t ≡ told d rows
  pub room_for : length t.cells ≤ room
