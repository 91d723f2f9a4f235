-- A report as it is read: field by field, line by line. Need not be believed: `reads_report` of the page of claims ties it to `Report` and `Breaks`.
use Rattle.std.specs.Prelude.{ℕ, zero, suc, ◌+◌, ◌-◌, ◌*◌, Bool, true, false, cond, ◌&&◌, List, [], ◌∷◌, eqb, leb, ltb, length, get_or}
use Rattle.counts.specs.Limits.{number_digits, columns}
use Rattle.counts.specs.Refusals.{out_of_range, not_a_record, too_little_room}
use Rattle.counts.specs.Result.{Result}
use Rattle.counts.specs.Result.Result.{refused, done}
use Rattle.scan.specs.Kinds.{is_digit, is_letter}
use Rattle.scan.specs.Run.{run_end}
use Rattle.word.specs.Word.{WordRead, is_name, word_read}
use Rattle.token.specs.Token.{content_end, is_text_at}
use Rattle.delimited.specs.Lines.{is_delimiter}
use Rattle.delimited.specs.Separators.{separator_at, on_separator}
use Rattle.report.specs.Report.{Told}
use Rattle.report.specs.declared.Field.{Field}
use Rattle.report.specs.declared.Field.TheVariants.{Name, Value}
use Rattle.std.specs.declared.option.Option.{Option}
use Rattle.std.specs.declared.option.Option.TheVariants.{Some, None}
use Rattle.std.specs.declared.result.Result.{Result as Returned}
use Rattle.std.specs.declared.result.Result.TheVariants.{Ok, Err}

-- ---- a field: the place after it

abbrev pub name_of : WordRead → Option ℕ
name_of (Some (w, e)) = cond (is_name w) (Some e) None
name_of None = None

unfoldable pub name_at : List ℕ → ℕ → Option ℕ
name_at s i = cond (is_letter (get_or s i 0)) (name_of (word_read s i)) None

-- digits from d on, and where a point follows them more digits after it: at most 16 in all
unfoldable pub figures_at : List ℕ → ℕ → Option ℕ
figures_at s d =
    let m = run_end is_digit s d in
    let e = run_end is_digit s (m + 1) in
    cond (eqb m d) None
    (cond (eqb (get_or s m 0) 46)
    (cond (ltb (m + 1) e && leb e (d + number_digits + 1)) (Some e) None)
    (cond (leb m (d + number_digits)) (Some m) None))

unfoldable pub numeral_at : List ℕ → ℕ → Option ℕ
numeral_at s i = cond (eqb (get_or s i 0) 45) (figures_at s (i + 1)) (figures_at s i)

unfoldable pub string_end : List ℕ → ℕ → Option ℕ
string_end s i = cond (is_text_at s i) (Some (content_end s i + 1)) None

unfoldable pub value_at : List ℕ → ℕ → Option ℕ
value_at s i = cond (eqb (get_or s i 0) 34) (string_end s i) (numeral_at s i)

-- a value is looked for, and no name
abbrev pub is_value : Field → Bool
is_value Name = false
is_value Value = true

-- a name, or where values are looked for a value
unfoldable pub field_at : Bool → List ℕ → ℕ → Option ℕ
field_at values s i = cond values (value_at s i) (name_at s i)

-- either
unfoldable pub cell_at : List ℕ → ℕ → Option ℕ
cell_at s i = cond (is_letter (get_or s i 0)) (name_at s i) (value_at s i)

abbrev pub on_field : {A : Type 0} → Option ℕ → A → (ℕ → A) → A
on_field (Some e) no_field field = field e
on_field None no_field field = no_field

-- ---- a line: how many fields it has, and the place after it

-- from the field at i on, after k fields; n bounds how many are looked at
unfoldable pub fields_from : ℕ → Bool → ℕ → List ℕ → ℕ → ℕ → Option (ℕ × ℕ)
fields_from zero values d s i k = None
fields_from (suc n) values d s i k =
    on_field (field_at values s i) None
    (λ e. on_separator (separator_at d s e) None (λ j. fields_from n values d s j (k + 1)) (λ j. Some (k + 1, j)))

unfoldable pub line_at : Bool → ℕ → List ℕ → ℕ → Option (ℕ × ℕ)
line_at values d s i = fields_from (length s) values d s i 0

abbrev pub on_line : {A : Type 0} → Option (ℕ × ℕ) → A → (ℕ → ℕ → A) → A
on_line (Some (m, j)) no_line fields = fields m j
on_line None no_line fields = no_line

-- ---- a report: how many columns and lines of values it has, or where it breaks

-- from the line at i on, after k lines of values; n bounds how many are looked at
unfoldable pub lines_from : ℕ → ℕ → List ℕ → ℕ → ℕ → ℕ → Returned (ℕ × ℕ) ℕ
lines_from zero d s many i k = Err i
lines_from (suc n) d s many i k =
    cond (ltb i (length s))
    (on_line (line_at true d s i) (Err i) (λ m j. cond (eqb m many) (lines_from n d s many j (k + 1)) (Err i)))
    (Ok (many, k))

unfoldable pub judged : ℕ → List ℕ → Returned (ℕ × ℕ) ℕ
judged d s =
    on_line (line_at false d s 0) (Err 0) (λ m j. cond (leb m columns) (lines_from (suc (length s)) d s m j 0) (Err 0))

-- ---- what is told of it

-- place and length of each field from i on; n bounds how many there are
unfoldable pub cells_from : ℕ → ℕ → List ℕ → ℕ → List ℕ
cells_from zero d s i = []
cells_from (suc n) d s i =
    on_field (cell_at s i) []
    (λ e. i ∷ ((e - i) ∷ on_separator (separator_at d s e) [] (λ j. cells_from n d s j) (λ j. cells_from n d s j)))

abbrev pub tell : ℕ → List ℕ → ℕ → Returned (ℕ × ℕ) ℕ → Result Told
tell d s room (Ok (m, k)) =
    cond (leb (2 * (m * (k + 1))) room) (done (record { columns = m; lines = k; cells = cells_from (length s) d s 0 })) (refused too_little_room 0)
tell d s room (Err p) = refused not_a_record p

-- "Refusals: 11 for delimiter [..]; then 7, reading with the start of the first line that doesn't fit; then 8."
unfoldable pub read_report : ℕ → List ℕ → ℕ → Result Told
read_report d s room = cond (is_delimiter d) (tell d s room (judged d s)) (refused out_of_range 0)
