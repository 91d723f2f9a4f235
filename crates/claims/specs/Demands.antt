-- What is claimed: the user's three demands, and document 02's requests as they land, each a record whose fields are its claims, under the sentences
-- that they say. `proofs/Demands` gives one of each. The words are those that the contracts of the public calls cite (docs/CALLS.md); that a call ends,
-- for all bytes and numbers, and meets its contract, is what the prover shows of every function.
use Rattle.std.specs.Prelude.{ℕ, zero, suc, ◌+◌, ◌-◌, ◌*◌, ◌^◌, ◌≤◌, ◌<◌, ◌≡◌, Bool, true, false, cond, ◌↔◌, ◌⊎◌, nat_abs, length, get_or, drop}
use mathlib.Core.List.{List, [], ◌∷◌, ◌++◌, Memᴰ}
use Rattle.counts.specs.Limits.{file_bytes, statements, commands, older_commands, sessions}
use Rattle.counts.specs.Refusals.{file_too_long, too_few_places, no_token, unexpected, not_real, too_many_statements, not_a_record, too_little_room, out_of_range, unsound, open_string, broken_string, misshapen, end_of_file}
use Rattle.std.specs.declared.result.Result.{Result as Returned}
use Rattle.counts.specs.Result.{Result, refused, done, counted}
use Rattle.counts.specs.declared.Refusal.{Refusal}
use Rattle.field.specs.Bytes.{ascii}
use Rattle.field.specs.Part.{part, put}
use Rattle.calendar.specs.Calendar.{real_date, real_time}
use Rattle.decimal.specs.Digits.{digits, value, plain_width}
use Rattle.moment.specs.Moment.{AtOrAfter}
use Rattle.session_name.specs.Name as name
use Rattle.session_name.specs.declared.Kind.{Kind}
use Rattle.record.specs.Record.{Content, content, permitted, record_bytes, fixed_length}
use Rattle.record_read.specs.Reading as reading
use Rattle.record_read.specs.Reading.{record_read, content_of, with_text, text_of}
use Rattle.record.specs.Writing as writing
use Rattle.record.specs.declared.Outcome.TheVariants.{Error}
use Rattle.record_read.specs.declared.Record.{Record}
use Rattle.grammar.specs.declared.StartClause.{StartClause}
use Rattle.grammar.specs.declared.StartClause.TheVariants.{Required, Optional}
use Rattle.grammar.specs.Grammar.Class.{number as no_date, date, unreal_date}
use Rattle.grammar.specs.Statement.{Statement, Start, Operator, Number as Value}
use Rattle.grammar.specs.Statement.Operator.{equal, not_equal as unequal, above, below, at_least, at_most}
use Rattle.grammar.specs.Productions.{Placed, File, Begins}
use Rattle.grammar.specs.Reading.{OffsetsRead as Reading}
use Rattle.grammar.specs.Reading.Last.{end}
use Rattle.grammar.specs.Clauses.{ClauseDue, LacksAfter, Lacks, FirstLacks, BeginsLacking}
use Rattle.grammar.specs.Rows.{Three, Fifteen, Sixteen, Seventeen, Four, Eighteen, Five, Six}
use Rattle.token.specs.Token.{ContentByte, WholeString, is_text_at, content_at, token_at, next_token}
use Rattle.token.specs.declared.Token.TheVariants.{NoToken, Number, Text}
use Rattle.token.specs.declared.Why.TheVariants.{Stray, OpenString, BrokenString, Misshapen}
use Rattle.number.specs.Number.{Numeral, signed_of, number_of}
use Rattle.item.specs.Tokens.{number_class, date_number, time_number, Tokens, line_at, line}
use Rattle.item.specs.Numbers.{NumberFrom}
use Rattle.item.specs.NoToken.{StartsNoToken, StringMeetsEnd, Forbidden, StringBreaks, OverlongWord, MisshapenRun}
use Rattle.item.specs.Files.{InFile}
use Rattle.statement.specs.declared.Statement.{Statement as StatementRead}
use Rattle.meaning.specs.Paper.{paper_statement}
use Rattle.job.specs.Job.{read_job, filled, paper_job}
use Rattle.job.specs.Statement.{placed as placed_at, Tiled, read_statement, paper_statement_at, text_at}
use Rattle.job.specs.declared.StatementAt.{StatementAt}
use Rattle.start.specs.Due as start
use Rattle.start.specs.Due.{NumberHolds, with_zeros, ten_times}
use Rattle.start.specs.Decision.{decision, paper_decision}
use Rattle.start.specs.Rows.{DueRow, DecidedDue}
use Rattle.job_claims.specs.Verdict.{Verdict, Taken, Crowded}
use Rattle.job_claims.specs.Rows.{One}
use Rattle.job_claims.specs.Hands.{TokenBegins, Tells}
use Rattle.delimited.specs.Lines.{is_delimiter, fields, Parts}
use Rattle.report.specs.Report.{Rows, report_text, Report, Breaks, Told, told}
use Rattle.report.specs.Reading.{read_report}
use Rattle.report.specs.Answer as report
use Rattle.report_write.specs.Writing as reportWriting
use Rattle.report_claims.specs.Rows.{ReadReportRow, WriteReportRow, Given, ReadAs}
use Rattle.sessions.specs.History.{Call, to_place, to_take_up, to_answer, to_collect, Event, placed, took_up, answered, collected, collected_as, placings, accepted, collections}
use Rattle.sessions.specs.Runs.{history_of, makes_anew, never_anew, refused_with, Refuses}
use Rattle.sessions.specs.Records.{record_of}
use Rattle.sessions.specs.Sound.{in_range_and_real}
use Rattle.sessions.specs.Owed.{if_room, owed, Yours}
use Rattle.sessions.specs.Table.{fresh, place, take_up, answer, collect, numbered, records}
use Rattle.sessions.specs.declared.Answer.{Answer}
use Rattle.slot.specs.Fields.{entry_at, answered_at}
use Rattle.table_layout.specs.Layout.{table_bytes, hand_at, number}
use Rattle.table_sound.specs.Bytes.{abs, sound_bytes}
use Rattle.session_table.specs.Calls.{Beyond, making, made_bytes, placing, placed_bytes, taking_up, taken_bytes, answering, answered_bytes, in_hand, collecting, collected_bytes, collected_out}
use Rattle.session_table.specs.Collect.{Collects}
use Rattle.session_table.specs.Paper.{paper_made, paper_placed, paper_taken_up, paper_answered}
use Rattle.session_histories.specs.Steps.{Step, step_bytes, bytes_after}
use Rattle.claims.specs.Exactly.{Exactly, Obeys, OneResult}
use Rattle.claims.specs.Fits.{FitsWithin, FitsUpTo, Fits}
use Rattle.claims.specs.NameRows.{ReadNameRow, WriteNameRow}
use Rattle.claims.specs.RecordRows.{ReadRow, WriteRow}
use Rattle.claims.specs.StatementRows.{StatementRow}
use Rattle.claims.specs.TableRows.{MakeRow, PlaceRow, TakeUpRow, AnswerRow, CollectRow}

-- ---- Demand 1: "Every public call ends with a defined answer for all bytes and numbers. It tests its own arguments and the table it is lent. A refusal
-- comes exactly where 01 says, gives its number and, for a file, its place, and leaves all lent memory as it found it."

pub record Demand1 : Type 0 where
  -- each call's answers are exactly those of its rows, in 01's order, and a refusal leaves what was lent
  pub reads_name : (max : ℕ) (bytes : List ℕ) → Exactly (name.name_read max bytes) (ReadNameRow max bytes)
  pub writes_name : (max n : ℕ) (kind : Kind) (out : List ℕ)
      → Obeys (WriteNameRow max n (length out)) out (name.written max n out, name.written_bytes max n kind out)
  pub reads_record : (bytes : List ℕ) → Exactly (with_text bytes (record_read commands bytes)) (ReadRow commands bytes)
  pub writes_record : (c : Content) (out : List ℕ)
      → Obeys (WriteRow commands c (length out)) out (writing.written commands c out, writing.written_bytes commands c out)
  pub reads_job : (clause : StartClause) (file offsets : List ℕ) → let x = read_job clause file (length offsets) in
      Obeys (Verdict clause file (length offsets)) offsets (x, filled x offsets)
  pub reads_statement : (clause : StartClause) (file : List ℕ) (at : ℕ) → Exactly (read_statement clause file at) (StatementRow clause file at)
  pub decides : (g : start.Given) (x : Start) → Exactly (decision g x) (DueRow g x)
  pub reads_report : (d : ℕ) (file cells : List ℕ) → let x = read_report d file (length cells) in
      Obeys (ReadReportRow d file (length cells)) cells (x, report.filled x cells)
  pub writes_report : (source cells : List ℕ) (many d : ℕ) (out : List ℕ) → let x = reportWriting.written source cells many d (length out) in
      Obeys (WriteReportRow source cells many d (length out)) out (x, reportWriting.filled x out)
  pub makes : (b : List ℕ) (max : ℕ) → Obeys (MakeRow b max) b (making b max, made_bytes b max)
  pub places : (b : List ℕ) (p n : ℕ) → Obeys (PlaceRow b (abs b) p n) b (placing b p n, placed_bytes b p n)
  pub takes_up : (b : List ℕ) → Obeys (TakeUpRow b (abs b)) b (taking_up b, taken_bytes b)
  pub answers : (b : List ℕ) (t c : ℕ) (a : Answer) → Obeys (AnswerRow b (abs b) t c a) b (answering b t c a, answered_bytes b t c a)
  pub collects : (b : List ℕ) (p t : ℕ) (out : List ℕ)
      → Obeys {M = List ℕ × List ℕ} (CollectRow b (abs b) p t (length out)) (b, out)
      (collecting b p t (length out), (collected_bytes b p t (length out), collected_out b p t out))
  -- what C is told of a refusal, number and place in one number, has room for both
  pub fits_read_name : (max : ℕ) (bytes : List ℕ) → Fits (ReadNameRow max bytes)
  pub fits_write_name : (max n room : ℕ) → Fits (WriteNameRow max n room)
  pub fits_read_record : (bytes : List ℕ) → Fits (ReadRow commands bytes)
  pub fits_write_record : (c : Content) (room : ℕ) → Fits (WriteRow commands c room)
  pub fits_read_job : (clause : StartClause) (file : List ℕ) (room : ℕ) → Fits (Verdict clause file room)
  pub fits_read_statement : (clause : StartClause) (file : List ℕ) (at : ℕ) → Fits (StatementRow clause file at)
  pub fits_is_due : (g : start.Given) (x : Start) → FitsWithin 19 0 (DueRow g x)
  pub fits_read_report : (d : ℕ) (file : List ℕ) (room : ℕ) → FitsUpTo (length file) (ReadReportRow d file room)
  pub fits_write_report : (source cells : List ℕ) (many d room : ℕ) → Fits (WriteReportRow source cells many d room)
  pub fits_make : (b : List ℕ) (max : ℕ) → Fits (MakeRow b max)
  pub fits_place : (b : List ℕ) (p n : ℕ) → Fits (PlaceRow b (abs b) p n)
  pub fits_take_up : (b : List ℕ) → Fits (TakeUpRow b (abs b))
  pub fits_answer : (b : List ℕ) (t c : ℕ) (a : Answer) → Fits (AnswerRow b (abs b) t c a)
  pub fits_collect : (b : List ℕ) (p t room : ℕ) → Fits (CollectRow b (abs b) p t room)
  -- "Each public call's contract determines the returned answer and all memory lent to it, refusals included"
  pub one_read_name : OneResult (Unit {0}) name.paper_name_read
  pub one_written_name : OneResult (List ℕ) name.paper_name_written
  pub one_read_record : OneResult (Unit {0}) reading.paper_record_read
  pub one_written_record : OneResult (List ℕ) writing.paper_record_written
  pub one_job : OneResult (List ℕ) paper_job
  pub one_statement : OneResult (Unit {0}) paper_statement_at
  pub one_decision : OneResult (Unit {0}) paper_decision
  pub one_read_report : OneResult (List ℕ) report.paper_report_read
  pub one_written_report : OneResult (List ℕ) reportWriting.paper_report_written
  pub one_made : OneResult (List ℕ) paper_made
  pub one_placed : OneResult (List ℕ) paper_placed
  pub one_taken_up : OneResult (List ℕ) paper_taken_up
  pub one_answered : OneResult (List ℕ) paper_answered
  pub one_collected : (b : List ℕ) (p t : ℕ) (out : List ℕ) (r r' : Returned ℕ Refusal) (exit exit' out_exit out_exit' : List ℕ)
      → Collects b p t out r exit out_exit → Collects b p t out r' exit' out_exit' → (r ≡ r') × (exit ≡ exit') × (out_exit ≡ out_exit')
  -- "a table's size (one size for every MaxSessions, at most 1,048,576 bytes)"
  pub table_size : table_bytes ≤ 1048576
  -- "A fresh table has no session, last ticket 0, nothing in hand, and 0 comes first in the turn."
  pub makes_fresh : (b : List ℕ) (max : ℕ) → making b max ≡ done tt → abs (made_bytes b max) ≡ fresh max
  -- a call on a sound table leaves what 01 says of the table without bytes, and a sound table
  pub place_leaves : (b : List ℕ) (p n : ℕ) → sound_bytes b ≡ true → abs (placed_bytes b p n) ≡ (place (abs b) p n).1
  pub take_up_leaves : (b : List ℕ) → sound_bytes b ≡ true → abs (taken_bytes b) ≡ (take_up (abs b)).1
  pub answer_leaves : (b : List ℕ) (t c : ℕ) (a : Answer) → sound_bytes b ≡ true → abs (answered_bytes b t c a) ≡ (answer (abs b) t c a).1
  pub collect_leaves : (b : List ℕ) (p t : ℕ) (out : List ℕ) → sound_bytes b ≡ true
      → abs (collected_bytes b p t (length out)) ≡ (collect (abs b) p t (length out)).1
  pub leaves_sound : (b : List ℕ) (c : Call) → sound_bytes b ≡ true → makes_anew c ≡ false → sound_bytes (step_bytes b c).1 ≡ true
  -- of a report its columns and its lines of values are returned, or the refusal
  pub report_sized : (d : ℕ) (file : List ℕ) (room : ℕ) → let x = read_report d file room in
      ((t : Told) → x ≡ done t → report.sized x ≡ done (t.columns, t.lines))
      × ((number place : ℕ) → x ≡ refused number place → report.sized x ≡ refused number place)
  -- "On success, places beyond those written stay.": a name, a record, a report, a reply ("all records in order") stands at the start of the output, offsets
  -- and cells at the start of what is lent for them
  pub offsets_written : (clause : StartClause) (file offsets os : List ℕ) → let x = read_job clause file (length offsets) in
      x ≡ done os → filled x offsets ≡ put offsets 0 os
  pub cells_written : (d : ℕ) (file cells : List ℕ) (t : Told) → let x = read_report d file (length cells) in
      x ≡ done t → report.filled x cells ≡ put cells 0 t.cells
  pub report_written : (source cells : List ℕ) (many d : ℕ) (out text : List ℕ) → let x = reportWriting.written source cells many d (length out) in
      x ≡ done text → reportWriting.filled x out ≡ put out 0 text
  pub name_written : (max n k : ℕ) (kind : Kind) (out : List ℕ) → name.written max n out ≡ done k
      → name.written_bytes max n kind out ≡ put out 0 (name.name_of n kind)
  pub record_written : (c : Content) (out : List ℕ) (k : ℕ) → writing.written commands c out ≡ done k
      → writing.written_bytes commands c out ≡ put out 0 (record_bytes c)
  pub reply_written : (b : List ℕ) (p t : ℕ) (out reply : List ℕ) → collecting b p t (length out) ≡ done reply → collected_out b p t out ≡ put out 0 reply
  -- "Answering changes one slot's entry and the in-hand mark, nothing else.": every other byte stays, but for the slot's count of answers
  pub answer_changes : (b : List ℕ) (t c : ℕ) (a : Answer) (i : ℕ) → let s = in_hand b in
      Beyond i (entry_at s (number b (answered_at s) + 1)) 4 → Beyond i (answered_at s) 1 → Beyond i hand_at 1
      → get_or (answered_bytes b t c a) i 0 ≡ get_or b i 0

-- ---- Demand 2: "A job file is taken when, and only when, it obeys 01's grammar and limits and the offset table has room, and its reading is the one the
-- grammar gives; a break is named by its leftmost place. Records written and read come back the same, both ways round."
-- P7: "Demand 2 holds for each setting against its own grammar.": a start clause is required, or optional.

-- a reader of job files: file and lent offset table, to the count of statements and the table at exit
abbrev pub Reader : Type 0
Reader = (file offsets : List ℕ) → Result ℕ × List ℕ

-- it gives 01's verdict on each file, and writes the offsets of the statements
abbrev pub Reads : StartClause → Reader → Type 0
Reads clause f =
    (file offsets : List ℕ) → (x : Reading) × Verdict clause file (length offsets) x × ((f file offsets).0 ≡ counted x) × ((f file offsets).1 ≡ filled x offsets)

pub record Demand2 (clause : StartClause) : Type 0 where
  pub verdict : Reads clause λ file offsets. let x = read_job clause file (length offsets) in (counted x, filled x offsets)
  -- the tokens of a file from any place on, and what ends them
  pub tokens : (s : List ℕ) (i : ℕ) → Tokens s i (line_at s i).tokens (line_at s i).last
  -- "taken when, and only when ..": `Taken` has the offsets of the statements that the grammar gives
  pub taken : (s : List ℕ) (room : ℕ) (os : List ℕ) → read_job clause s room ≡ done os ↔ Taken clause s room os
  -- "and its reading is the one the grammar gives": the statements that the productions give, each "read on its own from the place where it begins";
  -- there is one such list
  pub statements : (s : List ℕ) (room : ℕ) (os : List ℕ) → read_job clause s room ≡ done os → (ys : List Statement)
      → File clause (line s).tokens os ys ↔ Tiled clause s 0 os ys
  pub one_reading : (s : List ℕ) (room : ℕ) (os : List ℕ) → read_job clause s room ≡ done os → (xs ys : List Statement) → File clause (line s).tokens os xs
      → File clause (line s).tokens os ys → xs ≡ ys
  -- a statement is what the tokens from the offset on, up to and including their first `;`, read as: the last row of the statement call
  pub reading : (s : List ℕ) (at : ℕ) (x : StatementRead) (o e : ℕ)
      → read_statement clause s at ≡ done (placed_at x o e) ↔ (length s ≤ file_bytes) × (at ≤ length s) × One clause s at (paper_statement x) o e
  -- "a break is named by its leftmost place": "tested for 1, then from the left; the leftmost place decides, and at one place 3 goes before 6, 6 before
  -- 5, 5 before 4. Then 2."; P2: "All places and the order stay, with 15 to 17 where 3 stood and 18 where 4 did."
  pub one : (s : List ℕ) (room p : ℕ) → read_job clause s room ≡ refused file_too_long p ↔ (file_bytes < length s) × p ≡ 0
  pub three : (s : List ℕ) (room p : ℕ) → read_job clause s room ≡ refused no_token p ↔ (length s ≤ file_bytes) × Three clause (line s).tokens (line s).last p
  pub fifteen : (s : List ℕ) (room p : ℕ)
      → read_job clause s room ≡ refused open_string p ↔ (length s ≤ file_bytes) × Fifteen clause (line s).tokens (line s).last p
  pub sixteen : (s : List ℕ) (room p : ℕ)
      → read_job clause s room ≡ refused broken_string p ↔ (length s ≤ file_bytes) × Sixteen clause (line s).tokens (line s).last p
  pub seventeen : (s : List ℕ) (room p : ℕ)
      → read_job clause s room ≡ refused misshapen p ↔ (length s ≤ file_bytes) × Seventeen clause (line s).tokens (line s).last p
  pub six : (s : List ℕ) (room p : ℕ) → read_job clause s room ≡ refused too_many_statements p ↔ (length s ≤ file_bytes) × Six clause (line s).tokens p
  pub five : (s : List ℕ) (room p : ℕ) → read_job clause s room ≡ refused not_real p ↔ (length s ≤ file_bytes) × Five clause (line s).tokens p
  pub four : (s : List ℕ) (room p : ℕ) → read_job clause s room ≡ refused unexpected p ↔ (length s ≤ file_bytes) × Four clause (line s).tokens p
  pub eighteen : (s : List ℕ) (room p : ℕ)
      → read_job clause s room ≡ refused end_of_file p ↔ (length s ≤ file_bytes) × Eighteen clause (line s).tokens (line s).last p
  pub two : (s : List ℕ) (room p : ℕ) → read_job clause s room ≡ refused too_few_places p ↔ ((os : List ℕ) × Crowded clause s room os) × p ≡ 0
  -- "the end is at the file's length"
  pub end_is_last : (s : List ℕ) (p : ℕ) → Eighteen clause (line s).tokens (line s).last p → p ≡ length s
  -- 4 speaks of what "legal" files have: what may stand by its tokens does stand in a file
  pub in_file : (a : List Placed) → Begins clause a ↔ InFile clause a
  -- the paper's value of a statement loses nothing
  pub one_meaning : (x y : StatementRead) → paper_statement x ≡ paper_statement y → x ≡ y
  -- "A number is read as a signed whole number of at most 16 digits with the count of digits after the point. `-0` reads as 0.": number tokens stand
  -- exactly where 01's numbers do, and read as their digits say
  pub number_token : (s : List ℕ) (i a b : ℕ) → token_at s i ≡ Number a b ↔ ((a ≡ i) × NumberFrom s a b)
  pub number_reads : (bs : List ℕ) (minus : Bool) (w f : List ℕ) → Numeral bs minus w f
      → number_of bs ≡ record { mantissa = signed_of minus (value (w ++ f)); scale = length f }
  pub number_is_small : (s : List ℕ) (i a b : ℕ) → next_token s i ≡ Number a b → let n = number_of (part s a (b - a)) in
      (nat_abs n.mantissa < 10 ^ 16) × (n.scale ≤ 15)
  pub minus_zero : (bs w f : List ℕ) → Numeral bs false w f → value (w ++ f) ≡ 0 → number_of (45 ∷ bs) ≡ number_of bs
  -- "A date is eight bare digits yyyymmdd", real or not, and no other number is one; a time is "dd:dd:dd": they say what their digits are
  pub date_says : (s ys : List ℕ) (a n : ℕ) → n < 10 ^ 8 → drop a s ≡ digits 8 n ++ ys
      → (number_class s a (a + 8) ≡ cond (real_date n) date unreal_date) × (date_number s a (a + 8) ≡ n)
  pub no_other_date : (s : List ℕ) (a b : ℕ) → ((n : ℕ) → n < 10 ^ 8 → b ≡ a + 8 → part s a 8 ≡ digits 8 n → ⊥) → number_class s a b ≡ no_date
  pub time_says : (s ys : List ℕ) (a h m k : ℕ) → h < 100 → m < 100 → k < 100
      → drop a s ≡ digits 2 h ++ (ascii ":" ++ (digits 2 m ++ (ascii ":" ++ (digits 2 k ++ ys)))) → time_number s a ≡ h * 10000 + m * 100 + k
  -- "The text of a quoted string is shown as that part of the file between its quotes. .. where no whole string begins there it shows the empty part, and a
  -- yes-or-no call tells this from an empty string." String tokens stand exactly where whole strings do.
  pub whole_string : (s : List ℕ) (i : ℕ) (c : List ℕ) → WholeString s i c ↔ ((is_text_at s i ≡ true) × (content_at s i ≡ c))
  pub text_shown : (s : List ℕ) (i : ℕ) (c : List ℕ) → WholeString s i c → text_at s i ≡ c
  pub no_text_shown : (s : List ℕ) (i : ℕ) → ((c : List ℕ) → WholeString s i c → ⊥) → text_at s i ≡ []
  pub string_token : (s : List ℕ) (i a b : ℕ)
      → token_at s i ≡ Text a b ↔ ((is_text_at s i ≡ true) × (a ≡ i) × (b ≡ i + length (content_at s i) + 2))
  -- "Records written and read come back the same, both ways round.": any permitted record, its text included, and any bytes that are one
  pub write_then_read : (c : Content) (out : List ℕ) → permitted commands c ≡ true → let n = length (record_bytes c) in n ≤ length out
      → (writing.written commands c out ≡ done n)
      × (let s = part (writing.written_bytes commands c out) 0 n in with_text s (record_read commands s) ≡ done c)
  pub read_then_write : (s : List ℕ) (r : Record) (out : List ℕ) → record_read commands s ≡ done r → length s ≤ length out
      → (writing.written commands (content_of s r) out ≡ done (length s)) × (part (writing.written_bytes commands (content_of s r) out) 0 (length s) ≡ s)
  -- what is shown of a record is its text, and of other bytes the empty part
  pub record_text_shown : (c : Content) → permitted commands c ≡ true → text_of (record_bytes c) (record_read commands (record_bytes c)) ≡ c.text
  pub no_record_text : (s : List ℕ) (number place : ℕ) → record_read commands s ≡ refused number place → text_of s (record_read commands s) ≡ []
  -- "Length: PROCESSED 42, ERROR 50, plus the digits of n and the bytes of text."
  pub record_length : (c : Content) → length (record_bytes c) ≡ fixed_length c.outcome + plain_width c.number + length c.text
  -- names of session files too
  pub name_write_then_read : (max n : ℕ) (kind : Kind) (out : List ℕ) → name.written max n out ≡ done 12
      → name.name_read max (part (name.written_bytes max n kind out) 0 12) ≡ done (n, kind)
  pub name_read_then_write : (max n : ℕ) (kind : Kind) (bytes out : List ℕ) → name.name_read max bytes ≡ done (n, kind) → 12 ≤ length out
      → (name.written max n out ≡ done 12) × (part (name.written_bytes max n kind out) 0 12 ≡ bytes)

-- ---- A missing start clause (document 02, P7): "A missing clause shall now be refused. Callers that relied on it reading as IMMEDIATE .. may ask for the
-- earlier reading by a setting given with the call". `Required` is the new setting, `Optional` the old one.

pub record MissingClause : Type 0 where
  -- "A file taken under the new one is taken under the old one with the same reading.": the same offsets, the same statements
  pub stricter_is_taken : (s : List ℕ) (room : ℕ) (os : List ℕ) → read_job Required s room ≡ done os
      → (read_job Optional s room ≡ done os) × ((ys : List Statement) → Tiled Required s 0 os ys ↔ Tiled Optional s 0 os ys)
  pub stricter_is_read : (s : List ℕ) (at : ℕ) (x : StatementAt) → read_statement Required s at ≡ done x → read_statement Optional s at ≡ done x
  -- a file taken under the old one is taken under the new one exactly when no UPLOAD or DOWNLOAD of it lacks its clause
  pub clause_is_all : (s : List ℕ) (room : ℕ) (os : List ℕ) → read_job Optional s room ≡ done os
      → read_job Required s room ≡ done os ↔ ((p : ℕ) → Lacks (line s).tokens p → ⊥)
  -- "Refusals: 4 at the `;` that stands where the clause must begin, or 18 at the end of file.": of such a file 4 at the first, and no other
  pub first_is_named : (s : List ℕ) (room : ℕ) (os : List ℕ) → read_job Optional s room ≡ done os
      → (n p : ℕ) → read_job Required s room ≡ refused n p ↔ (n ≡ unexpected) × FirstLacks (line s).tokens p
  -- of any file that is in order up to where the clause must begin: 4 at the `;`, and 18 with either setting at the end
  pub clause_missing : (s : List ℕ) (room : ℕ) → length s ≤ file_bytes → (a : List Placed) (p : ℕ) → Begins Required a → LacksAfter (line s).tokens a p
      → read_job Required s room ≡ refused unexpected p
  pub clause_cut : (s : List ℕ) (room : ℕ) → length s ≤ file_bytes → (clause : StartClause) (p : ℕ) → Begins clause (line s).tokens
      → ClauseDue (line s).tokens → (line s).last ≡ end p → read_job clause s room ≡ refused end_of_file (length s)
  -- of one statement the same: 4 at the `;` where the tokens from the offset on begin with one that lacks its clause, and no other refusal of what is read
  -- under the old setting
  pub statement_missing : (s : List ℕ) (at : ℕ) → length s ≤ file_bytes → at ≤ length s → (p : ℕ) → BeginsLacking (line_at s at).tokens p
      → read_statement Required s at ≡ refused unexpected p
  pub statement_is_named : (s : List ℕ) (at : ℕ) (x : StatementAt) → read_statement Optional s at ≡ done x
      → (n p : ℕ) → read_statement Required s at ≡ refused n p ↔ (n ≡ unexpected) × BeginsLacking (line_at s at).tokens p
  -- and no reader is right under both, whatever it answers
  pub settings_differ : (f : Reader) → Reads Required f → Reads Optional f → ⊥

-- ---- What is wrong with the token (document 02, P2): "An open quote and a stray byte need different hands, and so do a cut file and a misplaced word."

pub record Hands : Type 0 where
  -- why no token stands at a place is what the bytes there say, in the words of 3, 15, 16 and 17
  pub stray : (s : List ℕ) (i p : ℕ) → token_at s i ≡ NoToken Stray p ↔ ((p ≡ i) × StartsNoToken s i)
  pub open_string_token : (s : List ℕ) (i p : ℕ) → token_at s i ≡ NoToken OpenString p ↔ ((p ≡ i) × StringMeetsEnd s i)
  pub broken_string_token : (s : List ℕ) (i p : ℕ) → token_at s i ≡ NoToken BrokenString p ↔ ((p ≡ i) × StringBreaks s i)
  pub misshapen_token : (s : List ℕ) (i p : ℕ) → token_at s i ≡ NoToken Misshapen p ↔ ((p ≡ i) × (OverlongWord s i ⊎ MisshapenRun s i))
  -- "meets .. first", of a string with the content bytes c: 255 of them and then the end; 256 and then the end; 255 and then a forbidden byte, whatever is after it
  pub end_after_255 : (c : List ℕ) → ((b : ℕ) → Memᴰ b c → ContentByte b) → length c ≡ 255 → token_at (34 ∷ c) 0 ≡ NoToken OpenString 0
  pub end_after_256 : (c : List ℕ) → ((b : ℕ) → Memᴰ b c → ContentByte b) → length c ≡ 256 → token_at (34 ∷ c) 0 ≡ NoToken BrokenString 0
  pub forbidden_after_255 : (c : List ℕ) → ((b : ℕ) → Memᴰ b c → ContentByte b) → length c ≡ 255 → (met : ℕ) → Forbidden met → (after : List ℕ)
      → token_at (34 ∷ (c ++ (met ∷ after))) 0 ≡ NoToken BrokenString 0
  -- the number alone tells what stands at the place of a refusal, of a whole file and of one statement
  pub job_tells : (s : List ℕ) (clause : StartClause) (room n p : ℕ) → read_job clause s room ≡ refused n p
      → (n ≡ file_too_long) ⊎ ((n ≡ too_few_places) ⊎ Tells s p n)
  pub statement_tells : (s : List ℕ) (clause : StartClause) (at n p : ℕ) → read_statement clause s at ≡ refused n p
      → (n ≡ file_too_long) ⊎ ((n ≡ out_of_range) ⊎ Tells s p n)
  -- 18 exactly at the file's length; 3, 15, 16 and 17 only where no token begins, and there one of them
  pub end_exactly : (s : List ℕ) (n p : ℕ) → Tells s p n → (n ≡ end_of_file) ↔ (p ≡ length s)
  pub no_token_begins : (s : List ℕ) (p : ℕ) → TokenBegins s p
      → (StartsNoToken s p → ⊥) × (StringMeetsEnd s p → ⊥) × (StringBreaks s p → ⊥) × (OverlongWord s p ⊎ MisshapenRun s p → ⊥)
  pub one_hand : (s : List ℕ) (n m p : ℕ) → Tells s p n → Tells s p m → (n ≡ m) ⊎ TokenBegins s p

-- ---- Report files (document 02, P1), over the delimiter, of which only "comma, semicolon, vertical bar or tab" is known

pub record Reports : Type 0 where
  -- The reader takes a text when, and only when, it is the report of some rows, and gives those rows; there is one such list of rows.
  pub read_exactly : (d : ℕ) (text : List ℕ) (room : ℕ) (t : Told) → read_report d text room ≡ done t ↔ ReadAs d text room t
  pub one_report : (d : ℕ) → is_delimiter d ≡ true → (text : List ℕ) (r q : Rows) → Report d r text → Report d q text → r ≡ q
  -- what is told of a report are the places and lengths of its names and values in the text: "a number keeps its digits"
  pub told_parts : (d : ℕ) (r : Rows) (text : List ℕ) → Report d r text → Parts text (told d r).cells (fields (r.names ∷ r.values))
  -- "7, reading with the start of the first line that doesn't fit"
  pub break_exactly : (d : ℕ) (text : List ℕ) (room p : ℕ) → read_report d text room ≡ refused not_a_record p ↔ ((is_delimiter d ≡ true) × Breaks d text p)
  -- "Text to rows and back must agree whichever delimiter is chosen, proved once for the four."
  pub rows_to_text_to_rows : (d : ℕ) → is_delimiter d ≡ true → (source cells : List ℕ) (many : ℕ) (r : Rows) → Given source cells many r → (room lent : ℕ)
      → length (report_text d r) ≤ room → length (told d r).cells ≤ lent
      → (reportWriting.written source cells many d room ≡ done (report_text d r)) × (read_report d (report_text d r) lent ≡ done (told d r))
      × Parts (report_text d r) (told d r).cells (fields (r.names ∷ r.values))
  pub text_to_rows_to_text : (d : ℕ) (text : List ℕ) (lent : ℕ) (t : Told) → read_report d text lent ≡ done t → (room : ℕ) → length text ≤ room
      → reportWriting.written text t.cells t.columns d room ≡ done text

-- ---- Whether to start (document 02, P3), of a start clause in the grammar's terms and of what is given with it. What is answered depends on these alone:
-- "If the clock is set back, the decision follows the moment given, and an earlier "due" is not remembered."

pub record Starts : Type 0 where
  -- due if and only if nothing is refused and P3's sentence on this kind of clause holds
  pub due_exactly : (g : start.Given) (x : Start) → decision g x ≡ done true ↔ DecidedDue g x
  -- of a clause that was read nothing is refused but for what is given with it: its own time and date are real, and its constant is permitted
  pub read_in_order : (clause : StartClause) (s : List ℕ) (at : ℕ) (x : StatementRead) (o e : ℕ) → read_statement clause s at ≡ done (placed_at x o e)
      → (y : Start) → start.HasClause (paper_statement x) y
      → start.OwnReal y × ((g : start.Given) → g.bytes ≡ s → start.Permitted g.value → start.AllPermitted g y)
  -- "at or after": what is due stays due at every real moment at or after the one given
  pub due_stays : (g : start.Given) (x : Start) (date time : ℕ) → real_date date ≡ true → real_time time ≡ true → AtOrAfter date time g.date g.time
      → decision g x ≡ done true → decision (start.at date time g) x ≡ done true
  -- "a number or string that 01 doesn't permit": permitted are the numbers that some bytes read as, and the contents of strings
  pub permitted_numbers : (n : Value) → start.Permitted (start.number n) ↔ start.Spelled n
  pub permitted_strings : (c : List ℕ) → start.Permitted (start.text c) ↔ ((s : List ℕ) × WholeString s 0 c)
  -- "numbers by exact value": of two exactly one is below, equal or above, and the other operators say what these say
  pub one_of_three : (v k : Value) → NumberHolds below v k ⊎ (NumberHolds equal v k ⊎ NumberHolds above v k)
  pub never_two : (v k : Value) → (NumberHolds below v k → NumberHolds equal v k → ⊥) × (NumberHolds below v k → NumberHolds above v k → ⊥)
      × (NumberHolds equal v k → NumberHolds above v k → ⊥)
  pub at_least : (v k : Value) → NumberHolds at_least v k ↔ (NumberHolds above v k ⊎ NumberHolds equal v k)
  pub at_most : (v k : Value) → NumberHolds at_most v k ↔ (NumberHolds below v k ⊎ NumberHolds equal v k)
  pub not_equal : (v k : Value) → NumberHolds unequal v k ↔ (NumberHolds equal v k → ⊥)
  pub transitive : (o : Operator) → (o ≡ unequal → ⊥) → (a b c : Value) → NumberHolds o a b → NumberHolds o b c → NumberHolds o a c
  -- "trailing zeros included, so 2.50 equals 2.5": as many as one likes on either side; and ten times both is as it was
  pub zeros_change_nothing : (o : Operator) (z y : ℕ) (v k : Value) → NumberHolds o (with_zeros z v) (with_zeros y k) ↔ NumberHolds o v k
  pub ten_times_both : (o : Operator) (v k : Value) → NumberHolds o (ten_times v) (ten_times k) ↔ NumberHolds o v k

-- ---- The 29th of February (document 02, P4). "Job files, records, answers and start decisions all follow. .. Demand 2 reads with this calendar.": what is
-- said above of a date is said of `real_date`, in which February has the days that P4 gives it.

pub record StoredDates : Type 0 where
  -- "A session table that stores a now unreal date is unsound.": with any answer of any session
  pub unreal_date_is_unsound : (b : List ℕ) (s : ℕ) (a : Answer) (before after : List Answer) → ((abs b).slot s).answers ≡ before ++ (a ∷ after)
      → real_date a.date ≡ false → sound_bytes b ≡ false
  -- and then every call gives 13, whatever it asks
  pub unsound_is_refused : (b : List ℕ) → sound_bytes b ≡ false
      → ((p n : ℕ) → placing b p n ≡ refused unsound 0) × (taking_up b ≡ refused unsound 0)
      × ((t c : ℕ) (a : Answer) → answering b t c a ≡ refused unsound 0) × ((p t room : ℕ) → collecting b p t room ≡ refused unsound 0)

-- ---- More commands in a request (document 02, P6): "The demands hold with 200.": as they are said above, of `statements` and `commands`.

-- the records of commands 1 to n, in order
unfoldable pub records_to : ℕ → (ℕ → Content) → List ℕ
records_to zero c = []
records_to (suc n) c = records_to n c ++ record_bytes (c (suc n))

-- the old size: the table's own row, and for each session two rows and one for each command, of 16 bytes
abbrev pub older_table : ℕ
older_table = 16 * (1 + (2 + older_commands) * sessions)

pub record MoreCommands : Type 0 where
  -- "Both limits go from 64 to 200."
  pub both_limits : (statements ≡ 200) × (commands ≡ 200)
  -- "n in a record may now have three digits, so a full reply of ERROR records with 255-byte texts is 61,492 bytes.", whatever they say; without texts
  -- 10,492, and this is room enough for every collection
  pub full_reply : (class code date time : ℕ → ℕ) (text : ℕ → List ℕ) → ((n : ℕ) → length (text n) ≡ 255)
      → length (records_to commands λ n. content n (Error (class n) (code n)) (text n) (date n) (time n)) ≡ 61492
  pub full_reply_without_texts : (class code date time : ℕ → ℕ)
      → length (records_to commands λ n. content n (Error (class n) (code n)) [] (date n) (time n)) ≡ 10492
  pub room_enough : (b : List ℕ) (p t room q : ℕ) → 10492 ≤ room → collecting b p t room ≡ refused too_little_room q → ⊥
  -- "Older host readers refuse records above 64 with 7 and never misread one": a reader whose limit of n is older, 64 or any other. Bytes that the reader takes
  -- it reads alike where n is within its limit, and gives 7 where it is above; bytes that the reader refuses it refuses.
  pub never_misreads : (older : ℕ) → older ≤ commands → (s : List ℕ) (r : Record) → record_read older s ≡ done r → record_read commands s ≡ done r
  pub older_reader_agrees : (older : ℕ) → older ≤ commands → (s : List ℕ) (r : Record) → record_read commands s ≡ done r → r.number.0 ≤ older
      → record_read older s ≡ done r
  pub older_reader_refuses : (older : ℕ) → older ≤ commands → (s : List ℕ)
      → ((r : Record) → record_read commands s ≡ done r → older < r.number.0 → record_read older s ≡ refused not_a_record 0)
      × ((n p : ℕ) → record_read commands s ≡ refused n p → record_read older s ≡ refused n p)
  -- "Tables in the old size are refused as unsound and must be made anew.": any bytes of that size, by every call
  pub sizes : (table_bytes ≡ 103440) × (older_table ≡ 33808)
  pub old_size_is_unsound : (b : List ℕ) → length b ≡ older_table → sound_bytes b ≡ false
  pub old_size_is_refused : (b : List ℕ) → length b ≡ older_table
      → ((max : ℕ) → 1 ≤ max → max ≤ sessions → making b max ≡ refused unsound 0) × ((p n : ℕ) → placing b p n ≡ refused unsound 0)
      × (taking_up b ≡ refused unsound 0) × ((t c : ℕ) (a : Answer) → answering b t c a ≡ refused unsound 0)
      × ((p t room : ℕ) → collecting b p t room ≡ refused unsound 0)

-- ---- Demand 3: "From a fresh table, after any sequence of calls by up to eight programs and one machine:" of any way to answer a table's calls, with
-- `fresh` for what is made and `step` for what a call answers and leaves. Lists of calls and events have the newest first.

-- The event e is in the history h: what came after it, and what came before.
abbrev pub Happened : List Event → Event → List Event → List Event → Type 0
Happened h e later earlier = h ≡ later ++ (e ∷ earlier)

-- These bytes read as the record of command c with what a says, "text empty".
abbrev pub Says : List ℕ → ℕ → Answer → Type 0
Says bytes c a = with_text bytes (record_read commands bytes) ≡ done (content c a.outcome [] a.date a.time)

-- Of the bytes b and the history h that some calls have led to.
pub record Serves (step : Step) (b : List ℕ) (h : List Event) : Type 0 where
  -- "these are always sound, so 13 is never given there"
  pub always_sound : sound_bytes b ≡ true
  pub never_13 : (c : Call) → refused_with unsound (step b c).0 ≡ false
  -- "each reply collected under a ticket holds one record per command of the request that got that ticket, in order, with exactly the
  -- outcome, date and time accepted for it"
  pub reply_is_yours : (p t n : ℕ) (out exit : List ℕ) (later earlier : List Event) → Happened h (collected p t out (done n) exit) later earlier
      → Yours p t out n exit earlier
  -- where the record of an accepted answer stands after those of the answers before, and reads as its command, outcome, date and time
  pub record_in_place : (t c : ℕ) (a : Answer) (later earlier : List Event) → Happened h (answered t c a (done tt)) later earlier
      → Says (part (records (accepted t h)) (length (records (accepted t earlier))) (length (record_of c a))) c a
  -- Nothing but the history decides what a collection answers.
  pub collect_answers_what_is_owed : (p t : ℕ) (out : List ℕ) → (step b (to_collect p t out)).0 ≡ collected_as p t out (owed h p t (length out))
  -- The answers of a ticket are accepted in the order 1, 2, ..
  pub answers_in_order : (t : ℕ) → (l : List Answer) × (accepted t h ≡ numbered 1 l)
  -- so that with the last command each was answered
  pub each_is_answered : (p n s t : ℕ) (later earlier : List Event) → Happened h (placed p n (done (s, t))) later earlier
      → (a : Answer) (newer older : List Event) → Happened later (answered t n a (done tt)) newer older → length (accepted t later) ≡ n
  -- "once complete it is there for its owner until collected": the last command was answered and nothing was collected under t
  pub reply_is_there : (p n s t : ℕ) (later earlier : List Event) → Happened h (placed p n (done (s, t))) later earlier
      → (a : Answer) (newer older : List Event) → Happened later (answered t n a (done tt)) newer older → collections t later ≡ []
      → (out : List ℕ) → (step b (to_collect p t out)).0 ≡ collected_as p t out (if_room (records (accepted t later)) (length out))
  -- and it stays what it is
  pub reply_stays : (p n s t : ℕ) (later earlier : List Event) → Happened h (placed p n (done (s, t))) later earlier
      → (newer older : List Event) → later ≡ newer ++ older → length (accepted t older) ≡ n → accepted t later ≡ accepted t older
  -- "A table that does nothing never closes a session": while a command is unanswered one is given, and its answer is accepted
  pub is_given : (t s p n : ℕ) → placings t h ≡ (s, p, n) ∷ [] → length (accepted t h) < n → (x : ℕ × ℕ × ℕ) × ((step b to_take_up).0 ≡ took_up (done x))
  pub is_accepted : (s t c : ℕ) (a : Answer) → (step b to_take_up).0 ≡ took_up (done (s, t, c)) → in_range_and_real a ≡ true
      → (step (step b to_take_up).1 (to_answer t c a)).0 ≡ answered t c a (done tt)
  -- "a collected ticket is never honoured again"
  pub never_again : (p t n : ℕ) (out exit : List ℕ) (later earlier : List Event) → Happened h (collected p t out (done n) exit) later earlier
      → Refuses step b t
  -- "A number is taken from its placing until its collection"
  pub number_is_held : (p n s t : ℕ) (later earlier : List Event) → Happened h (placed p n (done (s, t))) later earlier → collections t later ≡ []
      → (q m u : ℕ) → (step b (to_place q m)).0 ≡ placed q m (done (s, u)) → ⊥

-- for every MaxSessions and any calls, refused ones included, that do not make the table anew
abbrev pub Demand3 : (ℕ → List ℕ) → Step → Type 0
Demand3 fresh step =
    (max : ℕ) → 1 ≤ max → max ≤ sessions → (cs : List Call) → never_anew cs ≡ true
    → Serves step (bytes_after (fresh max) step cs) (history_of (fresh max) step cs)
