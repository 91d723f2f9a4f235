-- The examples that document 01 marks with a star, with P2's numbers, both ends, sign and zero of its numbers, and, of document 02, some report files of P1,
-- faults of P2, start decisions of P3, dates of P4, numbers of records of P6 and missing start clauses of P7, in one table: the words, and the test that they are, on the definitions
-- that the contracts cite. `proofs/Examples` proves that every row holds, by one computation.
use Rattle.std.specs.Prelude.{ℕ, Bool, true, false, cond, not, ◌&&◌, List, [], ◌∷◌, ◌++◌, eqb, ℤ, pos, negsuc, neg_ℤ, length, replicate}
use Prim.Native.String.{String}
use Rattle.field.specs.Bytes.{ascii, same}
use Rattle.calendar.specs.Calendar.{real_date, real_time}
use Rattle.counts.specs.Limits.{statements, commands, older_commands}
use Rattle.counts.specs.Refusals.{no_token, unexpected, not_real, not_a_record, too_little_room, out_of_range, open_string, broken_string, misshapen, end_of_file, not_comparable}
use Rattle.counts.specs.Result.{Result, refused, done}
use Rattle.grammar.specs.declared.StartClause.TheVariants.{Required, Optional}
use Rattle.grammar.specs.Statement.{Start}
use Rattle.grammar.specs.Statement.Start.{immediate}
use Rattle.statement.specs.declared.Statement.{Statement as StatementRead}
use Rattle.statement.specs.declared.Statement.TheVariants.{Job, Upload, Download, GetInfo, Abort}
use Rattle.meaning.specs.Paper.{paper_start}
use Rattle.job.specs.Job.{read_job}
use Rattle.job.specs.Statement.{read_statement}
use Rattle.job.specs.declared.StatementAt.{StatementAt}
use Rattle.start.specs.Due as start
use Rattle.start.specs.Due.{Compared, Given}
use Rattle.start.specs.Decision.{given, decision}
use Rattle.number.specs.Number.{number_of}
use Rattle.number.specs.declared.Number.{Number}
use Rattle.record.specs.Record.{content, record_bytes}
use Rattle.record.specs.declared.Outcome.{Outcome}
use Rattle.record.specs.declared.Outcome.TheVariants.{Processed, Error}
use Rattle.record_read.specs.Reading.{record_read}
use Rattle.report.specs.Report.{Told}
use Rattle.report.specs.Reading.{read_report}
use Rattle.report_write.specs.Writing.{written}
use Rattle.session_name.specs.Name.{name_read}

pub record Row : Type 0 where
  pub words : String
  pub holds : Bool

abbrev pub row : String → Bool → Row
row words holds = record { words = words; holds = holds }

abbrev pub is_refused : {A : Type 0} → ℕ → ℕ → Result A → Bool
is_refused number place (refused n p) = eqb n number && eqb p place
is_refused number place (done a) = false

abbrev pub is_taken : {A : Type 0} → Result A → Bool
is_taken (refused n p) = false
is_taken (done a) = true

-- the bytes that a call gives
abbrev pub is_bytes : List ℕ → Result (List ℕ) → Bool
is_bytes bytes (refused n p) = false
is_bytes bytes (done given) = same given bytes

-- a job file of these bytes is taken, and its statements begin at these offsets
abbrev pub is_taken_at : List ℕ → Result (List ℕ) → Bool
is_taken_at os (refused n p) = false
is_taken_at os (done offsets) = same offsets os

-- two numbers read alike: mantissa and scale
abbrev pub same_whole : ℤ → ℤ → Bool
same_whole (pos m) (pos n) = eqb m n
same_whole (pos m) (negsuc n) = false
same_whole (negsuc m) (pos n) = false
same_whole (negsuc m) (negsuc n) = eqb m n

abbrev pub same_number : Number → Number → Bool
same_number x y = same_whole x.mantissa y.mantissa && eqb x.scale y.scale

-- a job file, read with a table that has room for every file: with P7's new setting, and with the earlier one
abbrev pub job : String → Result (List ℕ)
job text = read_job Required (ascii text) statements

abbrev pub job_as_before : String → Result (List ℕ)
job_as_before text = read_job Optional (ascii text) statements

-- the text is a token, though none that a file begins with (else 17), and reads as a number with this mantissa and scale
abbrev pub reads : String → ℤ → ℕ → Bool
reads text mantissa scale = is_refused unexpected 0 (job text) && same_number (number_of (ascii text)) (record { mantissa = mantissa; scale = scale })

-- the length of a record with number 1 and no text
abbrev pub record_length : Outcome → ℕ
record_length outcome = length (record_bytes (content 1 outcome [] 20240430 235959))

-- a record with these digits for its number
abbrev pub numbered : String → List ℕ
numbered n = ascii "COMMAND " ++ ascii n ++ ascii " PROCESSED \"\" 20240430 23:59:59;\r\n"

-- a report with commas, read with room for eight cells
abbrev pub report : String → Result Told
report text = read_report 44 (ascii text) 16

-- it is taken, with so many columns and lines, and its cells are these
abbrev pub is_told : ℕ → ℕ → List ℕ → Result Told → Bool
is_told columns lines cells (refused n p) = false
is_told columns lines cells (done t) = eqb t.columns columns && eqb t.lines lines && same t.cells cells

-- what is written again of the report in text, from what was told of it, is the text
abbrev pub is_written_again : String → Result Told → Bool
is_written_again text (refused n p) = false
is_written_again text (done t) = is_bytes (ascii text) (written (ascii text) t.cells t.columns 44 (length (ascii text)))

-- the start clause of a statement that was read
abbrev pub start_of : StatementRead → Start
start_of (Upload file source start) = paper_start start
start_of (Download file source start) = paper_start start
start_of (Job name response) = immediate
start_of (GetInfo file) = immediate
start_of (Abort what name) = immediate

-- an UPLOAD with these words for its start clause
abbrev pub upload : String → List ℕ
upload words = ascii "UPLOAD \"f\" ACTIVE START " ++ ascii words ++ ascii ";"

-- its clause, read and then decided on what is given
abbrev pub decided_on : Given → Result StatementAt → Result Bool
decided_on g (refused n p) = refused n p
decided_on g (done x) = decision g (start_of x.statement)

-- at this moment, of a command that was taken up on 20261117, with this present value
abbrev pub decided : String → (date time : ℕ) → Compared → Result Bool
decided words date time v = let s = upload words in decided_on (given s date time 20261117 v) (read_statement Required s 0)

abbrev pub is_due : Bool → Result Bool → Bool
is_due expected (refused n p) = false
is_due expected (done due) = cond expected due (not due)

-- with a number or a string for its present value, on 20261117 at 08:00:00
abbrev pub with_number : String → ℤ → ℕ → Result Bool
with_number words mantissa scale = decided words 20261117 80000 (start.number (record { mantissa = mantissa; scale = scale }))

abbrev pub with_text : String → String → Result Bool
with_text words value = decided words 20261117 80000 (start.text (ascii value))

unfoldable pub examples : List Row
examples =
    row "empty file: 18 at 0" (is_refused end_of_file 0 (job ""))
    ∷ row "JOB: 18 at 3" (is_refused end_of_file 3 (job "JOB"))
    ∷ row "JOB t1 RESPONSE \"t1.log\": 18 at 24" (is_refused end_of_file 24 (job "JOB t1 RESPONSE \"t1.log\""))
    ∷ row "the same with ;: one statement" (is_taken_at (0 ∷ []) (job "JOB t1 RESPONSE \"t1.log\";"))
    ∷ row "JOB START RESPONSE \"x\";: 4 at 4" (is_refused unexpected 4 (job "JOB START RESPONSE \"x\";"))
    ∷ row "JOB a RESPONSE \"x: 15 at 15" (is_refused open_string 15 (job "JOB a RESPONSE \"x"))
    ∷ row "a line break in a string: 16 at its opening quote" (is_refused broken_string 15 (job "JOB a RESPONSE \"x\r\ny\";"))
    ∷ row "a lone !: 3" (is_refused no_token 0 (job "! ="))
    ∷ row "a lone /: 3" (is_refused no_token 4 (job "JOB / a"))
    ∷ row "a lone -: 3" (is_refused no_token 0 (job "- 1"))
    ∷ row "1.2.3: 17 at its first byte" (is_refused misshapen 1 (job " 1.2.3"))
    ∷ row "-12:00:00: 17 at the sign" (is_refused misshapen 0 (job "-12:00:00"))
    ∷ row "-0 equals 0" (same_number (number_of (ascii "-0")) (number_of (ascii "0")))
    ∷ row "-0: 0, scale 0" (reads "-0" (pos 0) 0)
    ∷ row "0.000000000000000: 0, scale 15" (reads "0.000000000000000" (pos 0) 15)
    ∷ row "9999999999999999: 10^16 - 1, scale 0" (reads "9999999999999999" (pos 9999999999999999) 0)
    ∷ row "-9999999999999999: 1 - 10^16, scale 0" (reads "-9999999999999999" (neg_ℤ (pos 9999999999999999)) 0)
    ∷ row "-1234567890.123456: the same digits, scale 6" (reads "-1234567890.123456" (neg_ℤ (pos 1234567890123456)) 6)
    ∷ row "17 digits: 17" (is_refused misshapen 0 (job "12345678901234567"))
    ∷ row "17 digits with a point: 17" (is_refused misshapen 0 (job "1234567890.1234567"))
    ∷ row "UPLOAD without a start clause: 4 at its ;" (is_refused unexpected 37 (job "JOB a RESPONSE \"x\"; UPLOAD \"f\" ACTIVE;"))
    ∷ row "the same by the earlier setting: taken" (is_taken_at (0 ∷ 20 ∷ []) (job_as_before "JOB a RESPONSE \"x\"; UPLOAD \"f\" ACTIVE;"))
    ∷ row "DOWNLOAD without a start clause: 4 at its ;" (is_refused unexpected 34 (job "JOB a RESPONSE \"x\"; DOWNLOAD \"f\" p;"))
    ∷ row "cut off before the clause: 18 at the end" (is_refused end_of_file 37 (job "JOB a RESPONSE \"x\"; UPLOAD \"f\" ACTIVE"))
    ∷ row "the same by the earlier setting: 18 at the end" (is_refused end_of_file 37 (job_as_before "JOB a RESPONSE \"x\"; UPLOAD \"f\" ACTIVE"))
    ∷ row "UPLOAD with START IMMEDIATE: taken" (is_taken_at (0 ∷ 20 ∷ []) (job "JOB a RESPONSE \"x\"; UPLOAD \"f\" ACTIVE START IMMEDIATE;"))
    ∷ row "GETINFO has no start clause: taken" (is_taken_at (0 ∷ 20 ∷ []) (job "JOB a RESPONSE \"x\"; GETINFO \"f\";"))
    ∷ row "START IMMEDIATE: due" (is_due true (with_number "IMMEDIATE" (pos 0) 0))
    ∷ row "TIME>= 08:00:00 at 08:00:00 of the day: due" (is_due true (decided "TIME>= 08:00:00" 20261117 80000 (start.text [])))
    ∷ row "at 07:59:59: not due" (is_due false (decided "TIME>= 08:00:00" 20261117 75959 (start.text [])))
    ∷ row "on the next day at 00:00:00: due" (is_due true (decided "TIME>= 08:00:00" 20261118 0 (start.text [])))
    ∷ row "the clock set back by a day: not due" (is_due false (decided "TIME>= 08:00:00" 20261116 235959 (start.text [])))
    ∷ row "with a date of its own: not due on the day before" (is_due false (decided "TIME>= 08:00:00 20261118" 20261117 235959 (start.text [])))
    ∷ row "with a date of its own: due after it, at an earlier time" (is_due true (decided "TIME>= 08:00:00 20261115" 20261116 70000 (start.text [])))
    ∷ row "2.50 equals 2.5" (is_due true (with_number "p = 2.50" (pos 25) 1))
    ∷ row "and is not unequal" (is_due false (with_number "p != 2.50" (pos 25) 1))
    ∷ row "-0.00 equals 0" (is_due true (with_number "p = -0.00" (pos 0) 0))
    ∷ row "9999999999999999 > 9.999999999999999" (is_due true (with_number "p > 9.999999999999999" (pos 9999999999999999) 0))
    ∷ row "-9999999999999999 < -9.999999999999999" (is_due true (with_number "p < -9.999999999999999" (neg_ℤ (pos 9999999999999999)) 0))
    ∷ row "9.999999999999999 < 10" (is_due true (with_number "p < 10" (pos 9999999999999999) 15))
    ∷ row "-9.999999999999999 <= -10: not due" (is_due false (with_number "p <= -10" (neg_ℤ (pos 9999999999999999)) 15))
    ∷ row "strings by their bytes" (is_due true (with_text "p = \"mould 7\"" "mould 7") && is_due true (with_text "p != \"mould 7\"" "mould 72"))
    ∷ row "an order between strings: 19" (is_refused not_comparable 0 (with_text "p < \"b\"" "a"))
    ∷ row "a number against a string: 19" (is_refused not_comparable 0 (with_number "p = \"1\"" (pos 1) 0))
    ∷ row "a value of 17 digits: 7, before 19" (is_refused not_a_record 0 (with_number "p = \"1\"" (pos 10000000000000000) 0))
    ∷ row "a value of scale 16: 7" (is_refused not_a_record 0 (with_number "p = 1" (pos 1) 16))
    ∷ row "a quote in a value: 7" (is_refused not_a_record 0 (with_text "p = \"a\"" "a\""))
    ∷ row "24:00:00 at present: 5, before 7" (is_refused not_real 0 (decided "p = 1" 20261117 240000 (start.text (ascii "a\""))))
    ∷ row "taken up on 20260229: 5, also where the clause is IMMEDIATE"
    (is_refused not_real 0 (decision (given [] 20261117 80000 20260229 (start.text [])) immediate))
    ∷ row "PROCESSED, n 1, empty text: 43 bytes" (eqb (record_length Processed) 43)
    ∷ row "ERROR: 51" (eqb (record_length (Error 6 16)) 51)
    ∷ row "ERROR, n 200, a text of 255 bytes: 308" (eqb (length (record_bytes (content 200 (Error 99 99999999) (replicate 255 116) 20240430 235959))) 308)
    ∷ row "n 65: taken" (is_taken (record_read commands (numbered "65")))
    ∷ row "n 65 before a reader up to 64: 7" (is_refused not_a_record 0 (record_read older_commands (numbered "65")))
    ∷ row "n 64 before that reader: taken" (is_taken (record_read older_commands (numbered "64")))
    ∷ row "n 200: taken" (is_taken (record_read commands (numbered "200")))
    ∷ row "n 201: 7" (is_refused not_a_record 0 (record_read commands (numbered "201")))
    ∷ row "n 1000: 7" (is_refused not_a_record 0 (record_read commands (numbered "1000")))
    ∷ row "n 0200: 7" (is_refused not_a_record 0 (record_read commands (numbered "0200")))
    ∷ row "date 20240431: refused" (not (real_date 20240431))
    ∷ row "20240430: taken" (real_date 20240430)
    ∷ row "19970229: refused" (not (real_date 19970229))
    ∷ row "19970228: taken" (real_date 19970228)
    ∷ row "19000229: refused" (not (real_date 19000229))
    ∷ row "20000229: taken" (real_date 20000229)
    ∷ row "00000229: taken" (real_date 229)
    ∷ row "20240229: taken" (real_date 20240229)
    ∷ row "20240230: refused" (not (real_date 20240230))
    ∷ row "1998 divides by 2 alone: 19980229 refused" (not (real_date 19980229))
    ∷ row "2004 divides by 4 and not by 8: 20040229 taken" (real_date 20040229)
    ∷ row "1800 divides by 200 and not by 400: 18000229 refused" (not (real_date 18000229))
    ∷ row "time 24:00:00: refused" (not (real_time 240000))
    ∷ row "23:59:59: taken" (real_time 235959)
    ∷ row "SESS0032.REQ with MaxSessions 32: 11" (is_refused out_of_range 0 (name_read 32 (ascii "SESS0032.REQ")))
    ∷ row "SESS0031.REQ: taken" (is_taken (name_read 32 (ascii "SESS0031.REQ")))
    ∷ row "a report of one name" (is_told 1 0 (0 ∷ 1 ∷ []) (report "a\r\n"))
    ∷ row "a string may hold the delimiter" (is_told 2 1 (0 ∷ 1 ∷ 2 ∷ 1 ∷ 5 ∷ 1 ∷ 7 ∷ 5 ∷ []) (report "a,b\r\n1,\"x,y\"\r\n"))
    ∷ row "-0, 007 and 2.50 come back as they were" (is_written_again "a\r\n-0\r\n007\r\n2.50\r\n" (report "a\r\n-0\r\n007\r\n2.50\r\n"))
    ∷ row "empty file: 7 at 0" (is_refused not_a_record 0 (report ""))
    ∷ row "a reserved word as a name: 7 at 0" (is_refused not_a_record 0 (report "a,TIME\r\n"))
    ∷ row "one value less: 7 at the line's start" (is_refused not_a_record 10 (report "a,b\r\n1,2\r\n3\r\n"))
    ∷ row "no CR LF at the end: 7 at the line's start" (is_refused not_a_record 5 (report "a,b\r\n1,2"))
    ∷ row "an empty line: 7 at its start" (is_refused not_a_record 3 (report "a\r\n\r\n"))
    ∷ row "a time is no value: 7 at the line's start" (is_refused not_a_record 3 (report "a\r\n10:16:30\r\n"))
    ∷ row "a colon is no delimiter: 11" (is_refused out_of_range 0 (read_report 58 (ascii "a\r\n") 16))
    ∷ row "room for one cell of two: 8" (is_refused too_little_room 0 (read_report 44 (ascii "a,b\r\n") 3))
    ∷ []

-- every row holds
unfoldable pub all_hold : List Row → Bool
all_hold [] = true
all_hold (r ∷ rs) = r.holds && all_hold rs
