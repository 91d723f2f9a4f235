-- Every starred example of document 01 holds, and so do those of P1, P2, P3, P4, P6 and P7: one computed test over the whole table.
use mathlib.Core.Path.{◌≡◌, refl}
use mathlib.Core.Bool.{true}
use mathlib.Core.List.Memᴰ
use mathlib.Core.List.{List, [], ◌∷◌, Memᴰ}
use mathlib.Core.Logic.{⊎_elim}
use Rattle.laws.proofs.Choose.{and_left, and_right}
use Rattle.field.specs.Bytes.{same, has_at}
use Rattle.field.specs.Part.{part}
use Rattle.decimal.specs.Digits.{digits, value, all_digits, width_from, plain_width, plain}
use Rattle.decimal.specs.Read.{digits_read}
use Rattle.scan.specs.Run.{run, run_end, blank, blank_end}
use Rattle.word.specs.Word.{which_word, word_read}
use Rattle.token.specs.Token.{string_at, is_text_at, content_at, is_time_at, is_number_at, shaped_at, numeric_at, sign_at, token_at, next_token}
use Rattle.item.specs.Tokens.{number_class, date_number, time_number, item_of, next_item, line_from, line}
use Rattle.item.specs.Items.{numbered, item_at}
use Rattle.grammar.specs.Reading.{read}
use Rattle.statement.specs.Statement.{read_within, read_from, statement_of}
use Rattle.job.specs.Job.{read_job}
use Rattle.job.specs.Statement.{read_statement}
use Rattle.start.specs.Decision.{number_holds, is_permitted, condition_refusal, all_real, due_refusal, decision}
use Rattle.number.specs.Number.{digits_of, scale_of, number_of}
use Rattle.labelled.specs.Labelled.{field_after}
use Rattle.moment.specs.Moment.{real_moment, moment_bytes, at_or_after}
use Rattle.moment.specs.Reading.{time_after, moment_after}
use Rattle.record.specs.Record.{is_text, record_bytes}
use Rattle.record_read.specs.Reading.{number_in, error_read, outcome_read, rest_read, record_at, record_read}
use Rattle.calendar.specs.Calendar.{february_length, month_length, real_date, real_time}
use Rattle.session_name.specs.Name.{kind_read, number_read, name_read}
use Rattle.delimited.specs.Separators.{separator_at}
use Rattle.report.specs.Reading.{name_at, figures_at, numeral_at, string_end, value_at, field_at, cell_at, fields_from, line_at, lines_from, judged, cells_from, read_report}
use Rattle.report_write.specs.Writing.{is_field, is_cell, are_lines, text_from, may_write, write_refusal, written}
use Rattle.claims.specs.Examples.{Row, examples, all_hold}

-- The one test. A row that leans on a new word has the word added to this line.
pub examples_hold : all_hold examples ≡ true
unfolding examples all_hold february_length month_length real_date real_time part same has_at digits value all_digits width_from plain_width plain digits_read kind_read number_read name_read run run_end blank blank_end string_at is_text_at is_time_at is_number_at shaped_at numeric_at sign_at token_at next_token which_word word_read number_class date_number time_number item_of next_item line_from line read read_job digits_of scale_of number_of moment_bytes record_bytes separator_at name_at figures_at numeral_at string_end value_at field_at cell_at fields_from line_at lines_from judged cells_from read_report is_field is_cell are_lines text_from may_write write_refusal written content_at numbered item_at read_within read_from statement_of read_statement real_moment at_or_after is_text number_holds is_permitted condition_refusal all_real due_refusal decision field_after time_after moment_after number_in error_read outcome_read rest_read record_at record_read
examples_hold = refl

-- so each row holds
each_of : (rows : List Row) → all_hold rows ≡ true → (r : Row) → Memᴰ r rows → r.holds ≡ true
unfolding all_hold
each_of [] h r m = absurd (Memᴰ.not-nil m)
each_of (x ∷ xs) h r m =
    ⊎_elim (λ e. rw e (and_left x.holds (all_hold xs) h)) (λ n. each_of xs (and_right x.holds (all_hold xs) h) r n) (Memᴰ.cases_cons m)

pub each_example : (r : Row) → Memᴰ r examples → r.holds ≡ true
each_example = each_of examples examples_hold
