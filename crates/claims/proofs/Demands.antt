-- The first two demands hold, and so do the requests of document 02 that the page has, from the crates below; the third demand is in `Demand3`.
use Prim.Native.Nat.{ℕ}
use mathlib.Core.Path.{◌≡◌, refl, sym, ap, ◌∙◌}
use mathlib.Core.Bool.{Bool, true, false, cond}
use mathlib.Core.List.{List, []}
use native.Mathlib.Nat.{zero-add}
use native.Mathlib.Omega.{arith}
use lib.Dec.{eqb}
use lib.ListN.{length}
use Rattle.counts.specs.Limits.{commands, sessions}
use Rattle.counts.proofs.Results.{passed, refused_not_done}
use Rattle.counts.specs.Result.{Result, refused, done}
use Rattle.field.specs.Part.{put}
use Rattle.field.proofs.Put.{put_eq}
use Rattle.session_name.specs.Name as name
use Rattle.session_name.specs.declared.Kind.{Kind}
use Rattle.session_name.proofs.RoundTrip as names
use Rattle.record.specs.Record.{Content, record_bytes}
use Rattle.record_read.specs.Reading.{record_read, content_of, with_text, text_of}
use Rattle.record.specs.Writing as writing
use Rattle.record_read.specs.declared.Record.{Record}
use Rattle.record_read.proofs.RoundTrip as records
use Rattle.grammar.specs.declared.StartClause.{StartClause}
use Rattle.grammar.specs.Reading.{OffsetsRead as Reading}
use Rattle.item.proofs.Lines.{tokens_at}
use Rattle.item.proofs.Moments.{date_says, no_other_date, time_says}
use Rattle.item.proofs.Spelled.{in_file_exactly}
use Rattle.job.specs.Job.{read_job, filled}
use Rattle.job.specs.Statement.{text_at}
use Rattle.job_claims.proofs.Claims.{judged, only, taken_exactly, one_exactly, two_exactly, three_exactly, fifteen_exactly, sixteen_exactly, seventeen_exactly, four_exactly, eighteen_exactly, five_exactly, six_exactly, statements_exactly, one_reading, end_is_last}
use Rattle.job_claims.proofs.Determined.{one_job_answer, one_statement_answer}
use Rattle.job_claims.proofs.Statements.{reading_exactly}
use Rattle.job_claims.proofs.Clauses.{stricter_is_taken, stricter_is_read, clause_is_all, first_is_named, clause_missing, clause_cut, statement_missing, statement_is_named}
use Rattle.job_claims.proofs.Hands.{job_tells, statement_tells, end_exactly, no_token_begins, one_hand}
use Rattle.meaning.proofs.Lossless.{one_statement}
use Rattle.number.proofs.Numerals.{numeral_reads, minus_zero}
use Rattle.item.proofs.NumberTokens.{number_token_exactly, number_is_small}
use Rattle.item.proofs.NoTokens.{stray_exactly, open_string_exactly, broken_string_exactly, misshapen_exactly}
use Rattle.item.proofs.NoStrings.{end_after_255, end_after_256, forbidden_after_255}
use Rattle.token.specs.Token.{WholeString, is_text_at, content_at}
use Rattle.token.proofs.Whole.{whole_string_exactly, string_token_exactly}
use Rattle.start.proofs.Compares.{one_of_three, not_below_and_equal, not_below_and_above, not_equal_and_above, at_least_is, at_most_is, transitive, zeros_change_nothing, ten_times_both}
use Rattle.start.proofs.Permits.{number_exactly, text_exactly}
use Rattle.start.proofs.Decides.{is_due_exactly, due_exactly, due_stays}
use Rattle.start.proofs.Says.{decision_says_all}
use Rattle.report.specs.Report.{Told}
use Rattle.report.specs.Answer as report
use Rattle.report_write.specs.Writing as reportWriting
use Rattle.report_claims.proofs.Read.{read_report_exactly, break_exactly}
use Rattle.report_claims.proofs.Write.{write_report_exactly}
use Rattle.report_claims.proofs.RoundTrip.{read_exactly, one_report, report_parts, rows_to_text_to_rows, text_to_rows_to_text}
use Rattle.report_claims.proofs.Says as reports
use Rattle.session_table.specs.Calls.{making, made_bytes, collected_out}
use Rattle.session_table.proofs.Untouched.{answering_changes_nothing_else}
use Rattle.session_histories.proofs.Does.{place_does, take_does, answer_does, collect_does, keeps}
use Rattle.session_histories.proofs.Fresh.{fresh_bytes_lem}
use Rattle.sessions.proofs.Laws.{in_range_lem}
use Rattle.sessions.specs.Table.{within, fresh}
use Rattle.table_sound.specs.Bytes.{abs}
use Rattle.claims.specs.Demands.{Demand1, Demand2, MissingClause, Hands, Reports, Starts, StoredDates}
use Rattle.claims.proofs.Demand1.{one_result}
use Rattle.claims.proofs.Demand1Names.{read_name_exactly, write_name_exactly, refused_write_changes_nothing, read_name_determined, write_name_determined}
use Rattle.claims.proofs.Demand1Records.{read_record_exactly, write_record_exactly, refused_record_changes_nothing, read_record_determined, write_record_determined}
use Rattle.claims.proofs.Demand1Statements.{read_statement_exactly}
use Rattle.claims.proofs.Fits.{read_name_fits, write_name_fits, read_record_fits, write_record_fits, read_job_fits, read_statement_fits, is_due_fits, read_report_fits, write_report_fits, make_fits, place_fits, take_up_fits, answer_fits, collect_fits}
use Rattle.claims.proofs.Demand1Table.{make_exactly, place_exactly, take_up_exactly, answer_exactly, collect_exactly}
use Rattle.claims.proofs.StandInReaders.{settings_differ}
use Rattle.claims.proofs.Starts.{read_in_order}
use Rattle.claims.proofs.StoredDates.{unreal_date_is_unsound, unsound_is_refused}
use Rattle.claims.proofs.Demand1TableResults.{make_refused_keeps, place_refused_keeps, take_up_refused_keeps, answer_refused_keeps, collect_refused_keeps, make_determined, place_determined, take_up_determined, answer_determined, collect_determined}

-- ---- demand 1

made_fresh : (b : List ℕ) (max : ℕ) → making b max ≡ done tt → abs (made_bytes b max) ≡ fresh max
unfolding making made_bytes
made_fresh b max e =
    let (range, rest) = passed (within 1 max sessions) _ _ _ e in
    let r = in_range_lem 1 max sessions range in
    rw e (fresh_bytes_lem max r.0 r.1)

-- a writer that finds no refusal
wrote : (k n m : ℕ) (bytes out : List ℕ) → cond {A = Result ℕ} (eqb k 0) (done n) (refused k 0) ≡ done m → cond (eqb k 0) bytes out ≡ bytes
wrote k n m bytes out e = rw (passed (eqb k 0) _ _ _ e).0

name_stands : (max n k : ℕ) (kind : Kind) (out : List ℕ) → name.written max n out ≡ done k → name.written_bytes max n kind out ≡ put out 0 (name.name_of n kind)
unfolding name.written name.written_bytes
name_stands max n k kind out = wrote (name.write_refusal max n (length out)) _ k _ out

record_stands : (c : Content) (out : List ℕ) (k : ℕ) → writing.written commands c out ≡ done k → writing.written_bytes commands c out ≡ put out 0 (record_bytes c)
unfolding writing.written writing.written_bytes
record_stands c out k = wrote (writing.write_refusal commands c (length out)) _ k _ out

offsets_stand : (clause : StartClause) (file offsets os : List ℕ) → let x = read_job clause file (length offsets) in
    x ≡ done os → filled x offsets ≡ put offsets 0 os
offsets_stand clause file offsets os e =
    let fits = ((taken_exactly clause file (length offsets) os).0 e).fits in
    rw e (sym (put_eq offsets 0 os (omega (arith, fits)) ∙ rw zero-add))

pub demand_1 : Demand1
unfolding collected_out
demand_1 =
    record {
      reads_name = read_name_exactly;
      writes_name = λ max n kind out. record { answers = write_name_exactly max n out; refusal_leaves = refused_write_changes_nothing max n kind out };
      reads_record = read_record_exactly commands (omega arith);
      writes_record = λ c out. record { answers = write_record_exactly commands c out; refusal_leaves = refused_record_changes_nothing commands c out };
      reads_job = λ clause file offsets.
          record {
            answers = (judged clause file (length offsets), only clause file (length offsets));
            refusal_leaves = λ number place e. ap (λ (x : Reading). filled x offsets) e;
          };
      reads_statement = read_statement_exactly;
      decides = is_due_exactly;
      reads_report = λ d file cells. record {
        answers = read_report_exactly d file (length cells);
        refusal_leaves = λ number place e. ap (λ (x : Result Told). report.filled x cells) e;
      };
      writes_report = λ source cells many d out. record {
        answers = write_report_exactly source cells many d (length out);
        refusal_leaves = λ number place e. ap (λ (x : Result (List ℕ)). reportWriting.filled x out) e;
      };
      makes = λ b max. record { answers = make_exactly b max; refusal_leaves = make_refused_keeps b max };
      places = λ b p n. record { answers = place_exactly b p n; refusal_leaves = place_refused_keeps b p n };
      takes_up = λ b. record { answers = take_up_exactly b; refusal_leaves = take_up_refused_keeps b };
      answers = λ b t c a. record { answers = answer_exactly b t c a; refusal_leaves = answer_refused_keeps b t c a };
      collects = λ b p t out.
          record {
            answers = collect_exactly b p t (length out);
            refusal_leaves = λ number place e. let k = collect_refused_keeps b p t out number place e in λ i. (k.0 i, k.1 i);
          };
      fits_read_name = read_name_fits;
      fits_write_name = write_name_fits;
      fits_read_record = read_record_fits commands;
      fits_write_record = write_record_fits commands;
      fits_read_job = read_job_fits;
      fits_read_statement = read_statement_fits;
      fits_is_due = is_due_fits;
      fits_read_report = read_report_fits;
      fits_write_report = write_report_fits;
      fits_make = make_fits;
      fits_place = λ b. place_fits b (abs b);
      fits_take_up = λ b. take_up_fits b (abs b);
      fits_answer = λ b. answer_fits b (abs b);
      fits_collect = λ b. collect_fits b (abs b);
      one_read_name = read_name_determined;
      one_written_name = write_name_determined;
      one_read_record = read_record_determined;
      one_written_record = write_record_determined;
      one_job = one_result one_job_answer;
      one_statement = one_result one_statement_answer;
      one_decision = one_result decision_says_all;
      one_read_report = one_result reports.read_says_all;
      one_written_report = one_result reports.write_says_all;
      one_made = make_determined;
      one_placed = place_determined;
      one_taken_up = take_up_determined;
      one_answered = answer_determined;
      one_collected = collect_determined;
      table_size = omega arith;
      makes_fresh = made_fresh;
      place_leaves = λ b p n e. place_does b e p n;
      take_up_leaves = λ b e. take_does b e;
      answer_leaves = λ b t c a e. answer_does b e t c a;
      collect_leaves = λ b p t out e. collect_does b e p t out;
      leaves_sound = λ b c e q. keeps b e c;
      report_sized = λ d file room. (λ t e. rw e, λ number place e. rw e);
      offsets_written = offsets_stand;
      cells_written = λ d file cells t e. rw e;
      report_written = λ source cells many d out text e. rw e;
      name_written = name_stands;
      record_written = record_stands;
      reply_written = λ b p t out reply e. rw e;
      answer_changes = answering_changes_nothing_else;
    }

-- ---- demand 2

-- what is shown of a string, and of a record

string_text : (s : List ℕ) (i : ℕ) (c : List ℕ) → WholeString s i c → text_at s i ≡ c
string_text s i c w = let e = (whole_string_exactly s i c).0 w in rw e.0 e.1

no_string : (s : List ℕ) (i : ℕ) → ((c : List ℕ) → WholeString s i c → ⊥) → text_at s i ≡ []
no_string s i none = go (is_text_at s i) refl
  where
    go : (t : Bool) → is_text_at s i ≡ t → cond t (content_at s i) [] ≡ []
    go true e = absurd (none _ ((whole_string_exactly s i (content_at s i)).1 (e, refl)))
    go false e = refl

record_text : (s : List ℕ) (v : Result Record) (c : Content) → with_text s v ≡ done c → text_of s v ≡ c.text
record_text s (done r) c e = let z : content_of s r ≡ c = cc in ap (λ x. x.text) z
record_text s (refused n p) c e = absurd (refused_not_done e)

pub demand_2 : (clause : StartClause) → Demand2 clause
demand_2 clause =
    record {
      verdict = λ file offsets. (read_job clause file (length offsets), judged clause file (length offsets), refl, refl);
      tokens = tokens_at;
      taken = taken_exactly clause;
      statements = statements_exactly clause;
      one_reading = one_reading clause;
      reading = reading_exactly clause;
      one = one_exactly clause;
      three = three_exactly clause;
      fifteen = fifteen_exactly clause;
      sixteen = sixteen_exactly clause;
      seventeen = seventeen_exactly clause;
      six = six_exactly clause;
      five = five_exactly clause;
      four = four_exactly clause;
      eighteen = eighteen_exactly clause;
      two = two_exactly clause;
      end_is_last = λ s p. end_is_last clause s 0 p;
      in_file = in_file_exactly clause;
      one_meaning = one_statement;
      number_token = number_token_exactly;
      number_reads = λ bs minus w f n. numeral_reads n;
      number_is_small = number_is_small;
      minus_zero = λ bs w f n z. minus_zero n z;
      date_says = λ s ys a n l e. let d = date_says s ys a n l e in (d.class, d.value);
      no_other_date = no_other_date;
      time_says = time_says;
      whole_string = whole_string_exactly;
      text_shown = string_text;
      no_text_shown = no_string;
      string_token = string_token_exactly;
      write_then_read = λ c out ok room.
          let e = records.lengths c in
          rw e (records.write_then_read commands (omega arith) c out ok (rw (← e) room));
      read_then_write = records.read_then_write commands;
      record_text_shown =
          λ c ok. let s = record_bytes c in record_text s (record_read commands s) c ((records.read_exactly commands (omega arith) s c).1 (ok, refl));
      no_record_text = λ s number place e. rw e;
      record_length = records.lengths;
      name_write_then_read = names.write_then_read;
      name_read_then_write = names.read_then_write;
    }

-- ---- a missing start clause

pub missing_clause : MissingClause
missing_clause =
    record {
      stricter_is_taken = stricter_is_taken;
      stricter_is_read = stricter_is_read;
      clause_is_all = clause_is_all;
      first_is_named = first_is_named;
      clause_missing = clause_missing;
      clause_cut = clause_cut;
      statement_missing = statement_missing;
      statement_is_named = statement_is_named;
      settings_differ = settings_differ;
    }

-- ---- what is wrong with the token

pub hands : Hands
hands =
    record {
      stray = stray_exactly;
      open_string_token = open_string_exactly;
      broken_string_token = broken_string_exactly;
      misshapen_token = misshapen_exactly;
      end_after_255 = end_after_255;
      end_after_256 = end_after_256;
      forbidden_after_255 = forbidden_after_255;
      job_tells = job_tells;
      statement_tells = statement_tells;
      end_exactly = end_exactly;
      no_token_begins = no_token_begins;
      one_hand = one_hand;
    }

-- ---- report files

pub report_files : Reports
report_files =
    record {
      read_exactly = read_exactly;
      one_report = one_report;
      told_parts = report_parts;
      break_exactly = break_exactly;
      rows_to_text_to_rows = rows_to_text_to_rows;
      text_to_rows_to_text = text_to_rows_to_text;
    }

-- ---- whether to start

pub starts : Starts
starts =
    record {
      due_exactly = due_exactly;
      read_in_order = read_in_order;
      due_stays = due_stays;
      permitted_numbers = number_exactly;
      permitted_strings = text_exactly;
      one_of_three = one_of_three;
      never_two = λ v k. (not_below_and_equal v k, not_below_and_above v k, not_equal_and_above v k);
      at_least = at_least_is;
      at_most = at_most_is;
      not_equal = λ v k. (λ h. h, λ h. h);
      transitive = transitive;
      zeros_change_nothing = zeros_change_nothing;
      ten_times_both = ten_times_both;
    }

-- ---- stored dates

pub stored_dates : StoredDates
stored_dates = record { unreal_date_is_unsound = unreal_date_is_unsound; unsound_is_refused = unsound_is_refused }
