-- No stand-in for a reader keeps the demand that document 01 says it breaks, and there are such readers.
use Prim.Native.Nat.{ℕ, ◌+◌}
use mathlib.Core.Path.{◌≡◌, refl, sym, ap, ◌∙◌}
use mathlib.Core.List.{List, [], ◌∷◌}
use native.Mathlib.Omega.{arith}
use lib.ListN.{length}
use Rattle.counts.specs.Refusals.{unexpected}
use Rattle.counts.specs.Result.{Result, done, counted, refused}
use Rattle.counts.proofs.Results.{refused_not_done, done_same}
use Rattle.field.specs.Bytes.{ascii, same, has_at}
use Rattle.field.specs.Part.{part}
use Rattle.scan.specs.Run.{run, run_end, blank, blank_end}
use Rattle.word.specs.Word.{which_word, word_read}
use Rattle.token.specs.Token.{string_at, is_text_at, is_time_at, is_number_at, shaped_at, numeric_at, sign_at, token_at, next_token}
use Rattle.item.specs.Tokens.{number_class, date_number, time_number, item_of, next_item, line_from, line}
use Rattle.item.specs.Items.{numbered as numbered_item, item_at}
use Rattle.grammar.specs.declared.StartClause.{StartClause}
use Rattle.grammar.specs.declared.StartClause.TheVariants.{Required, Optional}
use Rattle.grammar.specs.Reading.{read, OffsetsRead as Reading}
use Rattle.statement.specs.Statement.{read_within, read_from, statement_of}
use Rattle.statement.specs.declared.Statement.{Statement}
use Rattle.statement.specs.declared.Statement.TheVariants.{Job, GetInfo}
use Rattle.job.specs.Job.{read_job, filled}
use Rattle.job.specs.Statement.{placed as placed_at, read_statement}
use Rattle.job_claims.proofs.Claims.{only}
use Rattle.claims.specs.Demands.{Reader, Reads}
use Rattle.claims.specs.StandIns.{ReaderRefuses, OneReading, MakesUpCount, StatementReader, ReadsStatements, StatementRefuses, OneStatement}
use Rattle.claims.proofs.Demand1Statements.{read_statement_exactly}
use Rattle.job.specs.declared.StatementAt.{StatementAt}

-- ---- readers: two files of one length, with one statement and with two

lone : List ℕ
lone = ascii "JOB a RESPONSE \"x\";            "

pair : List ℕ
pair = ascii "JOB a RESPONSE \"x\";GETINFO \"y\";"

lone_is : (clause : StartClause) → read_job clause lone 2 ≡ done (0 ∷ [])
unfolding lone part same has_at run run_end blank blank_end string_at is_text_at is_time_at is_number_at shaped_at numeric_at sign_at token_at next_token which_word word_read number_class date_number time_number item_of next_item line_from line read read_job
lone_is clause = refl

pair_is : (clause : StartClause) → read_job clause pair 2 ≡ done (0 ∷ 19 ∷ [])
unfolding pair part same has_at run run_end blank blank_end string_at is_text_at is_time_at is_number_at shaped_at numeric_at sign_at token_at next_token which_word word_read number_class date_number time_number item_of next_item line_from line read read_job
pair_is clause = refl

-- a lent table of two places
room : List ℕ
room = 0 ∷ 0 ∷ []

module _ (clause : StartClause) (f : Reader) (meets : Reads clause f) where
  counts : (file : List ℕ) {os : List ℕ} → read_job clause file 2 ≡ done os → (f file room).0 ≡ done (length os)
  unfolding room
  counts file e = let m = meets file room in m.2 ∙ ap counted (sym (only clause file 2 m.0 m.1) ∙ e)

  pub reader_must_take : ReaderRefuses f → ⊥
  reader_must_take never = let r = never lone room in refused_not_done (sym r.2 ∙ counts lone (lone_is clause))

  pub statements_not_made_up : (madeUp : ℕ → List ℕ → ℕ) → MakesUpCount f madeUp → ⊥
  unfolding lone pair
  statements_not_made_up madeUp always =
      let e = always lone room 1 (counts lone (lone_is clause)) ∙ sym (always pair room 2 (counts pair (pair_is clause))) in
      omega arith

  pub reader_must_look : (given : List ℕ → Result ℕ × List ℕ) → OneReading f given → ⊥
  reader_must_look given always =
      let e : (f lone room).0 ≡ (f pair room).0 = ap (λ (r : Result ℕ × List ℕ). r.0) (always lone room ∙ sym (always pair room)) in
      let n : ◌≡◌ {A = Result ℕ} (done 1) (done 2) = sym (counts lone (lone_is clause)) ∙ e ∙ counts pair (pair_is clause) in
      let z : ◌≡◌ {A = ℕ} 1 2 = cc in
      omega arith

-- ---- readers of one statement: two files whose statements differ

info : List ℕ
info = ascii "GETINFO \"y\";"

info_read : (clause : StartClause) (f : StatementReader) → ReadsStatements clause f → f info 0 ≡ read_statement clause info 0
info_read clause f rows = sym ((read_statement_exactly clause info 0).1 (f info 0) (rows info 0))

job_read : (clause : StartClause) (f : StatementReader) → ReadsStatements clause f → f lone 0 ≡ read_statement clause lone 0
job_read clause f rows = sym ((read_statement_exactly clause lone 0).1 (f lone 0) (rows lone 0))

info_is : (clause : StartClause) → (e : ℕ) × read_statement clause info 0 ≡ done (placed_at (GetInfo 8) 0 e)
unfolding info part same has_at run run_end blank blank_end string_at is_text_at is_time_at is_number_at shaped_at numeric_at sign_at token_at next_token which_word word_read number_class date_number time_number numbered_item item_at read_within read_from statement_of read_statement
info_is clause = (_, refl)

job_is : (clause : StartClause) → (e : ℕ) × read_statement clause lone 0 ≡ done (placed_at (Job (record { place = 4; length = 1 }) 15) 0 e)
unfolding lone part same has_at run run_end blank blank_end string_at is_text_at is_time_at is_number_at shaped_at numeric_at sign_at token_at next_token which_word word_read number_class date_number time_number numbered_item item_at read_within read_from statement_of read_statement
job_is clause = (_, refl)

pub statement_must_be_read : (clause : StartClause) (f : StatementReader) → ReadsStatements clause f → StatementRefuses f → ⊥
statement_must_be_read clause f rows never = refused_not_done (sym (never info 0).2 ∙ info_read clause f rows ∙ (info_is clause).1)

pub statement_must_look : (clause : StartClause) (f : StatementReader) → ReadsStatements clause f → (x : Statement) → OneStatement f x → ⊥
statement_must_look clause f rows x always =
    let a = always info 0 _ (info_read clause f rows ∙ (info_is clause).1) in
    let b = always lone 0 _ (job_read clause f rows ∙ (job_is clause).1) in
    let e : GetInfo 8 ≡ Job (record { place = 4; length = 1 }) 15 = a ∙ sym b in
    let z : ◌≡◌ {A = ℕ} 0 1 = cc in
    omega arith

-- ---- a reader that does not hear the setting: a file with a clause missing

bare : List ℕ
bare = ascii "JOB a RESPONSE \"x\";UPLOAD \"u\" b;"

bare_refused : read_job Required bare 2 ≡ refused unexpected 31
unfolding bare part same has_at run run_end blank blank_end string_at is_text_at is_time_at is_number_at shaped_at numeric_at sign_at token_at next_token which_word word_read number_class date_number time_number item_of next_item line_from line read read_job
bare_refused = refl

bare_taken : read_job Optional bare 2 ≡ done (0 ∷ 19 ∷ [])
unfolding bare part same has_at run run_end blank blank_end string_at is_text_at is_time_at is_number_at shaped_at numeric_at sign_at token_at next_token which_word word_read number_class date_number time_number item_of next_item line_from line read read_job
bare_taken = refl

pub settings_differ : (f : Reader) → Reads Required f → Reads Optional f → ⊥
unfolding room
settings_differ f new old =
    let m = new bare room in
    let e : (f bare room).0 ≡ refused unexpected 31 = m.2 ∙ ap counted (sym (only Required bare 2 m.0 m.1) ∙ bare_refused) in
    refused_not_done (sym e ∙ counts Optional f old bare bare_taken)

-- ---- a reader that takes what it should, and says that there is one statement

says_one : Reading → Result ℕ
says_one (done os) = done 1
says_one (refused n p) = refused n p

pub counts_one : Reader
counts_one file offsets = let x = read_job Required file (length offsets) in (says_one x, filled x offsets)

pub makes_up : MakesUpCount counts_one (λ n offsets. 1)
unfolding counts_one says_one
makes_up file offsets n = go (read_job Required file (length offsets))
  where
    go : (x : Reading) → says_one x ≡ done n → n ≡ 1
    go (done os) e = sym (done_same e)
    go (refused k p) e = absurd (refused_not_done e)

-- ---- a reader that finds GETINFO everywhere

pub getinfo : StatementReader
getinfo file at = done (placed_at (GetInfo 0) at (at + 1))

pub only_getinfo : OneStatement getinfo (GetInfo 0)
unfolding getinfo
only_getinfo file at y e = ap (λ (x : StatementAt). x.statement) (sym (done_same e))
