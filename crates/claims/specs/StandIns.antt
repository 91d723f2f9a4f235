-- The stand-ins that document 01 has us try ("How much a contract says"). Each is every function that does what the sentence says, with what it
-- answers left free: none keeps the demand, and there is one that does so.
use Rattle.std.specs.Prelude.{ℕ, ◌≤◌, ◌<◌, ◌≡◌, true, List, [], ◌∷◌, ◌++◌, length}
use Rattle.counts.specs.Limits.{sessions}
use Rattle.counts.specs.Result.{Result, refused, done}
use Rattle.sessions.specs.History.{Call, to_place, to_collect, Event, placed, answered, collected, written, accepted, collections}
use Rattle.sessions.specs.Runs.{history_of, never_anew}
use Rattle.sessions.specs.Table.{numbered, records}
use Rattle.sessions.specs.declared.Answer.{Answer}
use Rattle.session_table.specs.Calls.{fresh_bytes}
use Rattle.session_histories.specs.Steps.{Step, step_bytes, bytes_after}
use Rattle.grammar.specs.declared.StartClause.{StartClause}
use Rattle.statement.specs.declared.Statement.{Statement}
use Rattle.job.specs.declared.StatementAt.{StatementAt}
use Rattle.table_sound.specs.Bytes.{abs}
use Rattle.claims.specs.StatementRows.{StatementRow}
use Rattle.claims.specs.TableRows.{PlaceRow, TakeUpRow, CollectRow}
use Rattle.claims.specs.Demands.{Reader, Reads, Demand3}

-- refused, with whatever number and place
abbrev pub IsRefused : {A : Type 0} → Result A → Type 0
IsRefused x = (number : ℕ) × (place : ℕ) × (x ≡ refused number place)

-- ---- the calls of the table

-- table, program, count
abbrev pub PlaceCall : Type 0
PlaceCall = List ℕ → ℕ → ℕ → Result (ℕ × ℕ) × List ℕ

abbrev pub TakeUpCall : Type 0
TakeUpCall = List ℕ → Result (ℕ × ℕ × ℕ) × List ℕ

-- table, program, ticket, room
abbrev pub CollectCall : Type 0
CollectCall = List ℕ → ℕ → ℕ → ℕ → Result (List ℕ) × List ℕ

-- "A place, take-up or collect call that always refuses"
abbrev pub PlaceRefuses : PlaceCall → Type 0
PlaceRefuses f = (b : List ℕ) (p n : ℕ) → IsRefused (f b p n).0

abbrev pub TakeUpRefuses : TakeUpCall → Type 0
TakeUpRefuses f = (b : List ℕ) → IsRefused (f b).0

abbrev pub CollectRefuses : CollectCall → Type 0
CollectRefuses f = (b : List ℕ) (p t room : ℕ) → IsRefused (f b p t room).0

-- ---- tables: `fresh` makes one, and `step` answers a call and leaves bytes

-- In the history h a placing by program p gave ticket t for as many commands as there are answers; these were accepted since for commands 1, 2, ..
-- in order, the last command's among them; and nothing was collected.
pub record Request (h : List Event) (p t : ℕ) (answers : List Answer) : Type 0 where
  pub number : ℕ
  pub later : List Event
  pub earlier : List Event
  pub was_placed : h ≡ later ++ (placed p (length answers) (done (number, t)) ∷ earlier)
  pub so_far : accepted t later ≡ numbered 1 answers
  pub last : Answer
  pub newer : List Event
  pub older : List Event
  pub last_answered : later ≡ newer ++ (answered t (length answers) last (done tt) ∷ older)
  pub not_collected : collections t later ≡ []

-- some calls on a fresh table, none making it anew
pub record Run : Type 0 where
  pub max : ℕ
  pub low : 1 ≤ max
  pub high : max ≤ sessions
  pub calls : List Call
  pub kept : never_anew calls ≡ true

module _ (fresh : ℕ → List ℕ) (step : Step) where
  abbrev pub bytes_by : Run → List ℕ
  bytes_by r = bytes_after (fresh r.max) step r.calls

  abbrev pub history_by : Run → List Event
  history_by r = history_of (fresh r.max) step r.calls

-- It says that it accepts: after some calls program p's request under ticket t is answered whole with these answers, and after others with those, and
-- their records differ in length.
pub record SaysAccepted (fresh : ℕ → List ℕ) (step : Step) (p t : ℕ) : Type 0 where
  pub these : List Answer
  pub those : List Answer
  pub run : Run
  pub other : Run
  pub one_max : run.max ≡ other.max
  pub so : Request (history_by fresh step run) p t these
  pub or_so : Request (history_by fresh step other) p t those
  pub they_differ : length (records (numbered 1 these)) ≡ length (records (numbered 1 those)) → ⊥

-- "A table that does nothing"
abbrev pub DoesNothing : Step → Type 0
DoesNothing step = (b : List ℕ) (c : Call) → (step b c).1 ≡ b

-- its placings are answered as demand 1 has it
abbrev pub PlacesByRows : Step → Type 0
PlacesByRows step = (b : List ℕ) (p n : ℕ) → (v : Result (ℕ × ℕ)) × PlaceRow b (abs b) p n v × ((step b (to_place p n)).0 ≡ placed p n v)

-- "One that serves the first session and invents later ones": after some calls it handed over under a later ticket what was not accepted for it
pub record Invented (fresh : ℕ → List ℕ) (step : Step) : Type 0 where
  pub run : Run
  pub later : List Event
  pub earlier : List Event
  pub program : ℕ
  pub ticket : ℕ
  pub a_later_one : 1 < ticket
  pub output : List ℕ
  pub length_given : ℕ
  pub exit : List ℕ
  pub was_collected : history_by fresh step run ≡ later ++ (collected program ticket output (done length_given) exit ∷ earlier)
  pub not_so : exit ≡ written output (records (accepted ticket earlier)) → ⊥

-- or all that it hands over under later tickets, length and output, is made up from what the caller shows
abbrev pub Invents : Step → (ℕ → ℕ → List ℕ → ℕ × List ℕ) → Type 0
Invents step invented =
    (b : List ℕ) (p t : ℕ) (out : List ℕ) (n : ℕ) (exit : List ℕ) → 1 < t → (step b (to_collect p t out)).0 ≡ collected p t out (done n) exit
    → ◌≡◌ {A = ℕ × List ℕ} (n, exit) (invented p t out)

-- "a made-up command count": after some calls a request of n commands, of which k are answered, is handed over
pub record HandsOver (fresh : ℕ → List ℕ) (step : Step) (n k : ℕ) : Type 0 where
  pub run : Run
  pub later : List Event
  pub earlier : List Event
  pub program : ℕ
  pub number : ℕ
  pub ticket : ℕ
  pub was_placed : history_by fresh step run ≡ later ++ (placed program n (done (number, ticket)) ∷ earlier)
  pub k_answered : length (accepted ticket (history_by fresh step run)) ≡ k
  pub output : List ℕ
  pub length_given : ℕ
  pub exit : List ℕ
  pub given : (step (bytes_by fresh step run) (to_collect program ticket output)).0 ≡ collected program ticket output (done length_given) exit

-- or one that is answered whole is held back
pub record HoldsBack (fresh : ℕ → List ℕ) (step : Step) (answers : List Answer) : Type 0 where
  pub run : Run
  pub program : ℕ
  pub ticket : ℕ
  pub whole : Request (history_by fresh step run) program ticket answers
  pub output : List ℕ
  pub enough : length (records (numbered 1 answers)) ≤ length output
  pub number : ℕ
  pub place : ℕ
  pub exit : List ℕ
  pub kept : (step (bytes_by fresh step run) (to_collect program ticket output)).0 ≡ collected program ticket output (refused number place) exit

-- ---- readers of job files

-- "A reader that refuses everything"
abbrev pub ReaderRefuses : Reader → Type 0
ReaderRefuses f = (file offsets : List ℕ) → IsRefused (f file offsets).0

-- "or gives one constant reading": nothing in the file has a say
abbrev pub OneReading : Reader → (List ℕ → Result ℕ × List ℕ) → Type 0
OneReading f given = (file offsets : List ℕ) → f file offsets ≡ given offsets

-- "A made-up statement count": where a file is taken, the count is made up from how long it is and what the table holds
abbrev pub MakesUpCount : Reader → (ℕ → List ℕ → ℕ) → Type 0
MakesUpCount f madeUp = (file offsets : List ℕ) (n : ℕ) → (f file offsets).0 ≡ done n → n ≡ madeUp (length file) offsets

-- ---- readers of one statement: file, offset

abbrev pub StatementReader : Type 0
StatementReader = (file : List ℕ) (at : ℕ) → Result StatementAt

abbrev pub ReadsStatements : StartClause → StatementReader → Type 0
ReadsStatements clause f = (file : List ℕ) (at : ℕ) → StatementRow clause file at (f file at)

abbrev pub StatementRefuses : StatementReader → Type 0
StatementRefuses f = (file : List ℕ) (at : ℕ) → IsRefused (f file at)

-- where it reads a statement, it is always the same one, wherever it stands
abbrev pub OneStatement : StatementReader → Statement → Type 0
OneStatement f x = (file : List ℕ) (at : ℕ) (y : StatementAt) → f file at ≡ done y → y.statement ≡ x

-- ---- no stand-in keeps the demand

pub record Refuted : Type 0 where
  -- "A reader that refuses everything, or gives one constant reading, breaks demand 2."
  pub reader_must_take : (clause : StartClause) (f : Reader) → Reads clause f → ReaderRefuses f → ⊥
  pub reader_must_look : (clause : StartClause) (f : Reader) → Reads clause f → (given : List ℕ → Result ℕ × List ℕ) → OneReading f given → ⊥
  pub statement_must_be_read : (clause : StartClause) (f : StatementReader) → ReadsStatements clause f → StatementRefuses f → ⊥
  pub statement_must_look : (clause : StartClause) (f : StatementReader) → ReadsStatements clause f → (x : Statement) → OneStatement f x → ⊥
  -- "A place, take-up or collect call that always refuses breaks demand 1, since each refusal comes only under its stated condition."
  pub place_must_take : (f : PlaceCall) → ((b : List ℕ) (p n : ℕ) → PlaceRow b (abs b) p n (f b p n).0) → PlaceRefuses f → ⊥
  pub take_up_must_give : (f : TakeUpCall) → ((b : List ℕ) → TakeUpRow b (abs b) (f b).0) → TakeUpRefuses f → ⊥
  pub collect_must_give : (f : CollectCall) → ((b : List ℕ) (p t room : ℕ) → CollectRow b (abs b) p t room (f b p t room).0) → CollectRefuses f → ⊥
  -- "A table that does nothing never closes a session and breaks demand 3's duty to hand over the reply.": not even if it says that it accepts; and
  -- where it answers as demand 1 has it, it gives one number twice
  pub table_must_hand_over : (fresh : ℕ → List ℕ) (step : Step) → Demand3 fresh step → DoesNothing step → (p t : ℕ) → SaysAccepted fresh step p t → ⊥
  pub table_must_do : (step : Step) → Demand3 fresh_bytes step → DoesNothing step → PlacesByRows step → ⊥
  -- "One that serves the first session and invents later ones breaks demand 3, which speaks of every reply."
  pub later_is_accepted : (fresh : ℕ → List ℕ) (step : Step) → Demand3 fresh step → Invented fresh step → ⊥
  pub later_not_invented : (fresh : ℕ → List ℕ) (step : Step) → Demand3 fresh step → (invented : ℕ → ℕ → List ℕ → ℕ × List ℕ) → Invents step invented
      → (p t : ℕ) → 1 < t → SaysAccepted fresh step p t → ⊥
  -- "A made-up statement count breaks the grammar's reading"
  pub statements_not_made_up : (clause : StartClause) (f : Reader) → Reads clause f → (madeUp : ℕ → List ℕ → ℕ) → MakesUpCount f madeUp → ⊥
  -- "a made-up command count breaks demand 3"
  pub commands_not_made_up : (fresh : ℕ → List ℕ) (step : Step) → Demand3 fresh step → (n k : ℕ) → (n ≡ k → ⊥) → HandsOver fresh step n k → ⊥
  pub commands_not_held_back : (fresh : ℕ → List ℕ) (step : Step) → Demand3 fresh step → (answers : List Answer) → HoldsBack fresh step answers → ⊥

-- ---- and each is one that there is

pub record Exhibited : Type 0 where
  pub a_reader_refuses : (f : Reader) × ReaderRefuses f
  pub a_reader_gives_one : (f : Reader) × (given : List ℕ → Result ℕ × List ℕ) × OneReading f given
  pub a_statement_reader_refuses : (f : StatementReader) × StatementRefuses f
  pub a_statement_reader_gives_one : (f : StatementReader) × (x : Statement) × OneStatement f x
  pub a_place_refuses : (f : PlaceCall) × PlaceRefuses f
  pub a_take_up_refuses : (f : TakeUpCall) × TakeUpRefuses f
  pub a_collect_refuses : (f : CollectCall) × CollectRefuses f
  pub a_table_does_nothing : (fresh : ℕ → List ℕ) × (step : Step) × DoesNothing step × SaysAccepted fresh step 1 1
  pub a_table_only_answers : (step : Step) × DoesNothing step × PlacesByRows step
  pub a_table_invented : (step : Step) × Invented fresh_bytes step
  pub a_table_invents : (step : Step) × (invented : ℕ → ℕ → List ℕ → ℕ × List ℕ) × Invents step invented × SaysAccepted fresh_bytes step 2 2
  pub a_reader_makes_up : (f : Reader) × (madeUp : ℕ → List ℕ → ℕ) × MakesUpCount f madeUp
  pub a_table_makes_up : (step : Step) × HandsOver fresh_bytes step 2 1
  pub a_table_holds_back : (step : Step) × (answers : List Answer) × HoldsBack fresh_bytes step answers
  -- saying that it accepts makes no stand-in: the table that keeps demand 3 says so too
  pub this_table_accepts : SaysAccepted fresh_bytes step_bytes 2 2
