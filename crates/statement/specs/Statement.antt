-- What a statement reads as (document 01, "The job grammar"): along the points of the grammar's table, where each token adds something to what
-- is held of the statement. The bytes s are those of the file from the place base on, and places are counted from the file's start. Need not be
-- believed: what the productions read is read so (`meaning`), and it is refused where 01's rows say (`job_claims`).
use Rattle.std.specs.Prelude.{ℕ, zero, suc, Bool, true, false, cond, not, ◌&&◌, ◌||◌, List, [], ◌∷◌, eqb}
use Rattle.std.specs.declared.result.Result.{Result as Returned}
use Rattle.std.specs.declared.option.Option.TheVariants.{Some, None}
use Rattle.counts.specs.Refusals.{unexpected, not_real}
use Rattle.counts.specs.Result.{Result, refused, done as whole, paper}
use Rattle.counts.specs.declared.Refusal.{Refusal}
use Rattle.token.specs.declared.Operator.{Operator}
use Rattle.grammar.specs.declared.StartClause.{StartClause}
use Rattle.grammar.specs.declared.StartClause.TheVariants.{Required, Optional}
use Rattle.grammar.specs.Grammar.{Class, Point, Edge, Each, no_clause, next, step, class_no, is_point}
use Rattle.grammar.specs.Grammar.Class.{number, date, unreal_date, time, unreal_time}
use Rattle.grammar.specs.Grammar.Point.{first, between, statement, job_name, job_response, job_file, move_file, move_source, move_start, start_kind, start_time, start_date, start_operator, start_value, info_file, abort_kind, abort_name, ending, done, dead}
use Rattle.item.specs.Items.{code_no, refusal_no, item_at}
use Rattle.item.specs.declared.Item.{Item}
use Rattle.statement.specs.declared.Part.{Part}
use Rattle.statement.specs.declared.Source.{Source}
use Rattle.statement.specs.declared.Source.TheVariants.{Active, File, Name}
use Rattle.statement.specs.declared.Operand.{Operand}
use Rattle.statement.specs.declared.Operand.TheVariants.{Number, Text}
use Rattle.statement.specs.declared.Start.{Start}
use Rattle.statement.specs.declared.Start.TheVariants.{Immediate, At, When}
use Rattle.statement.specs.declared.Aborted.{Aborted}
use Rattle.statement.specs.declared.Aborted.TheVariants.{Report, Event}
use Rattle.statement.specs.declared.Statement.{Statement}
use Rattle.statement.specs.declared.Statement.TheVariants.{Job, Upload, Download, GetInfo, Abort}
use Rattle.statement.specs.declared.Transfer.{Transfer}

-- a statement and the place after its `;`, or the refusal
abbrev pub StatementRead : Type 0
StatementRead = Result (Statement × ℕ)

-- the paper's value of each answer
abbrev pub paper_read : Returned (Statement × ℕ) Refusal → StatementRead
paper_read = paper (λ r. r)

-- ---- what is refused

-- "A token's place is its first byte"
abbrev pub refuse : ℕ → Item → StatementRead
refuse n t = refused n t.place

-- what may not stand: the end of the file, no token, or a token
abbrev pub unexpected_at : Item → StatementRead
unexpected_at t = refuse (refusal_no (code_no t.class)) t

-- the class may stand at the point
abbrev pub may : Point → Class → Bool
may q c = not (is_point (step q c) dead)

-- a token whose class may not stand at the point; 5: "right shape of time or date where one may stand, but not a real one"
abbrev pub otherwise : Point → Item → StatementRead
otherwise q t =
    cond (may q time && eqb (code_no t.class) (class_no unreal_time)) (refuse not_real t)
    (cond (may q date && eqb (code_no t.class) (class_no unreal_date)) (refuse not_real t) (unexpected_at t))

-- ---- what is held

abbrev pub part_of : Item → Part
part_of t = record { place = t.place; length = t.length }

-- a number, also of eight bare digits
abbrev pub is_number_no : ℕ → Bool
is_number_no c = eqb c (class_no number) || eqb c (class_no date) || eqb c (class_no unreal_date)

abbrev pub condition : Part → Operator → Operand → Start
condition n o v = When (record { name = n; operator = o; operand = v })

-- an UPLOAD or a DOWNLOAD, with its start clause
abbrev pub transferred : Transfer → Start → Statement
transferred m start = cond m.download (Download m.file m.source start) (Upload m.file m.source start)

abbrev pub transfer : Bool → ℕ → Source → Transfer
transfer down file source = record { download = down; file = file; source = source }

-- what the tokens before a point have given, of a statement that is not whole
abbrev pub Begun : Point → Type 0
Begun first = Unit {0}
Begun (between clause) = Unit {0}
Begun (statement clause) = Unit {0}
Begun job_name = Unit {0}
Begun job_response = Part
Begun job_file = Part
Begun (move_file clause) = Bool
Begun (move_source clause) = Bool × ℕ
Begun (move_start clause) = Transfer
Begun start_kind = Transfer
Begun start_time = Transfer
Begun start_date = Transfer × ℕ
Begun start_operator = Transfer × Part
Begun start_value = Transfer × Part × Operator
Begun info_file = Unit {0}
Begun abort_kind = Unit {0}
Begun abort_name = Aborted
Begun ending = Statement
Begun done = Unit {0}
Begun dead = Unit {0}

-- after its `;` it is whole
abbrev pub Held : Point → Type 0
Held q = cond (is_point q done) Statement (Begun q)

-- what a token adds on its way along an edge
abbrev pub Adds : Point → Edge → Type 0
Adds q e = Item → Held q → Held e.to

-- a number or a string, as the last of a condition
abbrev valued : (Item → Operand) → Item → Transfer × Part × Operator → Statement
valued v t (m, n, o) = transferred m (condition n o (v t))

-- "A missing clause reads as START IMMEDIATE", where it may be missing
abbrev adds_no_clause : (clause : StartClause) → Each (Adds (move_start clause)) (no_clause clause)
adds_no_clause Required = tt
adds_no_clause Optional = (λ t m. transferred m Immediate, tt)

-- in the order of the edges of `next`
abbrev pub adds : (q : Point) → Each (Adds q) (next q)
adds first = (λ t h. tt, tt)
-- false for UPLOAD, true for DOWNLOAD
adds (between clause) = (λ t h. false, (λ t h. true, (λ t h. tt, (λ t h. tt, tt))))
adds (statement clause) = (λ t h. tt, (λ t h. false, (λ t h. true, (λ t h. tt, (λ t h. tt, tt)))))
-- JOB, name, RESPONSE, file spec.
adds job_name = (λ t h. part_of t, tt)
adds job_response = (λ t n. n, tt)
adds job_file = (λ t n. Job n t.place, tt)
-- UPLOAD or DOWNLOAD, file spec, then ACTIVE or a file spec or a name, then an optional start clause.
adds (move_file clause) = (λ t down. (down, t.place), tt)
adds (move_source clause) = (
  λ t h. transfer h.0 h.1 Active,
  (λ t h. transfer h.0 h.1 (File t.place), (λ t h. transfer h.0 h.1 (Name (part_of t)), tt)),
)
adds (move_start clause) = (λ t m. m, adds_no_clause clause)
-- START IMMEDIATE; START TIME>= time with an optional date; START name, operator, then number or string.
adds start_kind = (λ t m. transferred m Immediate, (λ t m. m, (λ t m. (m, part_of t), tt)))
adds start_time = (λ t m. (m, t.value), tt)
adds start_date = (λ t h. transferred h.0 (At h.1 (Some t.value)), (λ t h. transferred h.0 (At h.1 None), tt))
adds start_operator = (λ t h. (h.0, h.1, t.operator), tt)
adds start_value = (
  valued (λ t. Number t.number),
  (valued (λ t. Number t.number), (valued (λ t. Number t.number), (valued (λ t. Text t.place), tt))),
)
-- GETINFO, file spec.
adds info_file = (λ t h. GetInfo t.place, tt)
-- ABORT, then REPORT or EVENT, then a name.
adds abort_kind = (λ t h. Report, (λ t h. Event, tt))
adds abort_name = (λ t what. Abort what (part_of t), tt)
adds ending = (λ t x. x, tt)
adds done = tt
adds dead = tt

-- ---- the reading

-- along the edge of the token's class, or else what is refused
abbrev pub pick : (q : Point) (es : List Edge) → Each (Adds q) es → Item → Held q → ((p : Point) → Held p → StatementRead) → StatementRead → StatementRead
pick q [] ws t h k r = r
pick q (e ∷ es) ws t h k r = cond (eqb (code_no t.class) (class_no e.class)) (k e.to (ws.0 t h)) (pick q es ws.1 t h k r)

-- the token t at the point q, and the rest by k
abbrev pub on_item : (q : Point) → Held q → Item → ((p : Point) → Held p → StatementRead) → StatementRead
on_item q h t k = pick q (next q) (adds q) t h k (otherwise q t)

-- a statement is whole after its `;`
abbrev pub or_whole : (A : Type 0) (b : Bool) → cond b Statement A → ℕ → StatementRead → StatementRead
or_whole A true x at r = whole (x, at)
or_whole A false h at r = r

module _ (base : ℕ) (s : List ℕ) where
  -- the rest of a statement from the point q on, of at most n tokens
  unfoldable pub read_within : ℕ → (q : Point) → Held q → ℕ → StatementRead
  read_within zero q h at = or_whole (Begun q) (is_point q done) h at (refuse unexpected (item_at base s at))
  read_within (suc n) q h at =
      or_whole (Begun q) (is_point q done) h at (on_item q h (item_at base s at) (λ p k. read_within n p k (item_at base s at).next))

  -- a statement has at most 8 tokens
  unfoldable pub read_from : (q : Point) → Held q → ℕ → StatementRead
  read_from q h at = read_within 8 q h at

  -- a statement of any kind, from its first token on
  unfoldable pub statement_of : StartClause → Item → StatementRead
  statement_of clause t = on_item (statement clause) tt t (λ p k. read_from p k t.next)
