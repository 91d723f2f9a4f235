-- The classes of token; and the points of a statement (document 01, "The job grammar"): for each, the classes that may stand there, each with
-- the point after it.
use Rattle.std.specs.Prelude.{ℕ, Bool, cond, List, [], ◌∷◌, eqb}
use Rattle.grammar.specs.declared.StartClause.{StartClause}
use Rattle.grammar.specs.declared.StartClause.TheVariants.{Required, Optional}

-- The classes of token. `reserved` is STOP, TIME or NEVER, which no production takes. `date` and `unreal_date` are numbers of eight bare
-- digits, and `time` and `unreal_time` have a time's shape: the first of each is a real one.
pub data Class : Type 0 where
  JOB RESPONSE UPLOAD DOWNLOAD GETINFO ABORT REPORT EVENT START ACTIVE IMMEDIATE reserved : Class
  name TIME≥ number date unreal_date time unreal_time string operator semicolon : Class

-- ---- Need not be believed: the points. `proofs/Points` shows that they are the productions.

-- Before a file's first statement, before a later one, before one of any kind; within a statement; after its ; and after a token
-- that may not stand. Those from which a start clause is still to come have the setting.
pub data Point : Type 0 where
  first : Point
  between statement : StartClause → Point
  job_name job_response job_file : Point
  move_file move_source move_start : StartClause → Point
  start_kind start_time start_date start_operator start_value info_file abort_kind abort_name ending done dead : Point

-- a class that may stand, and the point after it
pub record Edge : Type 0 where
  pub class : Class
  pub to : Point

abbrev pub on : Class → Point → List Edge → List Edge
on c q es = record { class = c; to = q } ∷ es

-- something of each edge
abbrev pub Each : (Edge → Type 0) → List Edge → Type 0
Each P [] = Unit {0}
Each P (e ∷ es) = P e × Each P es

-- a statement that is no JOB
abbrev pub others : StartClause → List Edge
others clause = on UPLOAD (move_file clause) (on DOWNLOAD (move_file clause) (on GETINFO info_file (on ABORT abort_kind [])))

-- what ends a statement where its start clause would begin: nothing where the clause must stand
abbrev pub no_clause : StartClause → List Edge
no_clause Required = []
no_clause Optional = on semicolon done []

abbrev pub next : Point → List Edge
-- the first JOB and no other
next first = on JOB job_name []
next (between clause) = others clause
next (statement clause) = on JOB job_name (others clause)
-- JOB, name, RESPONSE, file spec.
next job_name = on name job_response []
next job_response = on RESPONSE job_file []
next job_file = on string ending []
-- UPLOAD or DOWNLOAD, file spec, then ACTIVE or a file spec or a name, then an optional start clause.
next (move_file clause) = on string (move_source clause) []
next (move_source clause) = on ACTIVE (move_start clause) (on string (move_start clause) (on name (move_start clause) []))
next (move_start clause) = on START start_kind (no_clause clause)
-- START IMMEDIATE; START TIME>= time with an optional date; START name, operator, then number or string.
next start_kind = on IMMEDIATE ending (on TIME≥ start_time (on name start_operator []))
next start_time = on time start_date []
next start_date = on date ending (on semicolon done [])
next start_operator = on operator start_value []
next start_value = on number ending (on date ending (on unreal_date ending (on string ending [])))
-- GETINFO, file spec.
next info_file = on string ending []
-- ABORT, then REPORT or EVENT, then a name.
next abort_kind = on REPORT abort_name (on EVENT abort_name [])
next abort_name = on name ending []
-- each ended by ;
next ending = on semicolon done []
next done = []
next dead = []

-- classes and points by number, in the order above, to tell them apart; a point has one number with either setting
abbrev pub class_no : Class → ℕ
class_no JOB = 0
class_no RESPONSE = 1
class_no UPLOAD = 2
class_no DOWNLOAD = 3
class_no GETINFO = 4
class_no ABORT = 5
class_no REPORT = 6
class_no EVENT = 7
class_no START = 8
class_no ACTIVE = 9
class_no IMMEDIATE = 10
class_no reserved = 11
class_no name = 12
class_no TIME≥ = 13
class_no number = 14
class_no date = 15
class_no unreal_date = 16
class_no time = 17
class_no unreal_time = 18
class_no string = 19
class_no operator = 20
class_no semicolon = 21

abbrev pub point_no : Point → ℕ
point_no first = 0
point_no (between clause) = 1
point_no (statement clause) = 2
point_no job_name = 3
point_no job_response = 4
point_no job_file = 5
point_no (move_file clause) = 6
point_no (move_source clause) = 7
point_no (move_start clause) = 8
point_no start_kind = 9
point_no start_time = 10
point_no start_date = 11
point_no start_operator = 12
point_no start_value = 13
point_no info_file = 14
point_no abort_kind = 15
point_no abort_name = 16
point_no ending = 17
point_no done = 18
point_no dead = 19

abbrev pub is_class : Class → Class → Bool
is_class c d = eqb (class_no c) (class_no d)

abbrev pub is_point : Point → Point → Bool
is_point p q = eqb (point_no p) (point_no q)

-- where the class leads
abbrev pub look : Class → List Edge → Point
look c [] = dead
look c (e ∷ es) = cond (is_class c e.class) e.to (look c es)

abbrev pub step : Point → Class → Point
step q c = look c (next q)

abbrev pub walk : Point → List Class → Point
walk q [] = q
walk q (c ∷ cs) = walk (step q c) cs

-- ---- times and dates by their shape

-- a real one of the same shape
abbrev pub shape : Class → Class
shape c = cond (is_class c unreal_time) time (cond (is_class c unreal_date) date c)
