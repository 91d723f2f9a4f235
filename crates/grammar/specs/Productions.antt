-- The productions of document 01 as they stand there, with the setting of document 02's P7: each takes tokens, and gives what they read as.
use Rattle.std.specs.Prelude.{ℕ, ◌≤◌, ◌≡◌, List, [], ◌∷◌, ◌++◌, pos, length}
use Rattle.counts.specs.Limits.{statements}
use Rattle.grammar.specs.declared.StartClause.{StartClause}
use Rattle.grammar.specs.declared.StartClause.TheVariants.{Optional}
use Rattle.grammar.specs.Grammar.{Class}
use Rattle.grammar.specs.Grammar.Class.{JOB, RESPONSE, UPLOAD, DOWNLOAD, GETINFO, ABORT, REPORT, EVENT, START, ACTIVE, IMMEDIATE, name, TIME≥, number, date, unreal_date, time, string, operator, semicolon}
use Rattle.grammar.specs.Statement as read
use Rattle.grammar.specs.Statement.{Statement}

-- What a token says beside its class: a time as hhmmss or a date as yyyymmdd; what a number reads as; which operator it is.
pub record Said : Type 0 where
  pub moment : ℕ
  pub number : read.Number
  pub operator : read.Operator

-- what a token says that is no time, number or operator
abbrev pub unsaid : Said
unsaid = record { moment = 0; number = record { mantissa = pos 0; scale = 0 }; operator = read.equal }

-- A token: its class, the place of its first byte, the place after its last, and what it says.
pub record Placed : Type 0 where
  pub class : Class
  pub place : ℕ
  pub end : ℕ
  pub said : Said

abbrev pub Is : Class → Placed → Type 0
Is c t = t.class ≡ c

abbrev pub name_at : Placed → read.Name
name_at t = record { place = t.place; end = t.end }

-- "number or string" (eight digits are a number too, a real date or not)
pub data Value (t : Placed) : read.Value → Type 0 where
  plain : Is number t → Value t (read.number t.said.number)
  digits : Is date t → Value t (read.number t.said.number)
  unreal_digits : Is unreal_date t → Value t (read.number t.said.number)
  quoted : Is string t → Value t (read.text t.place)

-- "A start clause is one of three: START IMMEDIATE; START `TIME>=` time with an optional date; START name, operator, then number or string.
-- A missing clause reads as START IMMEDIATE"; P7: "A missing clause shall now be refused. Callers .. may ask for the earlier reading by a setting
-- given with the call".
pub data Start (clause : StartClause) : List Placed → read.Start → Type 0 where
  missing : clause ≡ Optional → Start clause [] read.immediate
  immediate : {k i : Placed} → Is START k → Is IMMEDIATE i → Start clause (k ∷ i ∷ []) read.immediate
  at_time : {k g t : Placed} → Is START k → Is TIME≥ g → Is time t → Start clause (k ∷ g ∷ t ∷ []) (read.at_time t.said.moment)
  at_time_on : {k g t d : Placed} → Is START k → Is TIME≥ g → Is time t → Is date d
      → Start clause (k ∷ g ∷ t ∷ d ∷ []) (read.at_time_on t.said.moment d.said.moment)
  when : {k n o v : Placed} {x : read.Value} → Is START k → Is name n → Is operator o → Value v x
      → Start clause (k ∷ n ∷ o ∷ v ∷ []) (read.when (name_at n) o.said.operator x)

-- "ACTIVE or a file spec or a name"
pub data Source (t : Placed) : read.Source → Type 0 where
  active : Is ACTIVE t → Source t read.active
  file : Is string t → Source t (read.file t.place)
  program : Is name t → Source t (read.named (name_at t))

-- "JOB, name, RESPONSE, file spec."
pub data Job : List Placed → Statement → Type 0 where
  job : {k n r f : Placed} → Is JOB k → Is name n → Is RESPONSE r → Is string f → Job (k ∷ n ∷ r ∷ f ∷ []) (read.job (name_at n) f.place)

-- a statement that is no JOB
pub data Other (clause : StartClause) : List Placed → Statement → Type 0 where
  -- "UPLOAD or DOWNLOAD, file spec, then ACTIVE or a file spec or a name, then an optional start clause."
  upload : {k f t : Placed} {c : List Placed} {x : read.Source} {y : read.Start} → Is UPLOAD k → Is string f → Source t x → Start clause c y
      → Other clause (k ∷ f ∷ t ∷ c) (read.upload f.place x y)
  download : {k f t : Placed} {c : List Placed} {x : read.Source} {y : read.Start} → Is DOWNLOAD k → Is string f → Source t x → Start clause c y
      → Other clause (k ∷ f ∷ t ∷ c) (read.download f.place x y)
  -- "GETINFO, file spec."
  getinfo : {k f : Placed} → Is GETINFO k → Is string f → Other clause (k ∷ f ∷ []) (read.getinfo f.place)
  -- "ABORT, then REPORT or EVENT, then a name."
  abort_report : {k w n : Placed} → Is ABORT k → Is REPORT w → Is name n → Other clause (k ∷ w ∷ n ∷ []) (read.abort_report (name_at n))
  abort_event : {k w n : Placed} → Is ABORT k → Is EVENT w → Is name n → Other clause (k ∷ w ∷ n ∷ []) (read.abort_event (name_at n))

-- a statement of any kind
pub data Any (clause : StartClause) : List Placed → Statement → Type 0 where
  the_job : {k : List Placed} {x : Statement} → Job k x → Any clause k x
  another : {k : List Placed} {x : Statement} → Other clause k x → Any clause k x

-- "each ended by `;`"
pub data Ended (Body : List Placed → Statement → Type 0) : List Placed → Statement → Type 0 where
  ended : {k : List Placed} {x : Statement} (e : Placed) → Body k x → Is semicolon e → Ended Body (k ++ (e ∷ [])) x

abbrev pub classes : List Placed → List Class
classes [] = []
classes (t ∷ ts) = t.class ∷ classes ts

-- statements that are no JOB: the places where they begin, and what they read as
pub data Others (clause : StartClause) : List Placed → List ℕ → List Statement → Type 0 where
  none : Others clause [] [] []
  more : {t : Placed} {a b : List Placed} {x : Statement} {os : List ℕ} {xs : List Statement} → Ended (Other clause) (t ∷ a) x → Others clause b os xs
      → Others clause (t ∷ (a ++ b)) (t.place ∷ os) (x ∷ xs)

-- a file: "the first JOB and no other"
pub data File (clause : StartClause) : List Placed → List ℕ → List Statement → Type 0 where
  file : {t : Placed} {a b : List Placed} {x : Statement} {os : List ℕ} {xs : List Statement} → Ended Job (t ∷ a) x → Others clause b os xs
      → File clause (t ∷ (a ++ b)) (t.place ∷ os) (x ∷ xs)

-- "A file is 1 to 64 statements", with P6 1 to 200: the tokens ts are a legal file whose statements begin at os.
pub record Legal (clause : StartClause) (ts : List Placed) (os : List ℕ) : Type 0 where
  pub reads : List Statement
  pub file : File clause ts os reads
  pub few : length os ≤ statements

-- some legal file begins with the tokens a
abbrev pub Begins : StartClause → List Placed → Type 0
Begins clause a = (r : List Placed) × (os : List ℕ) × Legal clause (a ++ r) os
