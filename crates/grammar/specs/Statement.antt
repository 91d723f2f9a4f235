-- A statement of a job file in document 01's terms ("The job grammar"). A string is named by the place of its opening quote, a time is hhmmss
-- and a date yyyymmdd.
use Rattle.std.specs.Prelude.{ℕ, ℤ}

-- "Operators `=` `!=` `>` `<` `>=` `<=`"
pub data Operator : Type 0 where
  equal not_equal above below at_least at_most : Operator

-- "a signed whole number of at most 16 digits with the count of digits after the point"
pub record Number : Type 0 where
  pub mantissa : ℤ
  pub scale : ℕ

-- "A name is a word": the place of its first byte, and the place after its last
pub record Name : Type 0 where
  pub place : ℕ
  pub end : ℕ

-- "ACTIVE or a file spec or a name"
pub data Source : Type 0 where
  active : Source
  file : (quote : ℕ) → Source
  named : Name → Source

-- "number or string"
pub data Value : Type 0 where
  number : Number → Value
  text : (quote : ℕ) → Value

-- "A start clause is one of three: START IMMEDIATE; START `TIME>=` time with an optional date; START name, operator, then number or string."
pub data Start : Type 0 where
  immediate : Start
  at_time : (time : ℕ) → Start
  at_time_on : (time date : ℕ) → Start
  when : Name → Operator → Value → Start

pub data Statement : Type 0 where
  -- "JOB, name, RESPONSE, file spec."
  job : Name → (response : ℕ) → Statement
  -- "UPLOAD or DOWNLOAD, file spec, then ACTIVE or a file spec or a name, then an optional start clause."
  upload download : (file : ℕ) → Source → Start → Statement
  -- "GETINFO, file spec."
  getinfo : (file : ℕ) → Statement
  -- "ABORT, then REPORT or EVENT, then a name."
  abort_report abort_event : Name → Statement
