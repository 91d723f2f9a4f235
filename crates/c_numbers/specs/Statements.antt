-- The fields of a statement as numbers, in the order that the header gives. A string is the place of its opening quote, a name has a place
-- and a length, and a field that is not there is 0.
use Rattle.std.specs.Prelude.{ℕ, [], ◌∷◌, pos}
use Rattle.std.specs.declared.option.Option.{Option}
use Rattle.std.specs.declared.option.Option.TheVariants.{Some, None}
use Rattle.token.specs.declared.Operator.{Operator}
use Rattle.token.specs.declared.Operator.TheVariants.{Equal, NotEqual, Above, Below, AtLeast, AtMost}
use Rattle.statement.specs.declared.Part.{Part}
use Rattle.statement.specs.declared.Source.{Source}
use Rattle.statement.specs.declared.Source.TheVariants.{Active, File, Name}
use Rattle.statement.specs.declared.Operand.{Operand}
use Rattle.statement.specs.declared.Operand.TheVariants.{Number, Text}
use Rattle.statement.specs.declared.Condition.{Condition}
use Rattle.statement.specs.declared.Start.{Start}
use Rattle.statement.specs.declared.Start.TheVariants.{Immediate, At, When}
use Rattle.statement.specs.declared.Aborted.{Aborted}
use Rattle.statement.specs.declared.Aborted.TheVariants.{Report, Event}
use Rattle.statement.specs.declared.Statement.{Statement}
use Rattle.statement.specs.declared.Statement.TheVariants.{Job, Upload, Download, GetInfo, Abort}
use Rattle.c_numbers.specs.declared.statements.SourceFields.{SourceFields}
use Rattle.c_numbers.specs.declared.statements.OperandFields.{OperandFields}
use Rattle.c_numbers.specs.declared.statements.StartFields.{StartFields}
use Rattle.c_numbers.specs.declared.statements.StatementNumbers.{StatementNumbers}

-- "ACTIVE or a file spec or a name"
abbrev pub source_fields : Source → SourceFields
source_fields Active = record { kind = 1; quote = 0; place = 0; length = 0 }
source_fields (File quote) = record { kind = 2; quote = quote; place = 0; length = 0 }
source_fields (Name p) = record { kind = 3; quote = 0; place = p.place; length = p.length }

-- "= != > < >= <="
abbrev pub operator_number : Operator → ℕ
operator_number Equal = 1
operator_number NotEqual = 2
operator_number Above = 3
operator_number Below = 4
operator_number AtLeast = 5
operator_number AtMost = 6

-- "then number or string"
abbrev pub operand_fields : Operand → OperandFields
operand_fields (Number n) = record { kind = 1; quote = 0; scale = n.scale; mantissa = n.mantissa }
operand_fields (Text quote) = record { kind = 2; quote = quote; scale = 0; mantissa = pos 0 }

-- "with an optional date": 0 is no real date
abbrev pub day_number : Option ℕ → ℕ
day_number None = 0
day_number (Some date) = date

-- "START name, operator, then number or string"
abbrev pub condition_fields : Condition → StartFields
condition_fields c = record {
  kind = 3;
  time = 0;
  date = 0;
  parameter = c.name.place;
  length = c.name.length;
  operator = operator_number c.operator;
  operand = (operand_fields c.operand).kind;
  quote = (operand_fields c.operand).quote;
  scale = (operand_fields c.operand).scale;
  mantissa = (operand_fields c.operand).mantissa;
}

abbrev pub plain_start : ℕ → ℕ → ℕ → StartFields
plain_start kind time date = record {
  kind = kind;
  time = time;
  date = date;
  parameter = 0;
  length = 0;
  operator = 0;
  operand = 0;
  quote = 0;
  scale = 0;
  mantissa = pos 0;
}

-- "A start clause is one of three"
abbrev pub start_fields : Start → StartFields
start_fields Immediate = plain_start 1 0 0
start_fields (At time day) = plain_start 2 time (day_number day)
start_fields (When c) = condition_fields c

-- "then REPORT or EVENT"
abbrev pub aborted_number : Aborted → ℕ
aborted_number Report = 1
aborted_number Event = 2

-- kind, own offset, place after the ;, file spec, name and its length, what is ended; what is moved; the start clause
abbrev pub numbers : ℕ → ℕ → ℕ → ℕ → Part → ℕ → SourceFields → StartFields → StatementNumbers
numbers kind offset next file name aborted s t =
    record {
      numbers =
          kind ∷
          offset ∷
          next ∷
          file ∷
          name.place ∷
          name.length ∷
          aborted ∷
          s.kind ∷
          s.quote ∷
          s.place ∷
          s.length ∷
          t.kind ∷
          t.time ∷
          t.date ∷
          t.parameter ∷
          t.length ∷
          t.operator ∷
          t.operand ∷
          t.quote ∷
          t.scale ∷
          [];
      mantissa = t.mantissa;
    }

abbrev pub no_part : Part
no_part = record { place = 0; length = 0 }

abbrev pub no_source : SourceFields
no_source = record { kind = 0; quote = 0; place = 0; length = 0 }

abbrev pub moved_numbers : ℕ → ℕ → ℕ → ℕ → Source → Start → StatementNumbers
moved_numbers kind offset next file source start = numbers kind offset next file no_part 0 (source_fields source) (start_fields start)

abbrev pub plain_numbers : ℕ → ℕ → ℕ → ℕ → Part → ℕ → StatementNumbers
plain_numbers kind offset next file name aborted = numbers kind offset next file name aborted no_source (plain_start 0 0 0)

abbrev pub statement_numbers : Statement → ℕ → ℕ → StatementNumbers
statement_numbers (Job name response) offset next = plain_numbers 1 offset next response name 0
statement_numbers (Upload file source start) offset next = moved_numbers 2 offset next file source start
statement_numbers (Download file source start) offset next = moved_numbers 3 offset next file source start
statement_numbers (GetInfo file) offset next = plain_numbers 4 offset next file no_part 0
statement_numbers (Abort what name) offset next = plain_numbers 5 offset next 0 name (aborted_number what)
