-- A start clause and a parameter's present value, from the numbers that the header gives them. What is none of its kinds gets a number that 01 does not permit.
use Rattle.std.specs.Prelude.{ℕ, cond, ◌&&◌, eqb, leb, ℤ, pos}
use Rattle.std.specs.declared.option.Option.{Option}
use Rattle.std.specs.declared.option.Option.TheVariants.{Some, None}
use Rattle.counts.specs.Limits.{number_digits}
use Rattle.number.specs.declared.Number.{Number as NumberRead}
use Rattle.token.specs.declared.Operator.{Operator}
use Rattle.token.specs.declared.Operator.TheVariants.{Equal, NotEqual, Above, Below, AtLeast, AtMost}
use Rattle.statement.specs.declared.Operand.{Operand}
use Rattle.statement.specs.declared.Operand.TheVariants.{Number, Text}
use Rattle.statement.specs.declared.Start.{Start}
use Rattle.statement.specs.declared.Start.TheVariants.{Immediate, At, When}
use Rattle.start.specs.declared.Present.{Present}
use Rattle.start.specs.declared.Present.TheVariants as present
use Rattle.c_numbers.specs.Statements.{no_part}

abbrev pub number_given : ℕ → ℤ → NumberRead
number_given scale mantissa = record { mantissa = mantissa; scale = scale }

-- no digit before the point
abbrev pub unpermitted : NumberRead
unpermitted = number_given number_digits (pos 0)

-- "= != > < >= <=": the last four
abbrev pub order_given : ℕ → Operator
order_given o = cond (eqb o 3) Above (cond (eqb o 4) Below (cond (eqb o 5) AtLeast AtMost))

abbrev pub operator_given : ℕ → Operator
operator_given o = cond (eqb o 1) Equal (cond (eqb o 2) NotEqual (order_given o))

-- "then number or string"
abbrev pub operand_given : (kind quote scale : ℕ) → ℤ → Operand
operand_given kind quote scale mantissa =
    cond (eqb kind 1) (Number (number_given scale mantissa)) (cond (eqb kind 2) (Text quote) (Number unpermitted))

-- "with an optional date": 0 is no real date
abbrev pub day_given : ℕ → Option ℕ
day_given date = cond (eqb date 0) None (Some date)

abbrev pub condition_of : Operator → Operand → Start
condition_of o x = When (record { name = no_part; operator = o; operand = x })

abbrev pub condition_given : ℕ → Operand → Start
condition_given o x = cond (leb 1 o && leb o 6) (condition_of (operator_given o) x) (condition_of Equal (Number unpermitted))

-- "A start clause is one of three"
abbrev pub start_given : (kind time date operator : ℕ) → Operand → Start
start_given kind time date o x =
    cond (eqb kind 1) Immediate (cond (eqb kind 2) (At time (day_given date)) (cond (eqb kind 3) (condition_given o x) (condition_given 0 x)))

abbrev pub present_given : (kind scale : ℕ) → ℤ → Present
present_given kind scale mantissa =
    cond (eqb kind 1) (present.Number (number_given scale mantissa)) (cond (eqb kind 2) present.Text (present.Number unpermitted))
