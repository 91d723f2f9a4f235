-- A clause that was told as the header's numbers and is handed back as them is decided as it was read.
use Prim.Native.Nat.{ℕ}
use mathlib.Core.Path.{◌≡◌, refl, ap}
use borrow.Author.Tests.{ne_eqb}
use Rattle.token.specs.declared.Operator.{Operator}
use Rattle.token.specs.declared.Operator.TheVariants.{Equal, NotEqual, Above, Below, AtLeast, AtMost}
use Rattle.statement.specs.declared.Part.{Part}
use Rattle.std.specs.declared.option.Option.TheVariants.{Some, None}
use Rattle.statement.specs.declared.Operand.{Operand}
use Rattle.statement.specs.declared.Operand.TheVariants.{Number, Text}
use Rattle.statement.specs.declared.Start.{Start}
use Rattle.statement.specs.declared.Start.TheVariants.{Immediate, At, When}
use Rattle.meaning.specs.Paper.{paper_start}
use Rattle.start.specs.Due.{Given}
use Rattle.start.specs.Decision.{all_real, due_refusal, decision}
use Rattle.c_numbers.specs.Statements.{start_fields}
use Rattle.c_numbers.specs.Starts.{operand_given, start_given}
use Rattle.c_numbers.specs.declared.statements.StartFields.{StartFields}

-- the clause of the fields as they are handed back
abbrev handed : StartFields → Start
handed f = start_given f.kind f.time f.date f.operator (operand_given f.operand f.quote f.scale f.mantissa)

-- no decision looks at the name of the parameter
condition_handed : (g : Given) (n : Part) (o : Operator) (x : Operand)
    → decision g (paper_start (handed (start_fields (When (record { name = n; operator = o; operand = x })))))
    ≡ decision g (paper_start (When (record { name = n; operator = o; operand = x })))
unfolding decision due_refusal all_real
condition_handed g n Equal (Number k) = refl
condition_handed g n Equal (Text quote) = refl
condition_handed g n NotEqual (Number k) = refl
condition_handed g n NotEqual (Text quote) = refl
condition_handed g n Above (Number k) = refl
condition_handed g n Above (Text quote) = refl
condition_handed g n Below (Number k) = refl
condition_handed g n Below (Text quote) = refl
condition_handed g n AtLeast (Number k) = refl
condition_handed g n AtLeast (Text quote) = refl
condition_handed g n AtMost (Number k) = refl
condition_handed g n AtMost (Text quote) = refl

-- The fields that C is told of a clause, handed back, are decided as that clause is. A date of a clause that was read is real, and so not 0, which stands
-- for none.
pub handed_on : (g : Given) (x : Start) → ((time : ℕ) → x ≡ At time (Some 0) → ⊥) → decision g (paper_start (handed (start_fields x))) ≡ decision g (paper_start x)
handed_on g Immediate f = refl
handed_on g (At time None) f = refl
handed_on g (At time (Some date)) f =
    rw (ne_eqb date 0 (λ e. f time (ap (λ (d : ℕ). At time (Some d)) e)))
handed_on g (When c) f = condition_handed g c.name c.operator c.operand
