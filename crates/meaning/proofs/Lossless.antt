-- The paper's value of a statement loses nothing: it gives the statement back.
use Prim.Native.Nat.{ℕ, ◌+◌, ◌-◌}
use mathlib.Core.Path.{◌≡◌, refl, sym, ◌∙◌, ap, ap₂}
use native.Mathlib.Omega.{arith}
use Rattle.std.specs.declared.option.Option.TheVariants.{Some, None}
use Rattle.token.specs.declared.Operator.{Operator}
use Rattle.token.specs.declared.Operator.TheVariants.{Equal, NotEqual, Above, Below, AtLeast, AtMost}
use Rattle.grammar.specs.Statement as read
use Rattle.item.specs.Tokens.{paper_operator}
use Rattle.statement.specs.declared.Part.{Part}
use Rattle.statement.specs.declared.Source.{Source}
use Rattle.statement.specs.declared.Source.TheVariants.{Active, File, Name}
use Rattle.statement.specs.declared.Operand.{Operand}
use Rattle.statement.specs.declared.Operand.TheVariants.{Number, Text}
use Rattle.statement.specs.declared.Start.{Start}
use Rattle.statement.specs.declared.Start.TheVariants.{Immediate, At, When}
use Rattle.statement.specs.declared.Aborted.TheVariants.{Report, Event}
use Rattle.statement.specs.declared.Statement.{Statement}
use Rattle.statement.specs.declared.Statement.TheVariants.{Job, Upload, Download, GetInfo, Abort}
use Rattle.meaning.specs.Paper.{paper_name, paper_source, paper_value, paper_start, paper_statement}
use Rattle.statement.specs.Statement.{condition}

part : read.Name → Part
part n = record { place = n.place; length = n.end - n.place }

source : read.Source → Source
source read.active = Active
source (read.file quote) = File quote
source (read.named n) = Name (part n)

operator : read.Operator → Operator
operator read.equal = Equal
operator read.not_equal = NotEqual
operator read.above = Above
operator read.below = Below
operator read.at_least = AtLeast
operator read.at_most = AtMost

operand : read.Value → Operand
operand (read.number n) = Number (record { mantissa = n.mantissa; scale = n.scale })
operand (read.text quote) = Text quote

start : read.Start → Start
start read.immediate = Immediate
start (read.at_time time) = At time None
start (read.at_time_on time date) = At time (Some date)
start (read.when n o v) = condition (part n) (operator o) (operand v)

statement : read.Statement → Statement
statement (read.job n response) = Job (part n) response
statement (read.upload file x y) = Upload file (source x) (start y)
statement (read.download file x y) = Download file (source x) (start y)
statement (read.getinfo file) = GetInfo file
statement (read.abort_report n) = Abort Report (part n)
statement (read.abort_event n) = Abort Event (part n)

part_back : (p : Part) → part (paper_name p) ≡ p
unfolding part
part_back p = let e : p.place + p.length - p.place ≡ p.length = omega arith in ap (λ (n : ℕ). record { place = p.place; length = n }) e

source_back : (x : Source) → source (paper_source x) ≡ x
unfolding source
source_back Active = refl
source_back (File quote) = refl
source_back (Name p) = ap Name (part_back p)

-- the operator comes back
operator_back : (o : Operator) → operator (paper_operator o) ≡ o
unfolding operator
operator_back Equal = refl
operator_back NotEqual = refl
operator_back Above = refl
operator_back Below = refl
operator_back AtLeast = refl
operator_back AtMost = refl

operand_back : (v : Operand) → operand (paper_value v) ≡ v
unfolding operand
operand_back (Number n) = refl
operand_back (Text quote) = refl

start_back : (y : Start) → start (paper_start y) ≡ y
unfolding start
start_back Immediate = refl
start_back (At time None) = refl
start_back (At time (Some date)) = refl
start_back (When c) = rw (part_back c.name, operator_back c.operator, operand_back c.operand)

statement_back : (x : Statement) → statement (paper_statement x) ≡ x
unfolding statement
statement_back (Job n response) = ap (λ (p : Part). Job p response) (part_back n)
statement_back (Upload file x y) = ap₂ (Upload file) (source_back x) (start_back y)
statement_back (Download file x y) = ap₂ (Download file) (source_back x) (start_back y)
statement_back (GetInfo file) = refl
statement_back (Abort Report n) = ap (Abort Report) (part_back n)
statement_back (Abort Event n) = ap (Abort Event) (part_back n)

pub one_statement : (x y : Statement) → paper_statement x ≡ paper_statement y → x ≡ y
one_statement x y e = sym (statement_back x) ∙ ap statement e ∙ statement_back y
