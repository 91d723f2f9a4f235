-- Document 01's value of each case of a statement, in the grammar's terms.
use Rattle.std.specs.Prelude.{◌+◌}
use Rattle.std.specs.declared.option.Option.TheVariants.{Some, None}
use Rattle.grammar.specs.Statement as read
use Rattle.item.specs.Tokens.{paper_number, paper_operator}
use Rattle.statement.specs.declared.Part.{Part}
use Rattle.statement.specs.declared.Source.{Source}
use Rattle.statement.specs.declared.Source.TheVariants.{Active, File, Name}
use Rattle.statement.specs.declared.Operand.{Operand}
use Rattle.statement.specs.declared.Operand.TheVariants.{Number, Text}
use Rattle.statement.specs.declared.Start.{Start}
use Rattle.statement.specs.declared.Start.TheVariants.{Immediate, At, When}
use Rattle.statement.specs.declared.Aborted.TheVariants.{Report, Event}
use Rattle.statement.specs.declared.Statement.{Statement}
use Rattle.statement.specs.declared.Statement.TheVariants.{Job, Upload, Download, GetInfo, Abort}

abbrev pub paper_name : Part → read.Name
paper_name p = record { place = p.place; end = p.place + p.length }

abbrev pub paper_source : Source → read.Source
paper_source Active = read.active
paper_source (File quote) = read.file quote
paper_source (Name p) = read.named (paper_name p)

abbrev pub paper_value : Operand → read.Value
paper_value (Number n) = read.number (paper_number n)
paper_value (Text quote) = read.text quote

abbrev pub paper_start : Start → read.Start
paper_start Immediate = read.immediate
paper_start (At time None) = read.at_time time
paper_start (At time (Some date)) = read.at_time_on time date
paper_start (When c) = read.when (paper_name c.name) (paper_operator c.operator) (paper_value c.operand)

abbrev pub paper_statement : Statement → read.Statement
paper_statement (Job name response) = read.job (paper_name name) response
paper_statement (Upload file source start) = read.upload file (paper_source source) (paper_start start)
paper_statement (Download file source start) = read.download file (paper_source source) (paper_start start)
paper_statement (GetInfo file) = read.getinfo file
paper_statement (Abort Report name) = read.abort_report (paper_name name)
paper_statement (Abort Event name) = read.abort_event (paper_name name)
