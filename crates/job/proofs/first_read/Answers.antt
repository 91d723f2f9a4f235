-- `job::first_read` meets its contract.
use mathlib.Core.Path.{◌∙◌, ap}
use Rattle.item.specs.Items.{code_no}
use Rattle.item.specs.declared.Class.TheVariants.{Job}
use Rattle.item.proofs.Classes.{same_code}
use Rattle.job.specs.Loop.{step_read}
use Rattle.job.proofs.Steps.{first_is_job, first_is_other}
use Rattle.job.proofs.first_read.Goals as goal

pub returns-in-Job : goal.returns-in-Job
returns-in-Job c =
    let a = c.args in
    ap step_read c.statement_of.ensures ∙ first_is_job a.clause a.file.now a.t (ap code_no c.in-Job.is)

pub returns-in_default : goal.returns-in_default
returns-in_default c =
    let a = c.args in
    rw (c.refused.ensures, c.refusal_reason.ensures)
    (first_is_other a.clause a.file.now a.t (λ e. c.in_default.not-Job (same_code a.t.class Job e)))
