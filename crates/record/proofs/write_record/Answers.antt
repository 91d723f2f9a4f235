-- `record::write_record` meets its contract.
use mathlib.Core.Path.{sym, ◌∙◌}
use Rattle.counts.proofs.Results.{number_not_0, refused_plainly}
use Rattle.counts.specs.Limits.{commands}
use Rattle.record.specs.Record.{content}
use Rattle.record.proofs.Writes.{not_refused, wrote_record, refused_record}
use Rattle.record.proofs.write_record.Goals as goal

pub returns-in_err-may_write : goal.returns-in_err-may_write
returns-in_err-may_write c =
    let a = c.args in
    let reason = c.in_err-may_write.field-0.0 in
    let no = c.in_err-may_write.ensures in
    rw (refused_plainly (λ n. n) c.from_residual.result reason c.from_residual.ensures, no)
    (refused_record commands (content a.number.0 a.outcome a.text.now a.date a.time) a.out.now (λ e. number_not_0 reason (no ∙ e)))

pub put_record-requires : goal.put_record-requires
put_record-requires c =
    let a = c.args in
    not_refused commands (content a.number.0 a.outcome a.text.now a.date a.time) a.out.now (sym (c.in_ok-may_write.ensures))

pub returns : goal.returns
returns c =
    let a = c.args in
    wrote_record commands (content a.number.0 a.outcome a.text.now a.date a.time) (sym (c.in_ok-may_write.ensures)) c.put_record.ensures
