-- `write_name` meets its contract: the refusal, or the write.
use mathlib.Core.Path.{sym, ◌∙◌}
use Rattle.counts.proofs.Results.{number_not_0, refused_plainly}
use Rattle.session_name.proofs.Writing.{not_refused, wrote_name, refused_name}
use Rattle.session_name.proofs.write_name.Goals as goal

pub returns-in_err-may_write : goal.returns-in_err-may_write
returns-in_err-may_write c =
    let a = c.args in
    let reason = c.in_err-may_write.field-0.0 in
    let no = c.in_err-may_write.ensures in
    rw (refused_plainly (λ n. n) c.from_residual.result reason c.from_residual.ensures, no)
    (refused_name a.max a.number.0 a.kind a.out.now (λ e. number_not_0 reason (no ∙ e)))

pub put_name-requires : goal.put_name-requires
put_name-requires c =
    let a = c.args in
    not_refused a.max a.number.0 _ (sym (c.in_ok-may_write.ensures))

pub returns : goal.returns
returns c =
    let a = c.args in
    wrote_name a.max a.number.0 a.kind (sym (c.in_ok-may_write.ensures)) c.put_name.ensures
