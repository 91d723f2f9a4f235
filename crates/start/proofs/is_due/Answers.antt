-- `start::is_due` meets its contract.
use mathlib.Core.Path.{sym, ◌∙◌}
use Rattle.counts.proofs.Results.{number_not_0, refused_plainly}
use Rattle.start.proofs.Steps.{unreal_so, refused_so, decided_so}
use Rattle.start.proofs.is_due.Goals as goal

pub clause_is_due-requires : goal.clause_is_due-requires
clause_is_due-requires c = sym c.in_ok-may_decide.ensures

pub returns-in_err-may_decide : goal.returns-in_err-may_decide
returns-in_err-may_decide c =
    let no = c.in_err-may_decide.field-0.0 in
    rw (refused_plainly (λ due. due) c.from_residual.result no c.from_residual.ensures)
    (refused_so _ _ (sym c.all_real.ensures ∙ c.if-all_real.true) _ c.in_err-may_decide.ensures (number_not_0 no))

pub returns-then-all_real : goal.returns-then-all_real
returns-then-all_real c = decided_so _ _ (sym c.all_real.ensures ∙ c.if-all_real.true) _ (sym c.in_ok-may_decide.ensures) c.clause_is_due.ensures

pub returns : goal.returns
returns c = rw c.into.ensures (unreal_so _ _ (sym c.all_real.ensures ∙ c.if-all_real.false))
