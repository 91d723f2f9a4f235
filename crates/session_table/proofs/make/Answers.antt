use lib.ListN.{length, length-replicate}
use mathlib.Core.Path.{◌∙◌, ap, sym}
use native.Mathlib.Omega.{arith}
use Rattle.table_layout.specs.Layout.{hand_number}
use Rattle.counts.proofs.Results.{number_not_0, refused_plainly}
use Rattle.session_table.proofs.Making.{make_refuses, make_low, make_size, make_done, make_leaves}
use Rattle.session_table.proofs.make.Goals as goal

pub returns-in_err-may_make : goal.returns-in_err-may_make
returns-in_err-may_make c =
    make_refuses _ _ _ c.in_err-may_make.ensures _
    (refused_plainly (λ made. made) c.from_residual.result _ c.from_residual.ensures)
    (number_not_0 c.in_err-may_make.field-0.0)

pub fresh-requires : goal.fresh-requires
fresh-requires c = make_low _ _ (sym c.in_ok-may_make.ensures)

pub put_table-requires : goal.put_table-requires
put_table-requires c = (
  ap length c.clear.ensures ∙ length-replicate _ 0 ∙ make_size _ _ (sym c.in_ok-may_make.ensures),
  omega (arith, ap (λ x. hand_number x.hand) c.fresh.ensures),
)

pub returns : goal.returns
returns c = (make_done _ _ (sym c.in_ok-may_make.ensures), cc (make_leaves _ _ (sym c.in_ok-may_make.ensures)))
