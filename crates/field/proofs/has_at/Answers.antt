-- `field::has_at` meets its contract.
use Prim.Native.Nat.{ℕ, ◌-◌}
use mathlib.Core.Path.{sym, ap, ◌∙◌}
use mathlib.Core.List.{List}
use native.Mathlib.Omega.{arith}
use lib.Dec.{eqb}
use lib.ListN.{length, take, drop, length-drop}
use lib.Pointwise.{pointwise}
use lib.Seq.{take_all}
use Rattle.field.proofs.Same.{has_past, same_is}
use Rattle.field.specs.Bytes.{has_at}
use Rattle.field.specs.Part.{part}
use Rattle.field.proofs.has_at.Goals as goal

pub returns-then-s-at : goal.returns-then-s-at
returns-then-s-at c = c.is_empty.ensures ∙ sym (has_past _ _ _ c.if-s-at.true)

pub returns : goal.returns
unfolding has_at part
returns c =
    let s = c.args.s.now in
    let at = c.args.at in
    c.starts_with.ensures.value
    ∙ ap (λ (l : List ℕ). pointwise eqb c.args.word.now (take (length c.args.word.now) l)) (take_all (length s - at) (drop at s) (omega (arith, length-drop at s)))
    ∙ same_is _ c.args.word.now
