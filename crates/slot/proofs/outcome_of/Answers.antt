use mathlib.Core.Path.{ap}
use native.Mathlib.Omega.{arith}
use borrow.Author.Tests.{eq-eqb, ne_eqb}
use Rattle.record.specs.declared.Outcome.TheVariants.{Error}
use Rattle.slot.specs.Fields.{outcome_of}
use Rattle.slot.proofs.outcome_of.Goals as goal

pub returns-in-None : goal.returns-in-None
unfolding outcome_of
returns-in-None c = rw (eq-eqb c.args.kind 0 (omega (arith, c.in-None.ensures)))

pub returns-in-Some : goal.returns-in-Some
unfolding outcome_of
returns-in-Some c =
    rw (ne_eqb c.args.kind 0 (λ z. omega (arith, c.in-Some.ensures.0))) (ap (λ k. Error k c.args.code) c.in-Some.ensures.1)
