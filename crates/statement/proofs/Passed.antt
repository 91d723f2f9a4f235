-- What `?` hands on: a refusal as it is.
use mathlib.Core.Path.{◌≡◌, ap}
use Rattle.std.specs.declared.result.Result.{Result as Returned}
use Rattle.std.specs.declared.result.Result.TheVariants.{Ok, Err}
use Rattle.std.proofs.lemmas.Bool.{false≢true}
use Rattle.std.specs.Prelude.{IsErr, IsErrAnd}
use Rattle.counts.specs.Result.{refused_as, paper}
use Rattle.counts.specs.declared.Refusal.{Refusal}

pub handed_on : {T A : Type 0} (values : T → A) (r : Returned T Refusal) (e : Refusal) → IsErr r × IsErrAnd r (λ x. x ≡ e)
    → paper values r ≡ refused_as e
handed_on values (Ok x) e h = absurd (false≢true h.0)
handed_on values (Err x) e h = ap refused_as h.1
