-- Document 02's rows for the decision (P3): one constructor for each answer, in P3's order.
use Rattle.std.specs.Prelude.{Bool, true, false}
use Rattle.counts.specs.Refusals.{not_real, not_a_record, not_comparable}
use Rattle.counts.specs.Result.{Result, refused, done}
use Rattle.grammar.specs.Statement.{Start}
use Rattle.start.specs.Due.{Given, Real, AllPermitted, AllComparable, Due}

-- is_due: "Refusals: 5 [..], then 7 [..], then 19"
pub data DueRow (g : Given) (x : Start) : Result Bool → Type 0 where
  five : (Real g x → ⊥) → DueRow g x (refused not_real 0)
  seven : Real g x → (AllPermitted g x → ⊥) → DueRow g x (refused not_a_record 0)
  nineteen : Real g x → AllPermitted g x → (AllComparable g x → ⊥) → DueRow g x (refused not_comparable 0)
  due : Real g x → AllPermitted g x → AllComparable g x → Due g x → DueRow g x (done true)
  not_due : Real g x → AllPermitted g x → AllComparable g x → (Due g x → ⊥) → DueRow g x (done false)

-- Everything that the decision asks for is in order, and the clause is due.
pub record DecidedDue (g : Given) (x : Start) : Type 0 where
  pub real : Real g x
  pub permitted : AllPermitted g x
  pub comparable : AllComparable g x
  pub is : Due g x
