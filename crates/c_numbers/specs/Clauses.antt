-- P7's setting as yes or no: whether a start clause is optional.
use Rattle.std.specs.Prelude.{Bool, true, false}
use Rattle.grammar.specs.declared.StartClause.{StartClause}
use Rattle.grammar.specs.declared.StartClause.TheVariants.{Required, Optional}

abbrev pub clause_given : Bool → StartClause
clause_given true = Optional
clause_given false = Required
