-- The kind of a session file as a number: 0 for a request, 1 for a response.
use Rattle.std.specs.Prelude.{ℕ, cond, eqb, leb}
use Rattle.counts.specs.Limits.{sessions}
use Rattle.session_name.specs.declared.Kind.{Kind}
use Rattle.session_name.specs.declared.Kind.TheVariants.{Request, Response}

abbrev pub kind_number : Kind → ℕ
kind_number Request = 0
kind_number Response = 1

-- the kind that a number stands for
abbrev pub kind_given : ℕ → Kind
kind_given kind = cond (eqb kind 0) Request Response

-- Under a kind that is neither, no number is in its range.
abbrev pub number_under : ℕ → ℕ → ℕ
number_under kind n = cond (leb kind 1) n sessions
