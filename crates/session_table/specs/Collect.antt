-- What collecting answers, and what it leaves of the table and of the lent output.
use Rattle.std.specs.Prelude.{ℕ, ◌≡◌, List, length}
use Rattle.std.specs.declared.result.Result.{Result as Returned}
use Rattle.counts.specs.Result.{counted}
use Rattle.counts.specs.declared.Refusal.{Refusal}
use Rattle.session_table.specs.Calls.{collecting, collected_bytes, collected_out}
use Rattle.session_table.specs.Paper.{paper_collected}

pub record Collects (b : List ℕ) (p t : ℕ) (out : List ℕ) (r : Returned ℕ Refusal) (b_exit out_exit : List ℕ) : Type 0 where
  pub answer : paper_collected r ≡ counted (collecting b p t (length out))
  pub table : b_exit ≡ collected_bytes b p t (length out)
  pub output : out_exit ≡ collected_out b p t out
