-- Making: the ways through its tests, and what it leaves.
use Prim.Native.Nat.{ℕ, ◌≤◌}
use mathlib.Core.Path.{◌≡◌, ◌∙◌, sym}
use mathlib.Core.Bool.{true, false}
use mathlib.Core.List.{List}
use lib.Dec.{eqb}
use lib.ListN.{length, replicate}
use borrow.Author.Tests.{eqb-true, eq-eqb, ne_eqb}
use Rattle.counts.specs.Limits.{sessions}
use Rattle.counts.specs.Refusals.{out_of_range, unsound}
use Rattle.counts.specs.Result.{refused, done}
use Rattle.sessions.proofs.Laws.{in_range_lem}
use Rattle.sessions.specs.Table.{within}
use Rattle.table_layout.specs.Layout.{table_bytes, put_table, fresh_table}
use Rattle.session_table.specs.Calls.{only, verdict, making, fresh_bytes, made_bytes}
use Rattle.session_table.proofs.Verdicts.{passed, is_refused, keeps_bytes}
use Rattle.counts.specs.declared.Refusal.{Refusal}
use Rattle.session_table.specs.Paper.{paper_made}
use Rattle.std.specs.declared.result.Result.{Result as Returned}

module _ (b : List ℕ) (max : ℕ) where
  pub make_11 : within 1 max sessions ≡ false → verdict out_of_range ≡ only (making b max)
  unfolding making
  make_11 e = rw e

  pub make_13 : within 1 max sessions ≡ true → (length b ≡ table_bytes → ⊥) → verdict unsound ≡ only (making b max)
  unfolding making
  make_13 e n = rw (e, ne_eqb (length b) table_bytes n)

  pub make_0 : within 1 max sessions ≡ true → length b ≡ table_bytes → verdict 0 ≡ only (making b max)
  unfolding making
  make_0 e q = rw (e, eq-eqb (length b) table_bytes q)

  -- the two halves together: no refusal, or the one that was found and no byte changed
  module _ (no : ℕ) (said : verdict no ≡ only (making b max)) where
    pub make_refuses : (r : Returned (Unit {0}) Refusal) → paper_made r ≡ refused no 0 → (no ≡ 0 → ⊥) → (paper_made r ≡ making b max) × (b ≡ made_bytes b max)
    unfolding made_bytes
    make_refuses r e d = (e ∙ sym (is_refused (making b max) no said d), keeps_bytes (making b max) no said b _ d)

  module _ (ok : only (making b max) ≡ done tt) where
    tests : (within 1 max sessions ≡ true) × (eqb (length b) table_bytes ≡ true)
    unfolding making
    tests =
        let p = passed (within 1 max sessions) _ out_of_range 0 ok in
        (p.0, (passed (eqb (length b) table_bytes) _ unsound 0 p.1).0)

    pub make_low : 1 ≤ max
    make_low = (in_range_lem 1 max sessions tests.0).0

    pub make_size : length b ≡ table_bytes
    make_size = eqb-true (length b) table_bytes tests.1

    pub make_done : done tt ≡ making b max
    unfolding making
    make_done = rw (tests.0, tests.1)

    pub make_leaves : put_table (replicate (length b) 0) (fresh_table max) ≡ made_bytes b max
    unfolding made_bytes fresh_bytes
    make_leaves = rw (← make_done, make_size)
