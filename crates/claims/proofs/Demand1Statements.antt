-- Demand 1 for the statement call: each answer is given exactly under its row's condition, and no other is given.
use Prim.Native.Nat.{ℕ, ◌≤◌}
use mathlib.Core.Path.{◌≡◌, refl, sym, subst}
use mathlib.Core.Bool.{Bool, true, false}
use mathlib.Core.List.{List, [], ◌∷◌}
use lib.Dec.{leb}
use lib.ListN.{length}
use borrow.Author.Tests.{leb-true, leb-false}
use Rattle.counts.specs.Limits.{file_bytes}
use Rattle.counts.specs.Result.{Result}
use Rattle.grammar.specs.declared.StartClause.{StartClause}
use Rattle.grammar.specs.Statement as read
use Rattle.item.specs.Tokens.{line_at}
use Rattle.item.proofs.Lines.{tokens_at}
use Rattle.job.specs.Statement.{read_statement}
use Rattle.job.specs.declared.StatementAt.{StatementAt}
use Rattle.job_claims.specs.Rows.{One}
use Rattle.job_claims.proofs.One as row
use Rattle.job_claims.proofs.One.{Judged, one_says}
use Rattle.job_claims.proofs.Tiles.{ReadsOne, reads_one}
use Rattle.job_claims.proofs.Statements.{no_statement, reading_exactly, statement_one_exactly, statement_eleven_exactly, statement_three_exactly, statement_fifteen_exactly, statement_sixteen_exactly, statement_seventeen_exactly, statement_five_exactly, statement_four_exactly, statement_eighteen_exactly}
use Rattle.claims.specs.Exactly.{Exactly}
use Rattle.claims.specs.StatementRows.{StatementRow, one, eleven, three, fifteen, sixteen, seventeen, five, four, eighteen, is_read}

module _ (clause : StartClause) (s : List ℕ) (at : ℕ) where
  row_is : (v : Result StatementAt) → StatementRow clause s at v → read_statement clause s at ≡ v
  row_is v (one l) = (statement_one_exactly clause s at 0).1 (l, refl)
  row_is v (eleven l m) = (statement_eleven_exactly clause s at 0).1 (l, m, refl)
  row_is v (three {p = p} l m r) = (statement_three_exactly clause s at p).1 (l, m, r)
  row_is v (five {p = p} l m r) = (statement_five_exactly clause s at p).1 (l, m, r)
  row_is v (fifteen {p = p} l m r) = (statement_fifteen_exactly clause s at p).1 (l, m, r)
  row_is v (sixteen {p = p} l m r) = (statement_sixteen_exactly clause s at p).1 (l, m, r)
  row_is v (seventeen {p = p} l m r) = (statement_seventeen_exactly clause s at p).1 (l, m, r)
  row_is v (four {p = p} l m r) = (statement_four_exactly clause s at p).1 (l, m, r)
  row_is v (eighteen {p = p} l m r) = (statement_eighteen_exactly clause s at p).1 (l, m, r)
  row_is v (is_read {x = x} {o = o} {e = e} l m r) = (reading_exactly clause s at x o e).1 (l, m, r)

  abbrev SomeRow : Type 0
  SomeRow = (v : Result StatementAt) × StatementRow clause s at v

  -- some row holds
  reads : length s ≤ file_bytes → at ≤ length s → (y : read.Statement) (o e : ℕ) → One clause s at y o e → SomeRow
  reads l m y o e w =
      let r : ReadsOne clause s l at y o e = reads_one clause s l at m y o e w in
      (_, is_read {x = r.statement} l m (subst (λ (z : read.Statement). One clause s at z o e) (sym r.says) w))

  judged : length s ≤ file_bytes → at ≤ length s → (x : Result ℕ) → Judged clause s at (line_at s at).tokens (line_at s at).last x → SomeRow
  judged l m x (row.read ([], f, w)) = absurd (no_statement w)
  judged l m x (row.read {e = e} (t ∷ a, f, w)) =
      reads l m w.0 t.place e (record { first = t; more = a; stand = f; reads = w.1; begins = refl })
  judged l m x (row.three r) = (_, three l m r)
  judged l m x (row.fifteen r) = (_, fifteen l m r)
  judged l m x (row.sixteen r) = (_, sixteen l m r)
  judged l m x (row.seventeen r) = (_, seventeen l m r)
  judged l m x (row.eighteen r) = (_, eighteen l m r)
  judged l m x (row.four r) = (_, four l m r)
  judged l m x (row.five r) = (_, five l m r)

  some_row : SomeRow
  some_row = go (leb (length s) file_bytes) (leb at (length s)) refl refl
    where
      go : (t u : Bool) → leb (length s) file_bytes ≡ t → leb at (length s) ≡ u → SomeRow
      go false u p q = (_, one (leb-false _ _ p))
      go true false p q = (_, eleven (leb-true _ _ p) (leb-false _ _ q))
      go true true p q = judged (leb-true _ _ p) (leb-true _ _ q) _ (one_says clause s at (tokens_at s at))

  pub read_statement_exactly : Exactly (read_statement clause s at) (StatementRow clause s at)
  read_statement_exactly = let r = some_row in (rw (row_is r.0 r.1) r.1, row_is)
