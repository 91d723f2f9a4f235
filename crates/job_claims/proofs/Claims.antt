-- Demand 2 for job files: `read_job`, which the contract of `job::read_job` cites, gives an answer exactly when documents 01 and 02 say so.
use Prim.Native.Nat.{ℕ, ◌≤◌, ◌<◌}
use mathlib.Core.Path.{◌≡◌, refl, subst}
use mathlib.Core.Bool.{Bool, true, false, cond}
use mathlib.Core.List.{List}
use mathlib.Core.Logic.{◌↔◌}
use native.Mathlib.Omega.{arith}
use borrow.Author.Tests.{leb-true, leb-false, le-leb, lt-leb}
use lib.Dec.{leb}
use lib.ListN.{length}
use Rattle.counts.specs.Limits.{file_bytes}
use Rattle.counts.specs.Refusals.{file_too_long, too_few_places, no_token, unexpected, not_real, too_many_statements, open_string, broken_string, misshapen, end_of_file}
use Rattle.counts.specs.Result.Result.{refused, done}
use Rattle.grammar.specs.declared.StartClause.{StartClause}
use Rattle.grammar.specs.Statement.{Statement}
use Rattle.grammar.specs.Productions.{File}
use Rattle.grammar.specs.Reading.{OffsetsRead, read}
use Rattle.grammar.specs.Reading.Last.{end, no_token_at}
use Rattle.token.specs.declared.Why.{Why}
use Rattle.grammar.specs.Rows.{Three, Fifteen, Sixteen, Seventeen, Four, Eighteen, Five, Six, Says}
use Rattle.grammar.specs.Rows.Says.{file, three, fifteen, sixteen, seventeen, four, eighteen, five, six}
use Rattle.grammar.proofs.Verdicts.{reader_says, says_reader}
use Rattle.item.specs.Tokens.{Tokens, line}
use Rattle.job.specs.Job.{on_room, read_job}
use Rattle.item.proofs.Lines.{line_tokens}
use Rattle.item.proofs.Ends.{end_is_length}
use Rattle.job.specs.Statement.{Tiled}
use Rattle.job_claims.proofs.Places.{no_token_within, end_within, token_within}
use Rattle.job_claims.proofs.Tiles.{tiles, one_tiling}
use Rattle.job_claims.specs.Verdict.{Verdict, Taken, Crowded}
use Rattle.job_claims.specs.Verdict.Verdict.{too_long, broken, no_room, fits}

module _ (clause : StartClause) (s : List ℕ) (room : ℕ) where
  judged_room : length s ≤ file_bytes → (v : OffsetsRead) → Says clause (line s).tokens (line s).last v → Verdict clause s room (on_room room v)
  judged_room l (refused n p) y = broken l y
  judged_room l (done os) y = go (leb (length os) room) refl
    where
      go : (b : Bool) → leb (length os) room ≡ b → Verdict clause s room (cond b (done os) (refused too_few_places 0))
      go true e = fits l y (leb-true _ _ e)
      go false e = no_room l y (leb-false _ _ e)

  -- every file has the verdict that the reader gives
  pub judged : Verdict clause s room (read_job clause s room)
  unfolding read_job
  judged = go (leb (length s) file_bytes) refl
    where
      go : (b : Bool) → leb (length s) file_bytes ≡ b
          → Verdict clause s room (cond b (on_room room (read clause (line s).tokens (line s).last)) (refused file_too_long 0))
      go true e = judged_room (leb-true _ _ e) (read clause (line s).tokens (line s).last) (reader_says clause (line s).tokens (line s).last)
      go false e = too_long (leb-false _ _ e)

  -- and no other
  pub only : (v : OffsetsRead) → Verdict clause s room v → read_job clause s room ≡ v
  unfolding read_job
  only v (too_long l) = rw (lt-leb _ _ l)
  only v (broken l y) = rw (le-leb _ _ l, says_reader clause y)
  only v (no_room l y r) = rw (le-leb _ _ l, says_reader clause y, lt-leb _ _ r)
  only v (fits l y r) = rw (le-leb _ _ l, says_reader clause y, le-leb _ _ r)

  given : {v : OffsetsRead} → read_job clause s room ≡ v → Verdict clause s room v
  given e = subst (λ (v : OffsetsRead). Verdict clause s room v) e judged

  -- A job file is taken when, and only when, it obeys the grammar and limits and the table has room, and its offsets are those of its
  -- statements.
  pub taken_exactly : (os : List ℕ) → read_job clause s room ≡ done os ↔ Taken clause s room os
  taken_exactly os = (λ e. from (given e), λ t. only (done os) (fits t.short (file t.whole) t.fits))
    where
      from : Verdict clause s room (done os) → Taken clause s room os
      from (fits l (file w) r) = record { short = l; whole = w; fits = r }

  -- 1
  pub one_exactly : (p : ℕ) → read_job clause s room ≡ refused file_too_long p ↔ (file_bytes < length s) × p ≡ 0
  one_exactly p = (λ e. from p (given e), λ h. rw h.1 (only (refused file_too_long 0) (too_long h.0)))
    where
      from : (p : ℕ) → Verdict clause s room (refused file_too_long p) → (file_bytes < length s) × p ≡ 0
      from p (too_long l) = (l, refl)
      from p (broken _ x6) = elim x6 [ ]

  -- 2 only for a legal file
  pub two_exactly : (p : ℕ) → read_job clause s room ≡ refused too_few_places p ↔ ((os : List ℕ) × Crowded clause s room os) × p ≡ 0
  two_exactly p = (λ e. from p (given e), λ h. rw h.1 (only (refused too_few_places 0) (no_room h.0.1.short (file h.0.1.whole) h.0.1.crowded)))
    where
      from : (p : ℕ) → Verdict clause s room (refused too_few_places p) → ((os : List ℕ) × Crowded clause s room os) × p ≡ 0
      from p (no_room {os = os} l (file w) r) = ((os, record { short = l; whole = w; crowded = r }), refl)
      from p (broken _ x6) = elim x6 [ ]

  -- 3 to 6 and 15 to 18 at p exactly when the row holds there, all before it is in order, and no number that goes first holds there
  pub three_exactly : (p : ℕ) → read_job clause s room ≡ refused no_token p ↔ (length s ≤ file_bytes) × Three clause (line s).tokens (line s).last p
  three_exactly p = (λ e. from (given e), λ h. only (refused no_token p) (broken h.0 (three h.1)))
    where
      from : Verdict clause s room (refused no_token p) → (length s ≤ file_bytes) × Three clause (line s).tokens (line s).last p
      from (broken l (three r)) = (l, r)

  pub fifteen_exactly : (p : ℕ) → read_job clause s room ≡ refused open_string p ↔ (length s ≤ file_bytes) × Fifteen clause (line s).tokens (line s).last p
  fifteen_exactly p = (λ e. from (given e), λ h. only (refused open_string p) (broken h.0 (fifteen h.1)))
    where
      from : Verdict clause s room (refused open_string p) → (length s ≤ file_bytes) × Fifteen clause (line s).tokens (line s).last p
      from (broken l (fifteen r)) = (l, r)

  pub sixteen_exactly : (p : ℕ) → read_job clause s room ≡ refused broken_string p ↔ (length s ≤ file_bytes) × Sixteen clause (line s).tokens (line s).last p
  sixteen_exactly p = (λ e. from (given e), λ h. only (refused broken_string p) (broken h.0 (sixteen h.1)))
    where
      from : Verdict clause s room (refused broken_string p) → (length s ≤ file_bytes) × Sixteen clause (line s).tokens (line s).last p
      from (broken l (sixteen r)) = (l, r)

  pub seventeen_exactly : (p : ℕ) → read_job clause s room ≡ refused misshapen p ↔ (length s ≤ file_bytes) × Seventeen clause (line s).tokens (line s).last p
  seventeen_exactly p = (λ e. from (given e), λ h. only (refused misshapen p) (broken h.0 (seventeen h.1)))
    where
      from : Verdict clause s room (refused misshapen p) → (length s ≤ file_bytes) × Seventeen clause (line s).tokens (line s).last p
      from (broken l (seventeen r)) = (l, r)

  pub four_exactly : (p : ℕ) → read_job clause s room ≡ refused unexpected p ↔ (length s ≤ file_bytes) × Four clause (line s).tokens p
  four_exactly p = (λ e. from (given e), λ h. only (refused unexpected p) (broken h.0 (four h.1)))
    where
      from : Verdict clause s room (refused unexpected p) → (length s ≤ file_bytes) × Four clause (line s).tokens p
      from (broken l (four r)) = (l, r)

  pub eighteen_exactly : (p : ℕ) → read_job clause s room ≡ refused end_of_file p ↔ (length s ≤ file_bytes) × Eighteen clause (line s).tokens (line s).last p
  eighteen_exactly p = (λ e. from (given e), λ h. only (refused end_of_file p) (broken h.0 (eighteen h.1)))
    where
      from : Verdict clause s room (refused end_of_file p) → (length s ≤ file_bytes) × Eighteen clause (line s).tokens (line s).last p
      from (broken l (eighteen r)) = (l, r)

  pub five_exactly : (p : ℕ) → read_job clause s room ≡ refused not_real p ↔ (length s ≤ file_bytes) × Five clause (line s).tokens p
  five_exactly p = (λ e. from (given e), λ h. only (refused not_real p) (broken h.0 (five h.1)))
    where
      from : Verdict clause s room (refused not_real p) → (length s ≤ file_bytes) × Five clause (line s).tokens p
      from (broken l (five r)) = (l, r)

  pub six_exactly : (p : ℕ) → read_job clause s room ≡ refused too_many_statements p ↔ (length s ≤ file_bytes) × Six clause (line s).tokens p
  six_exactly p = (λ e. from (given e), λ h. only (refused too_many_statements p) (broken h.0 (six h.1)))
    where
      from : Verdict clause s room (refused too_many_statements p) → (length s ≤ file_bytes) × Six clause (line s).tokens p
      from (broken l (six r)) = (l, r)

  -- Each statement of a taken file is read on its own from its offset: the list of statements is the one that the grammar gives, and they tile
  -- the file.
  pub statements_exactly : (os : List ℕ) → read_job clause s room ≡ done os → (ys : List Statement) → File clause (line s).tokens os ys ↔ Tiled clause s 0 os ys
  statements_exactly os e ys = (to, from)
    where
      t : Taken clause s room os
      t = (taken_exactly os).0 e

      in_file : Tokens s 0 (line s).tokens (end t.whole.0)
      in_file = subst (Tokens s 0 (line s).tokens) t.whole.1 (line_tokens s)

      to : {xs : List Statement} → File clause (line s).tokens os xs → Tiled clause s 0 os xs
      to f = tiles clause s t.short f in_file

      from : Tiled clause s 0 os ys → File clause (line s).tokens os ys
      from w = subst (File clause (line s).tokens os) (one_tiling (to t.whole.2.file) w) t.whole.2.file

  -- There is one such list.
  pub one_reading : (os : List ℕ) → read_job clause s room ≡ done os → (xs ys : List Statement) → File clause (line s).tokens os xs
      → File clause (line s).tokens os ys → xs ≡ ys
  one_reading os e xs ys f g = one_tiling ((statements_exactly os e xs).0 f) ((statements_exactly os e ys).0 g)

  -- The place of a refusal for the end of the file is the file's length.
  pub end_is_last : (p : ℕ) → Eighteen clause (line s).tokens (line s).last p → p ≡ length s
  end_is_last p r = end_is_length s p r.1

  -- A refusal's number is from 1 to 18 and its place within the file: both fit the one number that a C program gets.
  pub refusal_fits : {n p : ℕ} → read_job clause s room ≡ refused n p → (1 ≤ n) × (n ≤ 18) × (p ≤ file_bytes)
  refusal_fits e = fits_in (given e)
    where
      none_fits : {n p : ℕ} {why : Why} → length s ≤ file_bytes → 1 ≤ n → n ≤ 18 → (line s).last ≡ no_token_at why p → (1 ≤ n) × (n ≤ 18) × (p ≤ file_bytes)
      none_fits l a b z = (a, b, omega (arith, no_token_within (line_tokens s) (omega arith) z))

      fits_in : {n p : ℕ} → Verdict clause s room (refused n p) → (1 ≤ n) × (n ≤ 18) × (p ≤ file_bytes)
      fits_in (too_long l) = (omega arith, omega arith, omega arith)
      fits_in (broken l (three r)) = none_fits l (omega arith) (omega arith) r.1
      fits_in (broken l (fifteen r)) = none_fits l (omega arith) (omega arith) r.1
      fits_in (broken l (sixteen r)) = none_fits l (omega arith) (omega arith) r.1
      fits_in (broken l (seventeen r)) = none_fits l (omega arith) (omega arith) r.1
      fits_in (broken l (four r)) = (omega arith, omega arith, omega (arith, token_within (line_tokens s) r.2))
      fits_in (broken l (eighteen r)) = (omega arith, omega arith, omega (arith, end_within (line_tokens s) (omega arith) r.1))
      fits_in (broken l (five r)) = (omega arith, omega arith, omega (arith, token_within (line_tokens s) r.2))
      fits_in (broken l (six r)) = (omega arith, omega arith, omega (arith, token_within (line_tokens s) r.2))
      fits_in (no_room l y r) = (omega arith, omega arith, omega arith)
