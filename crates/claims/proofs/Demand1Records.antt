-- Demand 1 for the calls on records. Two results that meet a call's contract are equal, answer and lent output; the writer's answers are given exactly
-- under their rows' conditions, in document 01's order; a refused call leaves the lent output as it was.
use Prim.Native.Nat.{ℕ, ◌<◌}
use mathlib.Core.Path.{◌≡◌, refl, sym, ap, ◌∙◌}
use mathlib.Core.Bool.{Bool, true, false, cond}
use mathlib.Core.List.{List}
use lib.Dec.{eqb, leb}
use lib.ListN.{length}
use borrow.Author.Tests.{le-leb, lt-leb, leb-true, leb-false}
use Rattle.counts.specs.Refusals.{not_real, not_a_record, too_little_room}
use Rattle.counts.proofs.Results.{refused_not_done}
use Rattle.counts.specs.Result.{Result, refused, done}
use Rattle.moment.specs.Moment.{real_moment}
use Rattle.record.specs.Record.{Content, record_bytes}
use Rattle.record_read.specs.Reading.{record_read, paper_record_read, content_of, with_text}
use Rattle.record.specs.Writing.{write_refusal, written, written_bytes, paper_record_written}
use Rattle.record_read.specs.declared.Record.{Record}
use Rattle.record_read.proofs.RoundTrip.{read_exactly, only_seven}
use Rattle.record.proofs.Says.{write_says_all}
use Rattle.record_read.proofs.Says.{read_says_all}
use Rattle.claims.specs.Exactly.{Exactly, OneResult}
use Rattle.claims.specs.RecordRows.{fields_in_range, WriteRow, seven, five, eight, record_written, ReadRow, record_read_row, no_record}
use Rattle.claims.proofs.Demand1.{refused_stays, one_result}

write_rows : (limit : ℕ) (c : Content) (out : List ℕ) → WriteRow limit c (length out) (written limit c out)
unfolding written write_refusal
write_rows limit c out = go (fields_in_range limit c) (real_moment c.date c.time) (leb (length (record_bytes c)) (length out)) refl refl refl
  where
    go : (t u v : Bool) → fields_in_range limit c ≡ t → real_moment c.date c.time ≡ u → leb (length (record_bytes c)) (length out) ≡ v
        → let no = cond t (cond u (cond v 0 too_little_room) not_real) not_a_record in
        WriteRow limit c (length out) (cond (eqb no 0) (done (length (record_bytes c))) (refused no 0))
    go true true true p q r = record_written p q (leb-true _ _ r)
    go true true false p q r = eight p q (leb-false _ _ r)
    go true false v p q r = five p q
    go false u v p q r = seven p

write_row_is : (limit : ℕ) (c : Content) (out : List ℕ) (v : Result ℕ) → WriteRow limit c (length out) v → written limit c out ≡ v
unfolding written write_refusal
write_row_is limit c out v (seven p) = rw p
write_row_is limit c out v (five p q) = rw (p, q)
write_row_is limit c out v (eight p q r) = rw (p, q, lt-leb _ _ r)
write_row_is limit c out v (record_written p q r) = rw (p, q, le-leb _ _ r)

pub write_record_exactly : (limit : ℕ) (c : Content) (out : List ℕ) → Exactly (written limit c out) (WriteRow limit c (length out))
write_record_exactly limit c out = (write_rows limit c out, write_row_is limit c out)

pub refused_record_changes_nothing : (limit : ℕ) (c : Content) (out : List ℕ) (number place : ℕ) → written limit c out ≡ refused number place
    → written_bytes limit c out ≡ out
unfolding written written_bytes
refused_record_changes_nothing limit c out number place = refused_stays (write_refusal limit c (length out)) _ _ out number place

module _ (limit : ℕ) (most : limit < 100000000) (s : List ℕ) where
  read_rows : (x : Result Record) → record_read limit s ≡ x → ReadRow limit s (with_text s x)
  read_rows (done r) e = let c = (read_exactly limit most s (content_of s r)).0 (ap (with_text s) e) in record_read_row (content_of s r) c.0 c.1
  read_rows (refused n p) e =
      let seven-only = only_seven limit s n p e in
      rw (seven-only.0, seven-only.1)
      (no_record (λ c ok bytes. refused_not_done (ap (with_text s) (sym e) ∙ (read_exactly limit most s c).1 (ok, bytes))))

  read_row_is : (v : Result Content) → ReadRow limit s v → with_text s (record_read limit s) ≡ v
  read_row_is v (record_read_row c ok bytes) = (read_exactly limit most s c).1 (ok, bytes)
  read_row_is v (no_record none) = go (record_read limit s) refl
    where
      go : (x : Result Record) → record_read limit s ≡ x → with_text s x ≡ refused not_a_record 0
      go (done r) e = let c = (read_exactly limit most s (content_of s r)).0 (ap (with_text s) e) in absurd (none (content_of s r) c.0 c.1)
      go (refused n p) e = let seven-only = only_seven limit s n p e in rw (seven-only.0, seven-only.1)

  pub read_record_exactly : Exactly (with_text s (record_read limit s)) (ReadRow limit s)
  read_record_exactly = (read_rows (record_read limit s) refl, read_row_is)

pub read_record_determined : OneResult (Unit {0}) paper_record_read
read_record_determined = one_result read_says_all

pub write_record_determined : OneResult (List ℕ) paper_record_written
write_record_determined = one_result write_says_all
