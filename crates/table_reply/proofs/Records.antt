-- A reply grows by one record at its end.
use Prim.Native.Nat.{ℕ, zero, suc, ◌+◌, ◌≤◌, ◌<◌}
use mathlib.Core.Path.{◌≡◌, refl, ◌∙◌, ap, sym}
use mathlib.Core.Bool.{true}
use mathlib.Core.Logic.{⊎_elim}
use mathlib.Core.List.{List, [], ◌∷◌, ◌++◌, append_assoc, append-nil}
use native.Mathlib.Nat.{eq-or-lt_of_le, add_comm}
use native.Mathlib.Numerals.{add-one}
use native.Mathlib.Omega.{arith}
use borrow.Author.Tests.{le-leb}
use lib.ListN.{length, length-append}
use Rattle.counts.specs.Limits.{commands}
use Rattle.decimal.specs.Digits.{plain_width}
use Rattle.field.proofs.Put.{put_nil, then, as_bytes}
use Rattle.field.specs.Part.{Wrote}
use Rattle.laws.proofs.Choose.{and_left, and_right}
use Rattle.record.proofs.Lengths.{length_record, fixed_le}
use Rattle.record.specs.Record.{content, is_outcome, is_text, in_range, fixed_length}
use Rattle.record.specs.Writing.{Fits}
use Rattle.record.specs.declared.Outcome.{Outcome}
use Rattle.decimal.proofs.PlainLaws.{plain_le}
use Rattle.scan.specs.Run.{run, run_end}
use Rattle.sessions.proofs.Laws.{numbered_more, all_at}
use Rattle.sessions.proofs.Loops.{length_first}
use Rattle.sessions.specs.Find.{first, all}
use Rattle.sessions.specs.Records.{is_dated, record_of}
use Rattle.sessions.specs.Sound.{in_range_and_real}
use Rattle.sessions.specs.Table.{numbered, records}
use Rattle.sessions.specs.declared.Answer.{Answer}
use Rattle.slot.specs.Fields.{entry_of}
use Rattle.table_reply.specs.Reply.{reply_of}

records_append : (l m : List (ℕ × Answer)) → records (l ++ m) ≡ records l ++ records m
unfolding records
records_append [] m = refl
records_append (x ∷ l) m = rw (records_append l m) (sym (append_assoc (record_of x.0 x.1) (records l) (records m)))

module _ (b : List ℕ) (s : ℕ) where
  pub reply_none : reply_of b s 0 ≡ []
  unfolding reply_of first numbered records
  reply_none = refl

  pub reply_more : (i : ℕ) → reply_of b s (i + 1) ≡ reply_of b s i ++ record_of (i + 1) (entry_of b s (i + 1))
  unfolding reply_of first records
  reply_more i =
      ap (λ k. records (numbered 1 (first k (λ j. entry_of b s (j + 1))))) (add-one i)
      ∙ rw (numbered_more, records_append, length_first i (λ j. entry_of b s (j + 1)), add_comm 1 i, append-nil)

  -- the part is no longer than the whole
  pub reply_grows : (n i : ℕ) → i ≤ n → length (reply_of b s i) ≤ length (reply_of b s n)
  reply_grows zero i l = let z : i ≡ 0 = omega arith in omega (arith, ap (λ k. length (reply_of b s k)) z)
  reply_grows (suc n) i l =
      let m : length (reply_of b s (suc n)) ≡ length (reply_of b s n) + length (record_of (n + 1) (entry_of b s (n + 1))) =
      ap (λ k. length (reply_of b s k)) (sym (add-one n)) ∙ ap length (reply_more n) ∙ length-append (reply_of b s n) (record_of (n + 1) (entry_of b s (n + 1))) in
      ⊎_elim
      (λ (q : i ≡ suc n). omega (arith, ap (λ k. length (reply_of b s k)) q))
      (λ (k : i < suc n). omega (arith, reply_grows n i (omega arith)))
      (eq-or-lt_of_le {n = i} {m = suc n} l)

  -- the length of one record more, and that it is small
  pub length_more : (i total r : ℕ) (o : Outcome) → total ≡ length (reply_of b s i) → o ≡ (entry_of b s (i + 1)).outcome
      → r ≡ fixed_length o + plain_width (i + 1) + 0
      → total + r ≡ length (reply_of b s (i + 1))
  length_more i total r o e q d =
      let a = entry_of b s (i + 1) in
      let l = length_record (content (i + 1) a.outcome [] a.date a.time) in
      let m = ap length (reply_more i) ∙ length-append (reply_of b s i) (record_of (i + 1) a) in
      let f = ap fixed_length q in
      omega arith

  pub length_all : {i n total : ℕ} → i ≡ n → total ≡ length (reply_of b s i) → total ≡ length (reply_of b s n)
  length_all q e = e ∙ ap (λ k. length (reply_of b s k)) q

  -- the next record has its room, where all have
  pub next_fits : (n i at : ℕ) (out : List ℕ) (a : Answer) → a ≡ entry_of b s (i + 1) → i < n → n ≤ commands
      → all n (λ k. in_range_and_real (entry_of b s (k + 1))) ≡ true → at ≡ length (reply_of b s i) → length (reply_of b s n) ≤ length out
      → Fits commands (content (i + 1) a.outcome [] a.date a.time) at out
  unfolding in_range_and_real in_range is_text run_end run
  next_fits n i at out a p l h e q room =
      let r : in_range_and_real a ≡ true = ap in_range_and_real p ∙ all_at (λ k. in_range_and_real (entry_of b s (k + 1))) n e l in
      let m = ap length (reply_more i) ∙ length-append (reply_of b s i) (record_of (i + 1) (entry_of b s (i + 1))) in
      let z = ap (λ x. length (record_of (i + 1) x)) p in
      record {
        range = rw (le-leb 1 (i + 1) (omega arith), le-leb (i + 1) commands (omega arith), and_right (is_dated a) (is_outcome a.outcome) r);
        real = and_left (is_dated a) (is_outcome a.outcome) r;
        room = omega (arith, reply_grows n (i + 1) (omega arith));
      }

  pub wrote_none : (d : List ℕ) → Wrote d 0 (reply_of b s 0) d 0
  wrote_none d = record { next = rw reply_none; bytes = rw reply_none (sym (put_nil d 0)) }

  pub wrote_more : (i at next : ℕ) (a : Answer) {d e f : List ℕ} → a ≡ entry_of b s (i + 1) → Wrote d 0 (reply_of b s i) e at
      → Wrote e at (record_of (i + 1) a) f next
      → Wrote d 0 (reply_of b s (i + 1)) f next
  wrote_more i at next a p v w = as_bytes (then v w) (ap (λ x. reply_of b s i ++ record_of (i + 1) x) p ∙ sym (reply_more i))

  pub wrote_all : {i n at : ℕ} {d e : List ℕ} → i ≡ n → Wrote d 0 (reply_of b s i) e at → Wrote d 0 (reply_of b s n) e at
  wrote_all q w = as_bytes w (ap (reply_of b s) q)

-- eight digits are enough for any limit that there may be
pub small : (o : Outcome) (i r : ℕ) → i < commands → r ≡ fixed_length o + plain_width (i + 1) + 0 → r ≤ 58
small o i r l e = omega (arith, fixed_le o (fixed_length o) refl, plain_le (i + 1) 8 (omega arith) (omega arith))
