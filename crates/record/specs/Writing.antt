-- What writing a record answers, and what it leaves of the lent output.
use Rattle.std.specs.Prelude.{ℕ, ◌+◌, ◌≤◌, ◌≡◌, true, cond, List, eqb, leb, length}
use Rattle.counts.specs.Refusals.{not_a_record, not_real, too_little_room}
use Rattle.counts.specs.Result.{Result, refused, done, paper}
use Rattle.counts.specs.declared.Refusal.{Refusal}
use Rattle.std.specs.declared.result.Result.{Result as Returned}
use Rattle.field.specs.Part.{put}
use Rattle.moment.specs.Moment.{real_moment}
use Rattle.record.specs.Record.{Content, in_range, record_bytes}

-- ---- Need not be believed: `writes_record` and `record_written` of the page of claims tie them to the rows.

-- "The writer tests number, class, code and text (7), then date and time (5), then room (8)."
unfoldable pub write_refusal : ℕ → Content → ℕ → ℕ
write_refusal limit c room =
    cond (in_range limit c.number c.outcome c.text)
    (cond (real_moment c.date c.time) (cond (leb (length (record_bytes c)) room) 0 too_little_room) not_real)
    not_a_record

-- the bytes written, or the refusal
unfoldable pub written : ℕ → Content → List ℕ → Result ℕ
written limit c out =
    cond (eqb (write_refusal limit c (length out)) 0) (done (length (record_bytes c))) (refused (write_refusal limit c (length out)) 0)

-- what is lent: the record at its start and every other byte as it was; a refusal changes no byte
unfoldable pub written_bytes : ℕ → Content → List ℕ → List ℕ
written_bytes limit c out = cond (eqb (write_refusal limit c (length out)) 0) (put out 0 (record_bytes c)) out

-- what is asked of a caller that writes without a test: a permitted record, and room for it from at on
pub record Fits (limit : ℕ) (c : Content) (at : ℕ) (out : List ℕ) : Type 0 where
  pub range : in_range limit c.number c.outcome c.text ≡ true
  pub real : real_moment c.date c.time ≡ true
  pub room : at + length (record_bytes c) ≤ length out

-- ---- the paper's number and values of each answer

abbrev pub paper_record_written : Returned ℕ Refusal → Result ℕ
paper_record_written = paper λ n. n
