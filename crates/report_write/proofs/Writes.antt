-- What the writer's tests give, and what its contract asks where they are passed and where they are not.
use Prim.Native.Nat.{ℕ, ◌≤◌, ◌<◌}
use mathlib.Core.Path.{◌≡◌, refl, ap, ◌∙◌}
use mathlib.Core.Bool.{true, false, ◌&&◌, and-false}
use mathlib.Core.List.{List}
use native.Mathlib.Omega.{arith}
use lib.Dec.{leb}
use lib.ListN.{length}
use borrow.Author.Tests.{leb-true, le-leb, lt-leb, eq-eqb, ne_eqb}
use Rattle.laws.proofs.Choose.{and_left, and_right}
use Rattle.counts.specs.Limits.{columns}
use Rattle.counts.specs.Refusals.{out_of_range}
use Rattle.counts.proofs.Results.{first_way}
use Rattle.counts.specs.Result.{refused, done, counted}
use Rattle.field.specs.Part.{Wrote}
use Rattle.delimited.specs.Separators.{byte_of}
use Rattle.delimited.specs.declared.Delimiter.{Delimiter}
use Rattle.delimited.proofs.Lines.{one_of_four}
use Rattle.delimited.specs.Lines.{is_delimiter}
use Rattle.report_write.specs.Writing.{InRange, are_lines, text_from, may_write, write_refusal, written, filled}

-- the four delimiters, 1 to 64 columns
pub record May (d many : ℕ) : Type 0 where
  pub delimiter : is_delimiter d ≡ true
  pub some : 1 ≤ many
  pub few : many ≤ columns

pub may : (d many : ℕ) → may_write d many ≡ true → May d many
unfolding may_write
may d many h =
    let front = and_left (is_delimiter d && leb 1 many) (leb many columns) h in
    record {
      delimiter = and_left (is_delimiter d) (leb 1 many) front;
      some = leb-true 1 many (and_right (is_delimiter d) (leb 1 many) front);
      few = leb-true many columns (and_right (is_delimiter d && leb 1 many) (leb many columns) h);
    }

-- what its range asks, and what is out of it
module _ (d many : ℕ) where
  pub no_delimiter : is_delimiter d ≡ false → may_write d many ≡ false
  unfolding may_write
  no_delimiter h = rw h

  pub no_column : many < 1 → may_write d many ≡ false
  unfolding may_write
  no_column h = rw (lt-leb 1 many h, and-false)

  pub many_columns : columns < many → may_write d many ≡ false
  unfolding may_write
  many_columns h = rw (lt-leb many columns h, and-false)

pub in_range : (d : Delimiter) (many : ℕ) → InRange many → may_write (byte_of d) many ≡ true
unfolding may_write
in_range d many h = rw (one_of_four d, le-leb 1 many h.0, le-leb many columns h.1)

module _ (source cells : List ℕ) (many d : ℕ) where
  pub record Passed (room : ℕ) : Type 0 where
    pub may_be : May d many
    pub lines : are_lines source many false many cells ≡ true
    pub fits : length (text_from d source many many cells) ≤ room

  pub not_refused : (room : ℕ) → write_refusal source cells many d room ≡ 0 → Passed room
  unfolding write_refusal
  not_refused room h =
      let (range, h1) = first_way (may_write d many) _ 10 h in
      let (lines, h2) = first_way (are_lines source many false many cells) _ 6 h1 in
      let (fits, h3) = first_way (leb (length (text_from d source many many cells)) room) _ 7 h2 in
      record { may_be = may d many range; lines = lines; fits = leb-true _ room fits }

  pub range_refused : (out : List ℕ) → may_write d many ≡ false
      → (refused out_of_range 0 ≡ counted (written source cells many d (length out))) × (out ≡ filled (written source cells many d (length out)) out)
  unfolding written write_refusal
  range_refused out h = rw h (refl, refl)

  pub wrote_report : {out e : List ℕ} {r : ℕ} → write_refusal source cells many d (length out) ≡ 0 → Wrote out 0 (text_from d source many many cells) e r
      → (done r ≡ counted (written source cells many d (length out))) × (e ≡ filled (written source cells many d (length out)) out)
  unfolding written
  wrote_report h w = rw (eq-eqb _ _ h) (ap done (w.next ∙ omega arith), w.bytes)

  pub refused_report : (out : List ℕ) → (write_refusal source cells many d (length out) ≡ 0 → ⊥)
      → (refused (write_refusal source cells many d (length out)) 0 ≡ counted (written source cells many d (length out)))
      × (out ≡ filled (written source cells many d (length out)) out)
  unfolding written
  refused_report out h = rw (ne_eqb _ _ h) (refl, refl)
