-- An outcome that is there reads as what was written, and an outcome that was read is there.
use Prim.Native.Nat.{ℕ, ◌+◌, ◌≤◌}
use mathlib.Core.Path.{◌≡◌, refl, ◌∙◌, subst}
use mathlib.Core.Bool.{Bool, true, false, cond}
use mathlib.Core.List.{List, ◌++◌, append_assoc}
use native.Mathlib.Omega.{arith}
use lib.Dec.{leb}
use lib.ListN.{drop}
use borrow.Author.Tests.{le-leb, leb-true}
use Rattle.laws.proofs.Choose.{and_left, and_right, and_both}
use Rattle.counts.specs.Limits.{class_most, code_most}
use Rattle.field.specs.Bytes.{ascii, same, has_at}
use Rattle.field.specs.Part.{part}
use Rattle.field.proofs.Parts.{rest_is}
use Rattle.field.proofs.Same.{then_has}
use Rattle.decimal.specs.Digits.{digits}
use Rattle.decimal.proofs.Laws.{length_digits}
use Rattle.record.specs.Record.{is_outcome, outcome_bytes}
use Rattle.labelled.specs.Labelled.{field_after}
use Rattle.record_read.specs.Reading.{error_read, outcome_read}
use Rattle.record.specs.declared.Outcome.{Outcome}
use Rattle.record.specs.declared.Outcome.TheVariants.{Processed, Error}
use Rattle.record.proofs.Lengths.{outcome_length}
use Rattle.labelled.proofs.Fields.{not_field, pair_same, test_on, field_on, word_back, field_done, field_back}
use Rattle.std.specs.declared.option.Option.{Option}
use Rattle.std.specs.declared.option.Option.TheVariants.{Some, None}

-- the two words differ in their second byte
not_processed : (s : List ℕ) (at : ℕ) (ys : List ℕ) → drop at s ≡ ascii " ERROR " ++ ys → has_at s at (ascii " PROCESSED \"") ≡ false
unfolding has_at same part
not_processed s at ys h = rw h

pub outcome_done : (s : List ℕ) (at : ℕ) (o : Outcome) (ys : List ℕ) → is_outcome o ≡ true → drop at s ≡ outcome_bytes o ++ ys
    → outcome_read s at ≡ Some (o, at + outcome_length o)
unfolding outcome_read error_read
outcome_done s at Processed ys ok h = rw (then_has s at (ascii " PROCESSED \"") ys h)
outcome_done s at (Error class code) ys ok h =
    let small_class : class ≤ class_most = leb-true class class_most (and_left (leb class class_most) (leb code code_most) ok) in
    let small_code : code ≤ code_most = leb-true code code_most (and_right (leb class class_most) (leb code code_most) ok) in
    let d0 : drop at s ≡ ascii " ERROR " ++ (digits 2 class ++ (ascii " " ++ (digits 8 code ++ (ascii " \"" ++ ys)))) = h ∙ simp append_assoc in
    let d1 = rest_is s at (ascii " ERROR ") 7 refl _ (at + 7) refl d0 in
    let d2 = rest_is s (at + 7) (digits 2 class) 2 (length_digits 2 class) _ (at + 9) (omega arith) d1 in
    let d3 = rest_is s (at + 9) (ascii " ") 1 refl _ (at + 10) (omega arith) d2 in
    let d4 = rest_is s (at + 10) (digits 8 code) 8 (length_digits 8 code) _ (at + 18) (omega arith) d3 in
    rw (
      not_processed s at _ d0,
      field_done s at (ascii " ERROR ") 2 class _ (omega arith) d0,
      field_done s (at + 9) (ascii " ") 8 code _ (omega arith) d2,
      then_has s (at + 18) (ascii " \"") ys d4,
    )

-- what an outcome that was read says
pub record OutcomeIs (s : List ℕ) (at : ℕ) (o : Outcome) (start : ℕ) : Type 0 where
  pub bytes : drop at s ≡ outcome_bytes o ++ drop start s
  pub ok : is_outcome o ≡ true
  pub next : start ≡ at + outcome_length o

found : {p o : Outcome} {k start : ℕ} (s : List ℕ) (at : ℕ) → OutcomeIs s at p k → ◌≡◌ {A = Option (Outcome × ℕ)} (Some (p, k)) (Some (o, start)) → OutcomeIs s at o start
found {p} {o} {k} {start} s at i h =
    let (e, f) = pair_same h in
    subst (λ (q : Outcome). OutcomeIs s at q start) e (subst (λ (m : ℕ). OutcomeIs s at p m) f i)

error_back : (s : List ℕ) (at : ℕ) (o : Outcome) (start : ℕ) → error_read s at ≡ Some (o, start) → OutcomeIs s at o start
unfolding error_read
error_back s at o start h =
    let r : Option (Outcome × ℕ) = Some (o, start) in
    let (class, p, h1) = field_on None r not_field (field_after s at (ascii " ERROR ") 2) _ h in
    let (code, q, h2) = field_on None r not_field (field_after s (at + 9) (ascii " ") 8) _ h1 in
    let (t, h3) = test_on None r not_field (has_at s (at + 18) (ascii " \"")) _ h2 in
    let (d0, small_class) = field_back s at (ascii " ERROR ") 2 class (at + 9) (omega arith) p in
    let (d1, small_code) = field_back s (at + 9) (ascii " ") 8 code (at + 18) (omega arith) q in
    let d2 : drop (at + 18) s ≡ ascii " \"" ++ drop (at + 20) s = word_back s (at + 18) (ascii " \"") (at + 20) (omega arith) t in
    found s at
    (record {
      bytes = rw (d0, d1, d2) (simp append_assoc);
      ok = and_both (le-leb class class_most (omega arith)) (le-leb code code_most (omega arith));
      next = refl;
    })
    h3

pub outcome_back : (s : List ℕ) (at : ℕ) (o : Outcome) (start : ℕ) → outcome_read s at ≡ Some (o, start) → OutcomeIs s at o start
unfolding outcome_read
outcome_back s at o start h = go (has_at s at (ascii " PROCESSED \"")) refl h
  where
    go : (b : Bool) → has_at s at (ascii " PROCESSED \"") ≡ b → cond b (Some (Processed, at + 12)) (error_read s at) ≡ Some (o, start)
        → OutcomeIs s at o start
    go true t e = found s at (record { bytes = word_back s at (ascii " PROCESSED \"") (at + 12) refl t; ok = refl; next = refl }) e
    go false t e = error_back s at o start e
