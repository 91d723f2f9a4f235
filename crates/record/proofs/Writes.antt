-- What the writer's tests give, and what its contract asks where they are passed and where they are not.
use Prim.Native.Nat.{ℕ, ◌+◌, ◌≤◌}
use mathlib.Core.Path.{◌≡◌, refl, sym, ap, ◌∙◌}
use mathlib.Core.Bool.{true, ◌&&◌}
use mathlib.Core.List.{List, ◌++◌, append_assoc}
use native.Mathlib.Omega.{arith}
use lib.Dec.{eqb, leb}
use lib.ListN.{length}
use borrow.Author.Tests.{leb-true, eq-eqb, ne_eqb}
use Rattle.laws.proofs.Choose.{and_left, and_right, choose}
use Rattle.counts.specs.Limits.{text_bytes, class_most, code_most}
use Rattle.counts.proofs.Results.{first_way}
use Rattle.counts.specs.Result.{refused, done}
use Rattle.field.specs.Bytes.{ascii}
use Rattle.field.specs.Part.{Wrote}
use Rattle.field.proofs.Put.{then, as_bytes}
use Rattle.decimal.specs.Digits.{digits, plain_width, plain}
use Rattle.labelled.specs.Labelled.{WroteAfter}
use Rattle.scan.specs.Kinds.{is_text_byte}
use Rattle.scan.specs.Run.{run_end}
use Rattle.moment.specs.Moment.{real_moment, moment_bytes}
use Rattle.record.specs.Record.{Content, content, is_text, is_outcome, in_range, outcome_bytes, record_bytes, fixed_length}
use Rattle.record.specs.Writing.{Fits, write_refusal, written, written_bytes}
use Rattle.record.specs.declared.Outcome.{Outcome}
use Rattle.record.specs.declared.Outcome.TheVariants.{Error}
use Rattle.record.proofs.Lengths.{length_fields, length_record}

-- ---- what the tests give

pub error_range : (class code : ℕ) → (leb class class_most && leb code code_most) ≡ true → (class ≤ class_most) × (code ≤ code_most)
error_range class code h = (
  leb-true class class_most (and_left (leb class class_most) (leb code code_most) h),
  leb-true code code_most (and_right (leb class class_most) (leb code code_most) h),
)

pub record Ranges (limit n : ℕ) (o : Outcome) (text : List ℕ) : Type 0 where
  pub low : 1 ≤ n
  pub high : n ≤ limit
  pub outcome : is_outcome o ≡ true
  pub string : is_text text ≡ true

pub ranges : (limit n : ℕ) (o : Outcome) (text : List ℕ) → in_range limit n o text ≡ true → Ranges limit n o text
unfolding in_range
ranges limit n o text h =
    let front = and_left (leb 1 n && leb n limit && is_outcome o) (is_text text) h in
    let number = and_left (leb 1 n && leb n limit) (is_outcome o) front in
    record {
      low = leb-true 1 n (and_left (leb 1 n) (leb n limit) number);
      high = leb-true n limit (and_right (leb 1 n) (leb n limit) number);
      outcome = and_right (leb 1 n && leb n limit) (is_outcome o) front;
      string = and_right (leb 1 n && leb n limit && is_outcome o) (is_text text) h;
    }

pub short_text : (text : List ℕ) → is_text text ≡ true → length text ≤ text_bytes
unfolding is_text
short_text text h = leb-true (length text) text_bytes (and_left (leb (length text) text_bytes) (eqb (run_end is_text_byte text 0) (length text)) h)

-- ---- the refusal

pub length_is : (n : ℕ) (o : Outcome) (text : List ℕ) (date time r : ℕ) → r ≡ fixed_length o + plain_width n + length text
    → r ≡ length (record_bytes (content n o text date time))
length_is n o text date time r e = e ∙ sym (length_record (content n o text date time))

pub ruleset writes = (choose, length_is)

module _ (limit : ℕ) (c : Content) where
  -- where nothing is refused, the record may be written
  pub not_refused : (out : List ℕ) → write_refusal limit c (length out) ≡ 0 → Fits limit c 0 out
  unfolding write_refusal
  not_refused out h =
      let (range, h1) = first_way (in_range limit c.number c.outcome c.text) _ 6 h in
      let (real, h2) = first_way (real_moment c.date c.time) _ 4 h1 in
      let (room, h3) = first_way (leb (length (record_bytes c)) (length out)) _ 7 h2 in
      record { range = range; real = real; room = omega (arith, leb-true (length (record_bytes c)) (length out) room) }

  pub wrote_record : {out e : List ℕ} {r : ℕ} → write_refusal limit c (length out) ≡ 0 → Wrote out 0 (record_bytes c) e r
      → (done r ≡ written limit c out) × (e ≡ written_bytes limit c out)
  unfolding written written_bytes
  wrote_record h w = rw (eq-eqb _ _ h) (ap done (w.next ∙ omega arith), w.bytes)

  pub refused_record : (out : List ℕ) → (write_refusal limit c (length out) ≡ 0 → ⊥)
      → (refused (write_refusal limit c (length out)) 0 ≡ written limit c out) × (out ≡ written_bytes limit c out)
  unfolding written written_bytes
  refused_record out h = rw (ne_eqb _ _ h) (refl, refl)

-- ---- a record, field by field

pub room_of : {limit : ℕ} {c : Content} {at : ℕ} {out : List ℕ} → Fits limit c at out
    → at + (8 + plain_width c.number + length (outcome_bytes c.outcome) + length c.text + 22) ≤ length out
room_of {c = c} p = omega (arith, p.room, length_fields c)

regroup : (a b c d e : List ℕ) → a ++ b ++ (c ++ d) ++ e ≡ a ++ b ++ c ++ d ++ e
regroup a b c d e = simp append_assoc

pub wrote_fields : (d f g h k e : List ℕ) (at a b i j r n w : ℕ) (o : Outcome) (text : List ℕ) (date time : ℕ) → w ≡ plain_width n
    → WroteAfter d at (ascii "COMMAND ") w n f a → Wrote f a (outcome_bytes o) g b → Wrote g b text h i
    → Wrote h i (ascii "\" " ++ moment_bytes date time) k j → Wrote k j (ascii ";\r\n") e r
    → Wrote d at (record_bytes (content n o text date time)) e r
unfolding record_bytes plain
wrote_fields d f g h k e at a b i j r n w o text date time is p q t u v =
    let number = as_bytes p.wrote (ap (λ (x : ℕ). ascii "COMMAND " ++ digits x n) is) in
    as_bytes (then (then (then (then number q) t) u) v)
    (regroup (ascii "COMMAND " ++ plain n ++ outcome_bytes o) text (ascii "\" ") (moment_bytes date time) (ascii ";\r\n"))

pub wrote_error : (d f g e : List ℕ) (at a b r class code : ℕ) → WroteAfter d at (ascii " ERROR ") 2 class f a → WroteAfter f a (ascii " ") 8 code g b
    → Wrote g b (ascii " \"") e r → Wrote d at (outcome_bytes (Error class code)) e r
wrote_error d f g e at a b r class code p q t = as_bytes (then (then p.wrote q.wrote) t) (simp append_assoc)
