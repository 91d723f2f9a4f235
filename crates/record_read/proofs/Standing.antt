-- Where a permitted record's bytes stand, the record is read there; and where a record was read, a permitted record's bytes stand.
use Prim.Native.Nat.{ℕ, ◌+◌, ◌-◌, ◌≤◌, ◌<◌}
use mathlib.Core.Path.{◌≡◌, refl, sym, ap, ◌∙◌, subst}
use mathlib.Core.Bool.{true, ◌&&◌}
use mathlib.Core.List.{List, ◌∷◌, ◌++◌, append_assoc}
use native.Mathlib.Omega.{arith}
use lib.Dec.{leb, eqb}
use lib.ListN.{length, drop}
use borrow.Author.Tests.{le-leb, leb-true, eq-eqb, eqb-true}
use Rattle.laws.proofs.Choose.{and_left, and_right, and_both}
use Rattle.counts.specs.Limits.{text_bytes}
use Rattle.field.specs.Bytes.{ascii, has_at}
use Rattle.field.specs.Part.{part}
use Rattle.field.proofs.Parts.{part_is, rest_is}
use Rattle.field.proofs.Same.{then_has, has_room}
use Rattle.decimal.specs.Digits.{digits, plain_width, plain}
use Rattle.decimal.proofs.PlainLaws.{plain_some, plain_fits, plain_le}
use Rattle.scan.specs.Kinds.{is_digit, is_text_byte}
use Rattle.scan.specs.Run.{run_end}
use Rattle.labelled.specs.Labelled.{field_after}
use Rattle.labelled.proofs.Fields.{not_field, field_same, pair_same, test_on, field_on, pair_on, word_back, field_done, field_back}
use Rattle.moment.specs.Moment.{real_moment, moment_bytes}
use Rattle.moment.specs.Reading.{moment_after}
use Rattle.moment.proofs.Moments.{length_moment, moment_done, moment_back}
use Rattle.record.specs.Record.{Content, content, in_range, permitted, outcome_bytes, record_bytes}
use Rattle.record.specs.declared.Outcome.{Outcome}
use Rattle.record.specs.declared.Outcome.TheVariants.{Processed, Error}
use Rattle.record.proofs.Lengths.{outcome_length, length_outcome, length_plain, length_fields}
use Rattle.record.proofs.Writes.{ranges, short_text}
use Rattle.record_read.specs.Reading.{number_in, outcome_read, rest_read, record_at, content_of}
use Rattle.record_read.specs.declared.Record.{Record}
use Rattle.record_read.proofs.Outcomes.{outcome_done, outcome_back, OutcomeIs}
use Rattle.record_read.proofs.Texts.{text_end, TextIs, text_back, digits_end}
use Rattle.std.specs.declared.option.Option.{Option}
use Rattle.std.specs.declared.option.Option.TheVariants.{Some, None}

-- ---- the number

number_done : (limit : ℕ) (s : List ℕ) (at n : ℕ) (ys : List ℕ) → 1 ≤ n → n ≤ limit → limit < 100000000
    → drop at s ≡ ascii "COMMAND " ++ (plain n ++ 32 ∷ ys) → number_in limit s at (run_end is_digit s (at + 8) - (at + 8)) ≡ Some n
unfolding number_in plain
number_done limit s at n ys low high most h =
    let w = plain_width n in
    let d = rest_is s at (ascii "COMMAND ") 8 refl (digits w n ++ 32 ∷ ys) (at + 8) refl h in
    rw (
      digits_end s (at + 8) w n ys d,
      le-leb 1 w (plain_some n),
      le-leb w 8 (plain_le n 8 (omega arith) (omega arith)),
      field_done s at (ascii "COMMAND ") w n (32 ∷ ys) (plain_fits n) h,
      le-leb 1 n low,
      le-leb n limit high,
      eq-eqb w w refl,
    )

-- what a number that was read says
record NumberIs (limit : ℕ) (s : List ℕ) (at n : ℕ) : Type 0 where
  pub bytes : drop at s ≡ ascii "COMMAND " ++ (plain n ++ drop (at + 8 + plain_width n) s)
  pub low : leb 1 n ≡ true
  pub high : leb n limit ≡ true

number_in_lem : (limit : ℕ) (s : List ℕ) (at w n : ℕ) → number_in limit s at w ≡ Some n → NumberIs limit s at n
unfolding number_in plain
number_in_lem limit s at w n h =
    let (wide, h1) = test_on None (Some n) not_field (leb 1 w && leb w 8) _ h in
    let (v, p, h2) = field_on None (Some n) not_field (field_after s at (ascii "COMMAND ") w) _ h1 in
    let (t, h3) = test_on None (Some n) not_field (leb 1 v && leb v limit && eqb (plain_width v) w) _ h2 in
    let range = and_left (leb 1 v && leb v limit) (eqb (plain_width v) w) t in
    let e : plain_width v ≡ w = eqb-true (plain_width v) w (and_right (leb 1 v && leb v limit) (eqb (plain_width v) w) t) in
    let b = field_back s at (ascii "COMMAND ") w v (at + 8 + w) refl p in
    subst (NumberIs limit s at) (field_same h3)
    (record {
      bytes = rw e b.0;
      low = and_left (leb 1 v) (leb v limit) range;
      high = and_right (leb 1 v) (leb v limit) range;
    })

-- ---- what follows the text

taken : ℕ → Outcome → (start length date time : ℕ) → Record
taken n o start length date time = record { number = record { 0 = n }; outcome = o; start = start; length = length; date = date; time = time }

rest_done : (s : List ℕ) (n : ℕ) (o : Outcome) (start end date time : ℕ) (ys : List ℕ) → end - start ≤ text_bytes → real_moment date time ≡ true
    → drop end s ≡ ascii "\" " ++ (moment_bytes date time ++ (ascii ";\r\n" ++ ys))
    → rest_read s n o start end ≡ Some (taken n o start (end - start) date time, end + 22)
unfolding rest_read taken
rest_done s n o start end date time ys small real h =
    let d1 = rest_is s end (ascii "\" ") 2 refl _ (end + 2) refl h in
    let d2 = rest_is s (end + 2) (moment_bytes date time) 17 (length_moment date time) _ (end + 19) (omega arith) d1 in
    rw (le-leb (end - start) text_bytes small, moment_done s end (ascii "\" ") date time _ real h, then_has s (end + 19) (ascii ";\r\n") ys d2)

-- what bytes after the text say that were read
record RestIs (s : List ℕ) (n : ℕ) (o : Outcome) (start end : ℕ) (r : Record) (e : ℕ) : Type 0 where
  pub date : ℕ
  pub time : ℕ
  pub small : end - start ≤ text_bytes
  pub bytes : drop end s ≡ ascii "\" " ++ (moment_bytes date time ++ (ascii ";\r\n" ++ drop e s))
  pub inside : e ≤ length s
  pub real : real_moment date time ≡ true
  pub is : taken n o start (end - start) date time ≡ r
  pub next : end + 22 ≡ e

rest_back : (s : List ℕ) (n : ℕ) (o : Outcome) (start end : ℕ) (r : Record) (e : ℕ) → rest_read s n o start end ≡ Some (r, e) → RestIs s n o start end r e
unfolding rest_read taken
rest_back s n o start end r e h =
    let x : Option (Record × ℕ) = Some (r, e) in
    let (t, h1) = test_on None x not_field (leb (end - start) text_bytes) _ h in
    let (day, clock, p, h2) = pair_on None x not_field (moment_after s end (ascii "\" ")) _ h1 in
    let (q, h3) = test_on None x not_field (has_at s (end + 19) (ascii ";\r\n")) _ h2 in
    let (is, last) = pair_same h3 in
    let (d0, real) = moment_back s end (ascii "\" ") day clock (end + 19) (omega arith) p in
    let d1 = word_back s (end + 19) (ascii ";\r\n") e (omega arith) q in
    record {
      date = day;
      time = clock;
      small = leb-true (end - start) text_bytes t;
      bytes = d0 ∙ ap (λ (l : List ℕ). ascii "\" " ++ (moment_bytes day clock ++ l)) d1;
      inside = omega (arith, has_room s (end + 19) (ascii ";\r\n") (omega arith) q);
      real = real;
      is = is;
      next = last;
    }

-- ---- the whole

-- an outcome begins with a space
outcome_first : (o : Outcome) (zs : List ℕ) → (ys : List ℕ) × (outcome_bytes o ++ zs ≡ 32 ∷ ys)
outcome_first Processed zs = (_, refl)
outcome_first (Error class code) zs = (_, refl)

-- a record's fields, one after the other, and what follows it
fields : (a b c d e f g ys : List ℕ) → (a ++ b ++ c ++ d ++ e ++ f ++ g) ++ ys ≡ a ++ (b ++ (c ++ (d ++ (e ++ (f ++ (g ++ ys))))))
fields a b c d e f g ys = simp append_assoc

-- what follows the text
closing : Content → List ℕ → List ℕ
closing c ys = ascii "\" " ++ (moment_bytes c.date c.time ++ (ascii ";\r\n" ++ ys))

record_fields : (c : Content) (ys : List ℕ)
    → record_bytes c ++ ys ≡ ascii "COMMAND " ++ (plain c.number ++ (outcome_bytes c.outcome ++ (c.text ++ closing c ys)))
unfolding record_bytes closing
record_fields c ys =
    fields (ascii "COMMAND ") (plain c.number) (outcome_bytes c.outcome) c.text (ascii "\" ") (moment_bytes c.date c.time) (ascii ";\r\n") ys

-- where the text of a record begins that stands at a place
start_of : ℕ → Content → ℕ
start_of at c = at + 8 + plain_width c.number + outcome_length c.outcome

-- the record that a content is read as there
pub read_as : ℕ → Content → Record
read_as at c = taken c.number c.outcome (start_of at c) (length c.text) c.date c.time

module _ (s : List ℕ) (at : ℕ) (c : Content) (ys : List ℕ) (h : drop at s ≡ record_bytes c ++ ys) where
  -- the outcome stands after the number, and the text after the outcome
  fields_there : (drop (at + 8 + plain_width c.number) s ≡ outcome_bytes c.outcome ++ (c.text ++ closing c ys))
      × (drop (start_of at c) s ≡ c.text ++ closing c ys)
  unfolding start_of
  fields_there =
      let w = plain_width c.number in
      let o = c.outcome in
      let d1 = rest_is s at (ascii "COMMAND ") 8 refl _ (at + 8) refl (h ∙ record_fields c ys) in
      let d2 = rest_is s (at + 8) (plain c.number) w (length_plain c.number) _ (at + 8 + w) refl d1 in
      (d2, rest_is s (at + 8 + w) (outcome_bytes o) (outcome_length o) (length_outcome o) _ (at + 8 + w + outcome_length o) refl d2)

  pub record_done : (limit : ℕ) → limit < 100000000 → permitted limit c ≡ true → record_at limit s at ≡ Some (read_as at c, at + length (record_bytes c))
  unfolding record_at permitted read_as closing start_of
  record_done limit most ok =
      let n = c.number in
      let o = c.outcome in
      let text = c.text in
      let start = start_of at c in
      let end = start + length text in
      let range = ranges limit n o text (and_left (in_range limit n o text) (real_moment c.date c.time) ok) in
      let real = and_right (in_range limit n o text) (real_moment c.date c.time) ok in
      let (zs, space) = outcome_first o (text ++ closing c ys) in
      let (d2, d3) = fields_there in
      let d4 = rest_is s start text (length text) refl (closing c ys) end refl d3 in
      let e : end - start ≡ length text = omega arith in
      let last : end + 22 ≡ at + length (record_bytes c) = omega (arith, length_fields c, length_outcome o) in
      rw (
        number_done limit s at n zs range.low range.high most (h ∙ record_fields c ys ∙ ap (λ (l : List ℕ). ascii "COMMAND " ++ (plain n ++ l)) space),
        outcome_done s (at + 8 + plain_width n) o (text ++ closing c ys) range.outcome d2,
        text_end s start text _ range.string d3,
        rest_done s n o start end c.date c.time ys (omega (arith, short_text text range.string)) real d4,
        e,
        last,
      )

  -- what that record says of the bytes is the content
  pub content_same : content_of s (read_as at c) ≡ c
  unfolding read_as taken
  content_same =
      ap (λ (l : List ℕ). content c.number c.outcome l c.date c.time)
      (part_is s (start_of at c) c.text (length c.text) refl (closing c ys) fields_there.1)

-- what bytes say from which a record was read
pub record Was (limit : ℕ) (s : List ℕ) (at : ℕ) (r : Record) (e : ℕ) : Type 0 where
  pub bytes : drop at s ≡ record_bytes (content_of s r) ++ drop e s
  pub ok : permitted limit (content_of s r) ≡ true
  pub next : e ≡ at + length (record_bytes (content_of s r))
  pub text : r.start + r.length ≤ e
  pub inside : e ≤ length s

put_together : (limit : ℕ) (s : List ℕ) (at n : ℕ) (o : Outcome) (start end : ℕ) (r : Record) (e : ℕ) → NumberIs limit s at n
    → OutcomeIs s (at + 8 + plain_width n) o start → TextIs s start end → RestIs s n o start end r e → Was limit s at r e
unfolding permitted in_range taken closing
put_together limit s at n o start end r e number outcome text rest =
    let c = content n o (part s start (end - start)) rest.date rest.time in
    subst (λ (q : Record). Was limit s at q e) rest.is
    (record {
      bytes =
          number.bytes
          ∙ ap (λ (l : List ℕ). ascii "COMMAND " ++ (plain n ++ l))
          (outcome.bytes ∙ ap (λ (l : List ℕ). outcome_bytes o ++ l) (text.bytes ∙ ap (λ (l : List ℕ). part s start (end - start) ++ l) rest.bytes))
          ∙ sym (record_fields c (drop e s));
      ok = and_both (and_both (and_both (and_both number.low number.high) outcome.ok) text.ok) rest.real;
      next = omega (arith, length_fields c, length_outcome o, outcome.next, text.from, text.long, rest.next);
      text = omega (arith, text.from, rest.next);
      inside = rest.inside;
    })

pub record_back : (limit : ℕ) (s : List ℕ) (at : ℕ) (r : Record) (e : ℕ) → record_at limit s at ≡ Some (r, e) → Was limit s at r e
unfolding record_at
record_back limit s at r e h =
    let w = run_end is_digit s (at + 8) - (at + 8) in
    let (n, p, h1) = field_on None (Some (r, e)) not_field (number_in limit s at w) _ h in
    let (o, start, q, h2) = pair_on None (Some (r, e)) not_field (outcome_read s (at + 8 + plain_width n)) _ h1 in
    let end = run_end is_text_byte s start in
    let rest = rest_back s n o start end r e h2 in
    put_together limit s at n o start end r e
    (number_in_lem limit s at w n p)
    (outcome_back s (at + 8 + plain_width n) o start q)
    (text_back s start rest.small)
    rest
