-- A moment that is there reads as what was written, a moment that was read is there, and what the answers say in the form in which readers ask for it.
use Prim.Native.Nat.{ℕ, ◌+◌, ◌*◌, ◌/◌, ◌%◌, ◌≤◌, ◌<◌}
use mathlib.Core.Path.{◌≡◌, refl, sym, ap, ◌∙◌, subst₂}
use mathlib.Core.Bool.{true}
use mathlib.Core.List.{List, ◌++◌, append_assoc}
use native.Mathlib.Omega.{arith}
use lib.ListN.{length, drop, length-append, length-drop}
use Rattle.laws.proofs.Choose.{and_left, and_right}
use Rattle.field.specs.Bytes.{ascii}
use Rattle.field.specs.Part.{Wrote}
use Rattle.field.proofs.Parts.{rest_is}
use Rattle.field.proofs.Put.{then, as_bytes}
use Rattle.decimal.specs.Digits.{digits}
use Rattle.decimal.proofs.Laws.{length_digits}
use Rattle.calendar.specs.Calendar.{real_date, real_time}
use Rattle.calendar.proofs.Laws.{date_lt, time_lt}
use Rattle.labelled.specs.Labelled.{field_after, WroteAfter}
use Rattle.labelled.proofs.Fields.{not_field, field_same, pair_same, test_on, field_on, field_done, field_back, fields}
use Rattle.moment.specs.Moment.{real_moment, time_bytes, moment_bytes}
use Rattle.moment.specs.Reading.{time_after, moment_after}
use Rattle.std.specs.declared.option.Option.{Option}
use Rattle.std.specs.declared.option.Option.TheVariants.{Some, None}

-- a real date has at most eight digits, and a real time at most six
pub real_lt : (date time : ℕ) → real_moment date time ≡ true → (date < 100000000) × (time < 1000000)
unfolding real_moment
real_lt date time h = (date_lt date (and_left (real_date date) (real_time time) h), time_lt time (and_right (real_date date) (real_time time) h))

pub length_moment : (date time : ℕ) → length (moment_bytes date time) ≡ 17
unfolding moment_bytes
length_moment date time = simp (length-append, length_digits) (omega arith)

-- ---- the time

-- a time's fields after a word, one after the other
time_fields : (word a b c d e ys : List ℕ) → word ++ ((a ++ b ++ c ++ d ++ e) ++ ys) ≡ word ++ (a ++ (b ++ (c ++ (d ++ (e ++ ys)))))
time_fields word a b c d e ys = simp append_assoc

-- hours, minutes and seconds are the digits of the time
parts : (hour minute second : ℕ) → hour < 100 → minute < 100 → second < 100 → (time : ℕ) → hour * 10000 + minute * 100 + second ≡ time
    → (hour ≡ time / 10000) × (minute ≡ time / 100 % 100) × (second ≡ time % 100)
parts hour minute second h m x time e = omega arith

joined : (word : List ℕ) (hour minute second time : ℕ) (ys : List ℕ)
    → (hour ≡ time / 10000) × (minute ≡ time / 100 % 100) × (second ≡ time % 100)
    → word ++ (time_bytes time ++ ys) ≡ word ++ (digits 2 hour ++ (ascii ":" ++ (digits 2 minute ++ (ascii ":" ++ (digits 2 second ++ ys)))))
joined word hour minute second time ys (h, m, x) =
    rw (h, m, x)
    (time_fields word (digits 2 (time / 10000)) (ascii ":") (digits 2 (time / 100 % 100)) (ascii ":") (digits 2 (time % 100)) ys)

module _ (s : List ℕ) (at : ℕ) (word : List ℕ) where
  pub time_done : (time : ℕ) (ys : List ℕ) → time < 1000000 → drop at s ≡ word ++ (time_bytes time ++ ys) → time_after s at word ≡ Some time
  unfolding time_after
  time_done time ys small h =
      let hour = time / 10000 in
      let minute = time / 100 % 100 in
      let second = time % 100 in
      let k = at + length word in
      let d0 = h ∙ joined word hour minute second time ys (refl, refl, refl) in
      let d1 = rest_is s at word (length word) refl _ k refl d0 in
      let d2 = rest_is s k (digits 2 hour) 2 (length_digits 2 hour) _ (k + 2) refl d1 in
      let d3 = rest_is s (k + 2) (ascii ":") 1 refl _ (k + 2 + 1) refl d2 in
      let d4 = rest_is s (k + 2 + 1) (digits 2 minute) 2 (length_digits 2 minute) _ (k + 2 + 3) (omega arith) d3 in
      let e : hour * 10000 + minute * 100 + second ≡ time = omega arith in
      rw (
        field_done s at word 2 hour _ (omega arith) d0,
        field_done s (k + 2) (ascii ":") 2 minute _ (omega arith) d2,
        field_done s (k + 2 + 3) (ascii ":") 2 second ys (omega arith) d4,
        e,
      )

  pub time_back : (time next : ℕ) → next ≡ at + length word + 8 → time_after s at word ≡ Some time
      → (drop at s ≡ word ++ (time_bytes time ++ drop next s)) × (time < 1000000)
  unfolding time_after
  time_back time next k h =
      let r = Some time in
      let (hour, p, h1) = field_on None r not_field (field_after s at word 2) _ h in
      let (minute, q, h2) = field_on None r not_field (field_after s (at + length word + 2) (ascii ":") 2) _ h1 in
      let (second, u, h3) = field_on None r not_field (field_after s (at + length word + 2 + 3) (ascii ":") 2) _ h2 in
      let (d0, b0) = field_back s at word 2 hour (at + length word + 2) refl p in
      let (d1, b1) = field_back s (at + length word + 2) (ascii ":") 2 minute (at + length word + 2 + 3) (omega arith) q in
      let (d2, b2) = field_back s (at + length word + 2 + 3) (ascii ":") 2 second next (omega arith) u in
      let e = field_same h3 in
      let digits_are = parts hour minute second b0 b1 b2 time e in
      (rw (joined word hour minute second time (drop next s) digits_are, d0, d1, d2), omega arith)

-- ---- the moment

three_fields : (word a b c ys : List ℕ) → word ++ ((a ++ b ++ c) ++ ys) ≡ word ++ (a ++ (b ++ (c ++ ys)))
three_fields word a b c ys = simp append_assoc

module _ (s : List ℕ) (at : ℕ) (word : List ℕ) where
  moment_fields : (date time : ℕ) (ys : List ℕ) → word ++ (moment_bytes date time ++ ys) ≡ word ++ (digits 8 date ++ (ascii " " ++ (time_bytes time ++ ys)))
  unfolding moment_bytes
  moment_fields date time ys = three_fields word (digits 8 date) (ascii " ") (time_bytes time) ys

  pub moment_done : (date time : ℕ) (ys : List ℕ) → real_moment date time ≡ true → drop at s ≡ word ++ (moment_bytes date time ++ ys)
      → moment_after s at word ≡ Some (date, time)
  unfolding moment_after
  moment_done date time ys real h =
      let (small-date, small-time) = real_lt date time real in
      let k = at + length word in
      let d0 = h ∙ moment_fields date time ys in
      let d1 = rest_is s at word (length word) refl _ k refl d0 in
      let d2 = rest_is s k (digits 8 date) 8 (length_digits 8 date) _ (k + 8) refl d1 in
      rw (field_done s at word 8 date _ small-date d0, time_done s (k + 8) (ascii " ") time ys small-time d2, real)

  pub moment_back : (date time next : ℕ) → next ≡ at + length word + 17 → moment_after s at word ≡ Some (date, time)
      → (drop at s ≡ word ++ (moment_bytes date time ++ drop next s)) × (real_moment date time ≡ true)
  unfolding moment_after
  moment_back date time next k h =
      let r : Option (ℕ × ℕ) = Some (date, time) in
      let (d, p, h1) = field_on None r not_field (field_after s at word 8) _ h in
      let (t, q, h2) = field_on None r not_field (time_after s (at + length word + 8) (ascii " ")) _ h1 in
      let (real, h3) = test_on None r not_field (real_moment d t) _ h2 in
      let (e, f) = pair_same h3 in
      let d0 = (field_back s at word 8 d (at + length word + 8) refl p).0 in
      let d1 = (time_back s (at + length word + 8) (ascii " ") t next (omega arith) q).0 in
      subst₂ (λ (d t : ℕ). (drop at s ≡ word ++ (moment_bytes d t ++ drop next s)) × (real_moment d t ≡ true)) e f
      (rw (moment_fields d t (drop next s), d0, d1), real)

-- ---- written field by field

pub wrote_time : (d f g e : List ℕ) (at a b r : ℕ) (word : List ℕ) (time hour minute second : ℕ)
    → (hour ≡ time / 10000) × (minute ≡ time / 100 % 100) × (second ≡ time % 100) → WroteAfter d at word 2 hour f a
    → WroteAfter f a (ascii ":") 2 minute g b → WroteAfter g b (ascii ":") 2 second e r → Wrote d at (word ++ time_bytes time) e r
wrote_time d f g e at a b r word time hour minute second (h, m, x) u v w =
    as_bytes (then (then u.wrote v.wrote) w.wrote) (rw (h, m, x) (simp append_assoc))

pub wrote_moment : (d f e : List ℕ) (at a r : ℕ) (word : List ℕ) (date time : ℕ) → WroteAfter d at word 8 date f a → Wrote f a (ascii " " ++ time_bytes time) e r
    → Wrote d at (word ++ moment_bytes date time) e r
unfolding moment_bytes
wrote_moment d f e at a r word date time u v = as_bytes (then u.wrote v) (simp append_assoc)

pub time_of : (r : Option ℕ) (t u : ℕ) → r ≡ Some t → t ≡ u → r ≡ Some u
time_of r t u p q = p ∙ ap Some q

-- where a moment was read, it ends within the bytes
pub moment_room : (s : List ℕ) (at : ℕ) (word : List ℕ) (d : Option (ℕ × ℕ)) (date time : ℕ) → 0 < length word → d ≡ moment_after s at word
    → d ≡ Some (date, time) → at + length word + 17 ≤ length s
moment_room s at word d date time some p q =
    let k = at + length word + 17 in
    omega (arith, simp (length-append, length-drop, length_moment) at (ap length (moment_back s at word date time k refl (sym p ∙ q)).0))

pub ruleset moments = (fields, time_of)
