-- The decision is made exactly as P3's rows say; once due, a clause stays due.
use Prim.Native.Nat.{ℕ}
use mathlib.Core.Path.{◌≡◌, refl, sym, ◌∙◌}
use mathlib.Core.Bool.{Bool, true, false, cond, ◌&&◌, false≢true}
use mathlib.Core.Logic.{◌↔◌}
use lib.Dec.{eqb}
use Rattle.counts.specs.Refusals.{not_real, not_a_record, not_comparable}
use Rattle.counts.specs.Result.{Result, refused, done}
use Rattle.counts.proofs.Results.{refused_not_done, done_same}
use Rattle.laws.proofs.Choose.{and_left, and_right, and_both, halves}
use Rattle.calendar.specs.Calendar.{real_date, real_time}
use Rattle.moment.specs.Moment.{real_moment, AtOrAfter}
use Rattle.moment.proofs.Later.{at_or_after_lem, at_or_after_on}
use Rattle.grammar.proofs.Points.{refuted}
use Rattle.grammar.specs.Statement.{Start}
use Rattle.grammar.specs.Statement.Start.{immediate, at_time, at_time_on, when}
use Rattle.start.specs.Due.{Given, OwnReal, Real, AllPermitted, AllComparable, Due, at}
use Rattle.start.specs.Decision.{comparable, value_permitted, constant_permitted, constant_of, condition_refusal, own_real, all_real, clause_refusal, due_refusal, is_due, decision}
use Rattle.start.specs.Rows.{DueRow, five, seven, nineteen, due, not_due, DecidedDue}
use Rattle.start.proofs.Operands.{holds_exactly, comparable_exactly, constant_is, constant_permitted_lem}
use Rattle.start.proofs.Permits.{value_permitted_lem}

-- ---- the decision's tests, each against its sentence

abbrev permits : Given → Start → Bool
permits g immediate = true
permits g (at_time time) = true
permits g (at_time_on time date) = true
permits g (when name o c) = constant_permitted g.bytes c && value_permitted g.value

abbrev compares : Given → Start → Bool
compares g immediate = true
compares g (at_time time) = true
compares g (at_time_on time date) = true
compares g (when name o c) = comparable o g.value (constant_of g.bytes c)

own_exactly : (x : Start) → own_real x ≡ true ↔ OwnReal x
unfolding real_moment
own_exactly immediate = (λ h. tt, λ h. refl)
own_exactly (at_time time) = (λ h. h, λ h. h)
own_exactly (at_time_on time date) = (
  λ h. (and_right (real_date date) (real_time time) h, and_left (real_date date) (real_time time) h),
  λ h. and_both h.1 h.0,
)
own_exactly (when name o c) = (λ h. tt, λ h. refl)

module _ (g : Given) (x : Start) where
  abbrev reals : Bool
  reals = all_real g.date g.time g.taken_up x

  real_exactly : reals ≡ true ↔ Real g x
  unfolding all_real real_moment
  real_exactly = (there, back)
    where
      there : (real_date g.date && real_time g.time && real_date g.taken_up && own_real x) ≡ true → Real g x
      there h =
          let a = halves (real_date g.date && real_time g.time && real_date g.taken_up) (own_real x) h in
          let b = halves (real_date g.date && real_time g.time) (real_date g.taken_up) a.0 in
          let c = halves (real_date g.date) (real_time g.time) b.0 in
          record { present_date = c.0; present_time = c.1; taken_up = b.1; own = (own_exactly x).0 a.1 }

      back : Real g x → (real_date g.date && real_time g.time && real_date g.taken_up && own_real x) ≡ true
      back r = and_both (and_both (and_both r.present_date r.present_time) r.taken_up) ((own_exactly x).1 r.own)

permits_exactly : (g : Given) (x : Start) → permits g x ≡ true ↔ AllPermitted g x
permits_exactly g immediate = (λ h. tt, λ h. refl)
permits_exactly g (at_time time) = (λ h. tt, λ h. refl)
permits_exactly g (at_time_on time date) = (λ h. tt, λ h. refl)
permits_exactly g (when name o c) = (there, back)
  where
    there : (constant_permitted g.bytes c && value_permitted g.value) ≡ true → AllPermitted g (when name o c)
    there h =
        let b = halves (constant_permitted g.bytes c) (value_permitted g.value) h in
        let k = (constant_permitted_lem g.bytes c).0 b.0 in
        (k.0, k.1, k.2, (value_permitted_lem g.value).0 b.1)

    back : AllPermitted g (when name o c) → (constant_permitted g.bytes c && value_permitted g.value) ≡ true
    back (k, is, p, v) = and_both ((constant_permitted_lem g.bytes c).1 (k, is, p)) ((value_permitted_lem g.value).1 v)

-- a constant that stands decides what is compared
compares_exactly : (g : Given) (x : Start) → AllPermitted g x → compares g x ≡ true ↔ AllComparable g x
compares_exactly g immediate p = (λ h. tt, λ h. refl)
compares_exactly g (at_time time) p = (λ h. tt, λ h. refl)
compares_exactly g (at_time_on time date) p = (λ h. tt, λ h. refl)
compares_exactly g (when name o c) (k, is, p, v) = (
  λ h. (k, is, (comparable_exactly o g.value k).0 (rw (constant_is g.bytes c k is) h)),
  λ (j, at, h). rw (← (constant_is g.bytes c j at)) ((comparable_exactly o g.value j).1 h),
)

due_exactly_now : (g : Given) (x : Start) → AllPermitted g x → is_due g x ≡ true ↔ Due g x
due_exactly_now g immediate p = (λ h. tt, λ h. refl)
due_exactly_now g (at_time time) p = at_or_after_lem g.date g.time g.taken_up time
due_exactly_now g (at_time_on time date) p = at_or_after_lem g.date g.time date time
due_exactly_now g (when name o c) (k, is, p, v) = (
  λ h. (k, is, (holds_exactly o g.value k).0 (rw (constant_is g.bytes c k is) h)),
  λ (j, at, h). rw (← (constant_is g.bytes c j at)) ((holds_exactly o g.value j).1 h),
)

-- ---- the rows

abbrev chosen : (real permitted comparable is : Bool) → Result Bool
chosen real permitted comparable is =
    cond real (cond permitted (cond comparable (done is) (refused not_comparable 0)) (refused not_a_record 0)) (refused not_real 0)

refusal_is : (g : Given) (x : Start) → clause_refusal g.bytes g.value x ≡ cond (permits g x) (cond (compares g x) 0 not_comparable) not_a_record
unfolding condition_refusal
refusal_is g immediate = refl
refusal_is g (at_time time) = refl
refusal_is g (at_time_on time date) = refl
refusal_is g (when name o c) = refl

module _ (g : Given) (x : Start) where
  by_tests : (r p c : Bool) → let no = cond r (cond p (cond c 0 not_comparable) not_a_record) not_real in
      cond (eqb no 0) (done (is_due g x)) (refused no 0) ≡ chosen r p c (is_due g x)
  by_tests true true true = refl
  by_tests true true false = refl
  by_tests true false c = refl
  by_tests false p c = refl

  decision_is : decision g x ≡ chosen (reals g x) (permits g x) (compares g x) (is_due g x)
  unfolding decision due_refusal
  decision_is = rw (refusal_is g x) (by_tests (reals g x) (permits g x) (compares g x))

  rows : (r p c i : Bool) → reals g x ≡ r → permits g x ≡ p → compares g x ≡ c → is_due g x ≡ i → DueRow g x (chosen r p c i)
  rows false p c i e f h k = five (λ q. false≢true (sym e ∙ (real_exactly g x).1 q))
  rows true false c i e f h k = seven ((real_exactly g x).0 e) (λ q. false≢true (sym f ∙ (permits_exactly g x).1 q))
  rows true true false i e f h k =
      let q = (permits_exactly g x).0 f in
      nineteen ((real_exactly g x).0 e) q (λ a. false≢true (sym h ∙ (compares_exactly g x q).1 a))
  rows true true true true e f h k =
      let q = (permits_exactly g x).0 f in
      due ((real_exactly g x).0 e) q ((compares_exactly g x q).0 h) ((due_exactly_now g x q).0 k)
  rows true true true false e f h k =
      let q = (permits_exactly g x).0 f in
      not_due ((real_exactly g x).0 e) q ((compares_exactly g x q).0 h) (λ a. false≢true (sym k ∙ (due_exactly_now g x q).1 a))

  row_is : (v : Result Bool) → DueRow g x v → chosen (reals g x) (permits g x) (compares g x) (is_due g x) ≡ v
  row_is v (five f) = rw (refuted (reals g x) (λ e. f ((real_exactly g x).0 e)))
  row_is v (seven r f) = rw ((real_exactly g x).1 r, refuted (permits g x) (λ e. f ((permits_exactly g x).0 e)))
  row_is v (nineteen r p f) =
      rw ((real_exactly g x).1 r, (permits_exactly g x).1 p, refuted (compares g x) (λ e. f ((compares_exactly g x p).0 e)))
  row_is v (due r p c d) =
      rw ((real_exactly g x).1 r, (permits_exactly g x).1 p, (compares_exactly g x p).1 c, (due_exactly_now g x p).1 d)
  row_is v (not_due r p c f) =
      rw (
        (real_exactly g x).1 r,
        (permits_exactly g x).1 p,
        (compares_exactly g x p).1 c,
        refuted (is_due g x) (λ e. f ((due_exactly_now g x p).0 e)),
      )

  pub is_due_exactly : DueRow g x (decision g x) × ((v : Result Bool) → DueRow g x v → decision g x ≡ v)
  is_due_exactly = (
    rw decision_is (rows (reals g x) (permits g x) (compares g x) (is_due g x) refl refl refl refl),
    λ v h. decision_is ∙ row_is v h,
  )

  -- due exactly where everything is in order and P3's sentence holds
  pub due_exactly : decision g x ≡ done true ↔ DecidedDue g x
  due_exactly = (λ e. there (decision g x) is_due_exactly.0 e, λ d. is_due_exactly.1 (done true) (due d.real d.permitted d.comparable d.is))
    where
      there : (v : Result Bool) → DueRow g x v → v ≡ done true → DecidedDue g x
      there v (five f) e = absurd (refused_not_done e)
      there v (seven r f) e = absurd (refused_not_done e)
      there v (nineteen r p f) e = absurd (refused_not_done e)
      there v (due r p c d) e = record { real = r; permitted = p; comparable = c; is = d }
      there v (not_due r p c f) e = absurd (false≢true (done_same e))

-- ---- once due, due at every later moment

later_due : (g : Given) (x : Start) (date time : ℕ) → AtOrAfter date time g.date g.time → Due g x → Due (at date time g) x
later_due g immediate date time h d = tt
later_due g (at_time from) date time h d = at_or_after_on date time g.date g.time g.taken_up from h d
later_due g (at_time_on from on) date time h d = at_or_after_on date time g.date g.time on from h d
later_due g (when name o c) date time h d = d

later_permitted : (g : Given) (x : Start) (date time : ℕ) → AllPermitted g x → AllPermitted (at date time g) x
later_permitted g immediate date time h = tt
later_permitted g (at_time from) date time h = tt
later_permitted g (at_time_on from on) date time h = tt
later_permitted g (when name o c) date time h = h

later_comparable : (g : Given) (x : Start) (date time : ℕ) → AllComparable g x → AllComparable (at date time g) x
later_comparable g immediate date time h = tt
later_comparable g (at_time from) date time h = tt
later_comparable g (at_time_on from on) date time h = tt
later_comparable g (when name o c) date time h = h

pub due_stays : (g : Given) (x : Start) (date time : ℕ) → real_date date ≡ true → real_time time ≡ true → AtOrAfter date time g.date g.time
    → decision g x ≡ done true → decision (at date time g) x ≡ done true
due_stays g x date time real-date real-time h e =
    let d = (due_exactly g x).0 e in
    (due_exactly (at date time g) x).1 (record {
      real = record { present_date = real-date; present_time = real-time; taken_up = d.real.taken_up; own = d.real.own };
      permitted = later_permitted g x date time d.permitted;
      comparable = later_comparable g x date time d.comparable;
      is = later_due g x date time h d.is;
    })
