-- What `is_due` answers (document 02, P3), and what its answer says.
use Rattle.std.specs.Prelude.{ℕ, ◌+◌, ◌*◌, ◌^◌, ◌≤◌, ◌<◌, ◌≡◌, Bool, true, false, cond, not, ◌&&◌, ◌||◌, List, ◌⊎◌, eqb, ltb, ℤ, pos, negsuc, nat_abs}
use Rattle.std.specs.Int.Signed.{lt_z}
use Rattle.std.specs.declared.result.Result.{Result as Returned}
use Rattle.counts.specs.Limits.{number_digits}
use Rattle.counts.specs.Refusals.{not_real, not_a_record, not_comparable}
use Rattle.counts.specs.Result.{Result, refused, done, paper}
use Rattle.counts.specs.declared.Refusal.{Refusal}
use Rattle.calendar.specs.Calendar.{real_date, real_time}
use Rattle.field.specs.Bytes.{same}
use Rattle.moment.specs.Moment.{real_moment, at_or_after}
use Rattle.record.specs.Record.{is_text}
use Rattle.token.specs.Token.{is_text_at}
use Rattle.grammar.specs.Statement as read
use Rattle.grammar.specs.Statement.{Operator, Number, Start}
use Rattle.grammar.specs.Statement.Operator.{equal, not_equal, above, below, at_least, at_most}
use Rattle.grammar.specs.Statement.Start.{immediate, at_time, at_time_on, when}
use Rattle.item.specs.Tokens.{paper_number}
use Rattle.job.specs.Statement.{text_at}
use Rattle.start.specs.Due.{Compared, number, text, Given, scaled}
use Rattle.start.specs.declared.Present.{Present}
use Rattle.start.specs.declared.Present.TheVariants as present

-- ---- what is given, and 02's value of each answer

-- the present value: a number, or the bytes given with it
abbrev pub present_value : Present → List ℕ → Compared
present_value (present.Number n) c = number (paper_number n)
present_value present.Text c = text c

abbrev pub given : List ℕ → ℕ → ℕ → ℕ → Compared → Given
given bytes date time taken_up value = record { bytes = bytes; date = date; time = time; taken_up = taken_up; value = value }

-- yes where the clause is due
abbrev pub paper_decision : Returned Bool Refusal → Result Bool
paper_decision = paper (λ due. due)

-- ---- Need not be believed: the decision as code makes it. `decides` of the page of claims ties it to `Due`.

-- what an operator makes of two numbers of which the first is less, or greater
abbrev pub by_order : Operator → (less greater : Bool) → Bool
by_order equal less greater = not less && not greater
by_order not_equal less greater = less || greater
by_order above less greater = greater
by_order below less greater = less
by_order at_least less greater = not less
by_order at_most less greater = not greater

unfoldable pub number_holds : Operator → Number → Number → Bool
number_holds o v k = by_order o (lt_z (scaled v k) (scaled k v)) (lt_z (scaled k v) (scaled v k))

abbrev pub no_order : Operator → Bool
no_order equal = true
no_order not_equal = true
no_order above = false
no_order below = false
no_order at_least = false
no_order at_most = false

-- what an operator makes of two strings that are the same, or not
abbrev pub by_same : Operator → Bool → Bool
by_same equal is = is
by_same not_equal is = not is
by_same above is = false
by_same below is = false
by_same at_least is = false
by_same at_most is = false

abbrev pub holds : Operator → Compared → Compared → Bool
holds o (number v) (number k) = number_holds o v k
holds o (text v) (text k) = by_same o (same k v)
holds o (number v) (text k) = false
holds o (text v) (number k) = false

abbrev pub comparable : Operator → Compared → Compared → Bool
comparable o (number v) (number k) = true
comparable o (text v) (text k) = no_order o
comparable o (number v) (text k) = false
comparable o (text v) (number k) = false

unfoldable pub is_permitted : Number → Bool
is_permitted n = ltb (nat_abs n.mantissa) (10 ^ number_digits) && ltb n.scale number_digits

abbrev pub value_permitted : Compared → Bool
value_permitted (number n) = is_permitted n
value_permitted (text c) = is_text c

abbrev pub constant_permitted : List ℕ → read.Value → Bool
constant_permitted s (read.number n) = is_permitted n
constant_permitted s (read.text quote) = is_text_at s quote

abbrev pub constant_of : List ℕ → read.Value → Compared
constant_of s (read.number n) = number n
constant_of s (read.text quote) = text (text_at s quote)

-- the refusal of a condition, and 0 for none
unfoldable pub condition_refusal : List ℕ → Operator → read.Value → Compared → ℕ
condition_refusal s o c v =
    cond (constant_permitted s c && value_permitted v) (cond (comparable o v (constant_of s c)) 0 not_comparable) not_a_record

abbrev pub own_real : Start → Bool
own_real immediate = true
own_real (at_time time) = real_time time
own_real (at_time_on time date) = real_moment date time
own_real (when name o c) = true

unfoldable pub all_real : ℕ → ℕ → ℕ → Start → Bool
all_real date time taken_up x = real_moment date time && real_date taken_up && own_real x

-- the refusal of a clause whose dates and times are real
abbrev pub clause_refusal : List ℕ → Compared → Start → ℕ
clause_refusal s v immediate = 0
clause_refusal s v (at_time time) = 0
clause_refusal s v (at_time_on time date) = 0
clause_refusal s v (when name o c) = condition_refusal s o c v

module _ (g : Given) where
  unfoldable pub due_refusal : Start → ℕ
  due_refusal x = cond (all_real g.date g.time g.taken_up x) (clause_refusal g.bytes g.value x) not_real

  abbrev pub is_due : Start → Bool
  is_due immediate = true
  is_due (at_time time) = at_or_after g.date g.time g.taken_up time
  is_due (at_time_on time date) = at_or_after g.date g.time date time
  is_due (when name o c) = holds o g.value (constant_of g.bytes c)

  unfoldable pub decision : Start → Result Bool
  decision x = cond (eqb (due_refusal x) 0) (done (is_due x)) (refused (due_refusal x) 0)

-- ---- Need not be believed: it binds functions inside alone, and no claim cites it. How far a number stands above the lowest that is compared: a mantissa is
-- multiplied by ten at most as often as it takes to go beyond every other.

abbrev pub negative : ℤ → Bool
negative (pos n) = false
negative (negsuc n) = true

abbrev pub mantissa_limit : ℕ
mantissa_limit = 10 ^ number_digits

-- r is x, or both are beyond every mantissa
pub record Grown (x r : ℕ) : Type 0 where
  pub as_far : (r ≡ x) ⊎ ((mantissa_limit ≤ r) × (mantissa_limit ≤ x))
  pub most : r < 10 * mantissa_limit

-- r stands for a magnitude x with its sign
pub record Levelled (minus : Bool) (x r : ℕ) : Type 0 where
  pub size : ℕ
  pub grown : Grown x size
  pub level : r + cond minus size 0 ≡ 10 * mantissa_limit + cond minus 0 size
