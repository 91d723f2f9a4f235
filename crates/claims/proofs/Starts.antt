-- A start clause that was read is in order by itself: its time and its date are real, and its constant is one that 01 permits. So 5 and 7 then speak of what is
-- given with it.
use Prim.Native.Nat.{ℕ, ◌-◌}
use mathlib.Core.Path.{◌≡◌, refl, subst}
use mathlib.Core.Bool.{Bool, true, false, cond, false≢true}
use mathlib.Core.List.{List, [], ◌∷◌, ◌++◌}
use mathlib.Core.Logic.{inl, inr}
use native.Mathlib.Omega.{arith}
use lib.Dec.{eqb}
use Rattle.counts.specs.Result.{done}
use Rattle.calendar.specs.Calendar.{real_date, real_time}
use Rattle.field.specs.Part.{part}
use Rattle.scan.specs.Run.{blank_end}
use Rattle.word.specs.declared.Word.{Word}
use Rattle.word.specs.declared.Word.TheVariants as word
use Rattle.token.specs.Token.{WholeString, is_text_at, content_at, next_token}
use Rattle.token.specs.declared.Token.{Token}
use Rattle.token.specs.declared.Token.TheVariants as token
use Rattle.token.proofs.Whole.{whole_string_exactly, string_token_exactly}
use Rattle.number.specs.Number.{number_of}
use Rattle.number.specs.declared.Number.{Number}
use Rattle.grammar.specs.declared.StartClause.{StartClause}
use Rattle.grammar.specs.Grammar.{Class}
use Rattle.grammar.specs.Grammar as class
use Rattle.grammar.specs.Statement as read
use Rattle.grammar.specs.Productions as production
use Rattle.grammar.specs.Productions.{Said, Placed, Any, Other, Ended}
use Rattle.item.specs.Tokens.{word_class, value_of, date_class, eight_at, number_class, date_number, time_number, time_class, paper_number, says_number, item, item_of, next_item, After}
use Rattle.item.specs.Tokens as items
use Rattle.item.proofs.NumberTokens.{number_is_small}
use Rattle.statement.specs.declared.Statement.{Statement}
use Rattle.meaning.specs.Paper.{paper_statement}
use Rattle.job.specs.Statement.{placed, read_statement}
use Rattle.job_claims.proofs.Statements.{reading_exactly}
use Rattle.start.specs.Due.{Given, Permitted, OwnReal, AllPermitted, HasClause}
use Rattle.start.specs.Due as start
use Rattle.std.specs.declared.option.Option.{Option}
use Rattle.std.specs.declared.option.Option.TheVariants.{Some, None}

-- ---- what a token of a file says, by its class

abbrev InOrder : List ℕ → Class → ℕ → Said → Type 0
InOrder s class.JOB a x = Unit {0}
InOrder s class.RESPONSE a x = Unit {0}
InOrder s class.UPLOAD a x = Unit {0}
InOrder s class.DOWNLOAD a x = Unit {0}
InOrder s class.GETINFO a x = Unit {0}
InOrder s class.ABORT a x = Unit {0}
InOrder s class.REPORT a x = Unit {0}
InOrder s class.EVENT a x = Unit {0}
InOrder s class.START a x = Unit {0}
InOrder s class.ACTIVE a x = Unit {0}
InOrder s class.IMMEDIATE a x = Unit {0}
InOrder s class.reserved a x = Unit {0}
InOrder s class.name a x = Unit {0}
InOrder s class.TIME≥ a x = Unit {0}
InOrder s class.number a x = Permitted (start.number x.number)
InOrder s class.date a x = (real_date x.moment ≡ true) × Permitted (start.number x.number)
InOrder s class.unreal_date a x = Permitted (start.number x.number)
InOrder s class.time a x = real_time x.moment ≡ true
InOrder s class.unreal_time a x = Unit {0}
InOrder s class.string a x = is_text_at s a ≡ true
InOrder s class.operator a x = Unit {0}
InOrder s class.semicolon a x = Unit {0}

word_in_order : (s : List ℕ) (a : ℕ) (x : Said) (w : Word) → InOrder s (word_class w) a x
word_in_order s a x word.Job = tt
word_in_order s a x word.Response = tt
word_in_order s a x word.Upload = tt
word_in_order s a x word.Download = tt
word_in_order s a x word.GetInfo = tt
word_in_order s a x word.Abort = tt
word_in_order s a x word.Report = tt
word_in_order s a x word.Event = tt
word_in_order s a x word.Start = tt
word_in_order s a x word.Active = tt
word_in_order s a x word.Immediate = tt
word_in_order s a x word.Other = tt
word_in_order s a x word.Name = tt
word_in_order s a x word.TimeGe = tt

-- a number, of eight bare digits or not
number_in_order : (s : List ℕ) (a : ℕ) (n : Number) → Permitted (start.number (paper_number n)) → (eight : Bool) (d : Option ℕ)
    → InOrder s (cond eight (date_class d) class.number) a (says_number (cond eight (value_of d) 0) n)
number_in_order s a n p false d = p
number_in_order s a n p true None = p
number_in_order s a n p true (Some k) = go (real_date k) refl
  where
    go : (r : Bool) → real_date k ≡ r → InOrder s (cond r class.date class.unreal_date) a (says_number k n)
    go true e = (e, p)
    go false e = p

time_in_order : (s : List ℕ) (a : ℕ) → InOrder s (time_class s a) a (items.says_time (time_number s a))
time_in_order s a = go (real_time (time_number s a)) refl
  where
    go : (r : Bool) → real_time (time_number s a) ≡ r → InOrder s (cond r class.time class.unreal_time) a (items.says_time (time_number s a))
    go true e = e
    go false e = tt

module _ (s : List ℕ) where
  abbrev TokenInOrder : Placed → Type 0
  TokenInOrder t = InOrder s t.class t.place t.said

  same_item : {t u : Placed} → item t ≡ item u → t ≡ u
  same_item e = cc

  by_token : (i : ℕ) (k : Token) → next_token s i ≡ k → (t : Placed) → item_of s k ≡ item t → TokenInOrder t
  unfolding item_of number_class date_number next_token
  by_token i (token.End p) e t h = absurd (let z : ◌≡◌ {A = ℕ} 0 1 = cc in omega arith)
  by_token i (token.NoToken why p) e t h = absurd (let z : ◌≡◌ {A = ℕ} 0 1 = cc in omega arith)
  by_token i (token.Word a b w) e t h = subst TokenInOrder (same_item h) (word_in_order s a _ w)
  by_token i (token.Number a b) e t h =
      let small = number_is_small s i a b e in
      subst TokenInOrder (same_item h)
      (number_in_order s a (number_of (part s a (b - a))) (small.0, omega (arith, small.1)) (eqb (b - a) 8) (eight_at s a))
  by_token i (token.Time a b) e t h = subst TokenInOrder (same_item h) (time_in_order s a)
  by_token i (token.Text a b) e t h =
      let stands = (string_token_exactly s (blank_end false s i) a b).0 e in
      subst TokenInOrder (same_item h) (rw stands.1 stands.0)
  by_token i (token.Sign o a b) e t h = subst TokenInOrder (same_item h) tt
  by_token i (token.Semicolon a b) e t h = subst TokenInOrder (same_item h) tt

  abbrev AllInOrder : List Placed → Type 0
  AllInOrder [] = Unit {0}
  AllInOrder (t ∷ ts) = TokenInOrder t × AllInOrder ts

  after_in_order : {i e : ℕ} {ts : List Placed} → After s i ts e → AllInOrder ts
  unfolding next_item
  after_in_order items.here = tt
  after_in_order (items.then {i = i} {t = t} h r) = (by_token i (next_token s i) refl t h, after_in_order r)

  front : (k r : List Placed) → AllInOrder (k ++ r) → AllInOrder k
  front [] r h = tt
  front (t ∷ k) r h = (h.0, front k r h.1)

  -- ---- a clause

  abbrev ClauseInOrder : read.Start → Type 0
  ClauseInOrder y = OwnReal y × ((g : Given) → g.bytes ≡ s → Permitted g.value → AllPermitted g y)

  -- what a token of this class says
  of_class : (t : Placed) (c : Class) → t.class ≡ c → TokenInOrder t → InOrder s c t.place t.said
  of_class t c e h = rw (← e) h

  value_in_order : {v : Placed} {x : read.Value} → production.Value v x → TokenInOrder v → (n : read.Name) (o : read.Operator) (g : Given) → g.bytes ≡ s
      → Permitted g.value → AllPermitted g (read.when n o x)
  value_in_order {v} (production.plain e) h n o g same p = (start.number v.said.number, refl, of_class v class.number e h, p)
  value_in_order {v} (production.digits e) h n o g same p = (start.number v.said.number, refl, (of_class v class.date e h).1, p)
  value_in_order {v} (production.unreal_digits e) h n o g same p = (start.number v.said.number, refl, of_class v class.unreal_date e h, p)
  value_in_order {v} (production.quoted e) h n o g same p =
      let c = content_at s v.place in
      let w : WholeString s v.place c = (whole_string_exactly s v.place c).1 (of_class v class.string e h, refl) in
      (start.text c, (c, refl, rw same w), (w.few, w.each), p)

  start_in_order : {clause : StartClause} {ts : List Placed} {y : read.Start} → production.Start clause ts y → AllInOrder ts → ClauseInOrder y
  start_in_order (production.missing e) h = (tt, λ g same p. tt)
  start_in_order (production.immediate k i) h = (tt, λ g same p. tt)
  start_in_order (production.at_time {t = t} k g e) h = (of_class t class.time e h.1.1.0, λ g same p. tt)
  start_in_order (production.at_time_on {t = t} {d = d} k g e f) h =
      ((of_class t class.time e h.1.1.0, (of_class d class.date f h.1.1.1.0).0), λ g same p. tt)
  start_in_order (production.when {n = n} {o = o} k l m x) h = (tt, λ g same p. value_in_order x h.1.1.1.0 (production.name_at n) o.said.operator g same p)

  -- only an UPLOAD or DOWNLOAD has a clause, and it has one
  abbrev transfers : read.Statement → Bool
  transfers (read.job n f) = false
  transfers (read.upload f x y) = true
  transfers (read.download f x y) = true
  transfers (read.getinfo f) = false
  transfers (read.abort_report n) = false
  transfers (read.abort_event n) = false

  has_transfers : {z : read.Statement} {y : read.Start} → HasClause z y → transfers z ≡ true
  has_transfers (f, x, inl e) = rw e
  has_transfers (f, x, inr e) = rw e

  abbrev clause_of : read.Statement → read.Start
  clause_of (read.job n f) = read.immediate
  clause_of (read.upload f x y) = y
  clause_of (read.download f x y) = y
  clause_of (read.getinfo f) = read.immediate
  clause_of (read.abort_report n) = read.immediate
  clause_of (read.abort_event n) = read.immediate

  its_clause : {z : read.Statement} {y : read.Start} → HasClause z y → clause_of z ≡ y
  its_clause (f, x, inl e) = rw e
  its_clause (f, x, inr e) = rw e

  other_in_order : {clause : StartClause} {ts : List Placed} {z : read.Statement} → Other clause ts z → AllInOrder ts → (y : read.Start) → HasClause z y
      → ClauseInOrder y
  other_in_order (production.upload k f t c) h y has = subst ClauseInOrder (its_clause has) (start_in_order c h.1.1.1)
  other_in_order (production.download k f t c) h y has = subst ClauseInOrder (its_clause has) (start_in_order c h.1.1.1)
  other_in_order (production.getinfo k f) h y has = absurd (false≢true (has_transfers has))
  other_in_order (production.abort_report k w n) h y has = absurd (false≢true (has_transfers has))
  other_in_order (production.abort_event k w n) h y has = absurd (false≢true (has_transfers has))

  any_in_order : {clause : StartClause} {ts : List Placed} {z : read.Statement} → Any clause ts z → AllInOrder ts → (y : read.Start) → HasClause z y
      → ClauseInOrder y
  any_in_order (production.the_job (production.job k n r f)) h y has = absurd (false≢true (has_transfers has))
  any_in_order (production.another o) h y has = other_in_order o h y has

  ended_in_order : {clause : StartClause} {ts : List Placed} {z : read.Statement} → Ended (Any clause) ts z → AllInOrder ts → (y : read.Start) → HasClause z y
      → ClauseInOrder y
  ended_in_order (production.ended {k = k} e body is) h y has = any_in_order body (front k (e ∷ []) h) y has

pub read_in_order : (clause : StartClause) (s : List ℕ) (at : ℕ) (x : Statement) (o e : ℕ) → read_statement clause s at ≡ done (placed x o e)
    → (y : read.Start) → HasClause (paper_statement x) y → ClauseInOrder s y
read_in_order clause s at x o e h y c =
    let one = ((reading_exactly clause s at x o e).0 h).2 in
    ended_in_order s one.reads (after_in_order s one.stand) y c
