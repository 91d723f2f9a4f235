-- The number of a refusal alone tells what stands at its place.
use Prim.Native.Nat.{ℕ, ◌<◌}
use mathlib.Core.Path.{◌≡◌, refl, sym, ◌∙◌, ap, subst}
use mathlib.Core.Bool.{false}
use mathlib.Core.List.{List}
use mathlib.Core.Logic.{◌↔◌, ◌⊎◌, inl, inr}
use native.Mathlib.Omega.{arith}
use lib.ListN.{length}
use Rattle.counts.specs.Refusals.{file_too_long, too_few_places, out_of_range, end_of_file}
use Rattle.counts.specs.Result.Result.{refused}
use Rattle.scan.specs.Run.{blank_end}
use Rattle.token.specs.Token.{token_at, next_token}
use Rattle.token.specs.declared.Why.{Why}
use Rattle.token.specs.declared.Why.TheVariants.{Stray, OpenString, BrokenString, Misshapen}
use Rattle.token.specs.declared.Token.{Token}
use Rattle.token.specs.declared.Token.TheVariants.{NoToken}
use Rattle.token.proofs.Ahead as token
use Rattle.token.proofs.Ahead.{Ahead}
use Rattle.token.proofs.Ahead.Ahead.{no_token_here}
use Rattle.grammar.specs.declared.StartClause.{StartClause}
use Rattle.grammar.specs.Productions.{Placed}
use Rattle.grammar.specs.Reading.{Last, OffsetsRead, no_token_number}
use Rattle.grammar.specs.Reading.Last.{no_token_at}
use Rattle.grammar.specs.Rows as row
use Rattle.grammar.specs.Rows.{Stands}
use Rattle.item.specs.Tokens.{item_of, next_item, Tokens}
use Rattle.item.specs.Tokens.Next.{item}
use Rattle.item.specs.NoToken.{StartsNoToken, StringMeetsEnd, StringBreaks, OverlongWord, MisshapenRun}
use Rattle.item.proofs.Lines.{no_token≢item, ahead, tokens_at, line_tokens, inside}
use Rattle.item.proofs.Ends.{ends, none_ends, end_is_length}
use Rattle.item.proofs.NoTokens.{stray_exactly, open_string_exactly, broken_string_exactly, misshapen_exactly}
use Rattle.job.specs.Job.{read_job}
use Rattle.job.specs.Statement.{read_statement}
use Rattle.job_claims.specs.Verdict.{Verdict}
use Rattle.job_claims.specs.Verdict.Verdict.{too_long, broken, no_room}
use Rattle.job_claims.specs.Hands.{TokenBegins, Tells}
use Rattle.job_claims.specs.Hands.Tells.{three, fifteen, sixteen, seventeen, eighteen, four, five, six}
use Rattle.job_claims.proofs.Tiles.{again}
use Rattle.job_claims.proofs.One as one
use Rattle.job_claims.proofs.One.{cut, next_token_lem}
use Rattle.job_claims.proofs.Claims.{judged}
use Rattle.job_claims.proofs.Statements as statement

module _ (s : List ℕ) where
  -- ---- what ends the tokens, and a token that stands among them

  none_tells : (why : Why) {i : ℕ} {ts : List Placed} {z : Last} → Tokens s i ts z → {p : ℕ} → z ≡ no_token_at why p → Tells s p (no_token_number why)
  none_tells Stray d {p} e = three ((stray_exactly s p p).0 (none_ends d Stray p e)).1
  none_tells OpenString d {p} e = fifteen ((open_string_exactly s p p).0 (none_ends d OpenString p e)).1
  none_tells BrokenString d {p} e = sixteen ((broken_string_exactly s p p).0 (none_ends d BrokenString p e)).1
  none_tells Misshapen d {p} e = seventeen ((misshapen_exactly s p p).0 (none_ends d Misshapen p e)).1

  begins : {i : ℕ} {ts : List Placed} {z : Last} → Tokens s i ts z → {p : ℕ} {a : List Placed} {t : Placed} → Stands ts p a t → TokenBegins s p
  begins {i} {z = z} d {p} {a} {t} w =
      let c = cut s a d w.parts in
      let n : next_item s c.place ≡ item t = next_token_lem s c.then_rest in
      (t, ap (next_item s) (sym w.place) ∙ again s c.place t n ∙ n, w.place)

  -- ---- each refusal of a whole file, and of one statement

  pub job_tells : (clause : StartClause) (room n p : ℕ) → read_job clause s room ≡ refused n p → (n ≡ file_too_long) ⊎ ((n ≡ too_few_places) ⊎ Tells s p n)
  job_tells clause room n p e = by_row (subst (λ (v : OffsetsRead). Verdict clause s room v) e (judged clause s room))
    where
      by_row : {n p : ℕ} → Verdict clause s room (refused n p) → (n ≡ file_too_long) ⊎ ((n ≡ too_few_places) ⊎ Tells s p n)
      by_row (too_long l) = inl refl
      by_row (no_room l y r) = inr (inl refl)
      by_row (broken l (row.three r)) = inr (inr (none_tells Stray (line_tokens s) r.1))
      by_row (broken l (row.fifteen r)) = inr (inr (none_tells OpenString (line_tokens s) r.1))
      by_row (broken l (row.sixteen r)) = inr (inr (none_tells BrokenString (line_tokens s) r.1))
      by_row (broken l (row.seventeen r)) = inr (inr (none_tells Misshapen (line_tokens s) r.1))
      by_row (broken l (row.eighteen {p = p} r)) = inr (inr (eighteen (end_is_length s p r.1)))
      by_row (broken l (row.four r)) = inr (inr (four (begins (line_tokens s) r.2)))
      by_row (broken l (row.five r)) = inr (inr (five (begins (line_tokens s) r.2)))
      by_row (broken l (row.six r)) = inr (inr (six (begins (line_tokens s) r.2)))

  pub statement_tells : (clause : StartClause) (at n p : ℕ) → read_statement clause s at ≡ refused n p → (n ≡ file_too_long) ⊎ ((n ≡ out_of_range) ⊎ Tells s p n)
  statement_tells clause at n p e = by_row (statement.asked clause s at e)
    where
      by_row : {n p : ℕ} → statement.Verdict clause s at (refused n p) → (n ≡ file_too_long) ⊎ ((n ≡ out_of_range) ⊎ Tells s p n)
      by_row (statement.too_long l) = inl refl
      by_row (statement.past l m) = inr (inl refl)
      by_row (statement.not_read l m (one.three r)) = inr (inr (none_tells Stray (tokens_at s at) r.2))
      by_row (statement.not_read l m (one.fifteen r)) = inr (inr (none_tells OpenString (tokens_at s at) r.2))
      by_row (statement.not_read l m (one.sixteen r)) = inr (inr (none_tells BrokenString (tokens_at s at) r.2))
      by_row (statement.not_read l m (one.seventeen r)) = inr (inr (none_tells Misshapen (tokens_at s at) r.2))
      by_row (statement.not_read l m (one.eighteen {p = p} r)) = inr (inr (eighteen (ends (tokens_at s at) m p r.2)))
      by_row (statement.not_read l m (one.four r)) = inr (inr (four (begins (tokens_at s at) r.2)))
      by_row (statement.not_read l m (one.five r)) = inr (inr (five (begins (tokens_at s at) r.2)))

  -- ---- the hands apart

  -- no token is found at p, and why; the end of the file; or a token
  data Hand (p n : ℕ) : Type 0 where
    none : (why : Why) → token_at s p ≡ NoToken why p → n ≡ no_token_number why → Hand p n
    at_end_here : p ≡ length s → n ≡ end_of_file → Hand p n
    at_token : TokenBegins s p → (n < 7) → Hand p n

  hand : {p n : ℕ} → Tells s p n → Hand p n
  hand {p} (three r) = none Stray ((stray_exactly s p p).1 (refl, r)) refl
  hand {p} (fifteen r) = none OpenString ((open_string_exactly s p p).1 (refl, r)) refl
  hand {p} (sixteen r) = none BrokenString ((broken_string_exactly s p p).1 (refl, r)) refl
  hand {p} (seventeen r) = none Misshapen ((misshapen_exactly s p p).1 (refl, r)) refl
  hand (eighteen e) = at_end_here e refl
  hand (four t) = at_token t (omega arith)
  hand (five t) = at_token t (omega arith)
  hand (six t) = at_token t (omega arith)

  none_within : (p : ℕ) (k : Token) → Ahead s p k → (why : Why) → k ≡ NoToken why p → p < length s
  none_within p k a why e = go p (subst (Ahead s p) e a)
    where
      go : (q : ℕ) → Ahead s p (NoToken why q) → p < length s
      go q (no_token_here l) = l

  none_inside : (why : Why) (p : ℕ) → token_at s p ≡ NoToken why p → p < length s
  none_inside why p e = none_within p (token_at s p) (token.ahead s p) why e

  token_inside : (p : ℕ) → TokenBegins s p → p < length s
  token_inside p (t, n, e) = let l : t.place < length s = inside s p t n in omega arith

  not_end : (why : Why) → no_token_number why ≡ end_of_file → ⊥
  not_end Stray e = omega arith
  not_end OpenString e = omega arith
  not_end BrokenString e = omega arith
  not_end Misshapen e = omega arith

  -- 18 exactly at the file's length
  pub end_exactly : (n p : ℕ) → Tells s p n → (n ≡ end_of_file) ↔ (p ≡ length s)
  end_exactly n p t = by_hand (hand t)
    where
      by_hand : Hand p n → (n ≡ end_of_file) ↔ (p ≡ length s)
      by_hand (none why k e) = (λ f. absurd (not_end why (sym e ∙ f)), λ f. absurd (omega (arith, none_inside why p k)))
      by_hand (at_end_here e f) = (λ g. e, λ g. f)
      by_hand (at_token k l) = (λ f. absurd (omega arith), λ f. absurd (omega (arith, token_inside p k)))

  -- where a token begins, none of the four reasons holds
  none_begins : (why : Why) (p : ℕ) → token_at s p ≡ NoToken why p → TokenBegins s p → ⊥
  unfolding next_item next_token item_of
  none_begins why p k (t, n, e) =
      let here : blank_end false s p ≡ p = sym (ahead s p t n).0 ∙ e in
      no_token≢item (rw (here, k) at n)

  pub no_token_begins : (p : ℕ) → TokenBegins s p
      → (StartsNoToken s p → ⊥) × (StringMeetsEnd s p → ⊥) × (StringBreaks s p → ⊥) × (OverlongWord s p ⊎ MisshapenRun s p → ⊥)
  no_token_begins p t = (
    λ r. none_begins Stray p ((stray_exactly s p p).1 (refl, r)) t,
    λ r. none_begins OpenString p ((open_string_exactly s p p).1 (refl, r)) t,
    λ r. none_begins BrokenString p ((broken_string_exactly s p p).1 (refl, r)) t,
    λ r. none_begins Misshapen p ((misshapen_exactly s p p).1 (refl, r)) t,
  )

  -- where none begins, one number alone is told
  pub one_hand : (n m p : ℕ) → Tells s p n → Tells s p m → (n ≡ m) ⊎ TokenBegins s p
  one_hand n m p t u = both (hand t) (hand u)
    where
      both : Hand p n → Hand p m → (n ≡ m) ⊎ TokenBegins s p
      both (at_token k l) b = inr k
      both (none why k e) (at_token l h) = inr l
      both (at_end_here e f) (at_token l h) = inr l
      both (none why k e) (none other l f) = let w : why ≡ other = cc in inl (e ∙ ap no_token_number w ∙ sym f)
      both (none why k e) (at_end_here f g) = absurd (omega (arith, none_inside why p k))
      both (at_end_here f g) (none why k e) = absurd (omega (arith, none_inside why p k))
      both (at_end_here e f) (at_end_here g h) = inl (f ∙ sym h)
