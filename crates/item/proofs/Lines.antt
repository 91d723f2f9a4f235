-- A token stands at the next place that is not blank and ends after it. So `line` never runs out of steps: it is the list of the file's
-- tokens.
use Prim.Native.Nat.{ℕ, zero, suc, ◌+◌, ◌≤◌, ◌<◌}
use mathlib.Core.Path.{◌≡◌, refl, sym, ap}
use mathlib.Core.Bool.{false}
use mathlib.Core.List.{List}
use native.Mathlib.Omega.{arith}
use borrow.Author.Tests.{le-ltb}
use lib.Dec.{ltb}
use lib.ListN.{length, drop}
use Rattle.scan.specs.Run.{blank, blank_end}
use Rattle.token.specs.Token.{token_at, next_token}
use Rattle.token.specs.declared.Why.{Why}
use Rattle.token.specs.declared.Token.{Token}
use Rattle.token.specs.declared.Token.TheVariants.{NoToken}
use Rattle.token.proofs.Ahead as token
use Rattle.token.proofs.Ahead.{Span, Ahead}
use Rattle.token.proofs.Ahead.Ahead.{the_end, no_token_here as nothing_there, a_word, a_number, a_time, a_text, a_sign, a_semicolon}
use Rattle.grammar.specs.Grammar.{Class}
use Rattle.grammar.specs.Productions.{Said, Placed}
use Rattle.item.specs.Tokens.{Next, at, item_of, next_item, Tokens, Line, line_on, line_from, line_at, line}
use Rattle.item.specs.Tokens.Next.{item, ended, no_token_next}
use Rattle.item.specs.Tokens.Tokens.{at_end_here, no_token_here, then}

abbrev place_of : Next → ℕ
place_of (item t) = t.place
place_of (ended p) = p
place_of (no_token_next why p) = p

abbrev end_of : Next → ℕ
end_of (item t) = t.end
end_of (ended p) = p
end_of (no_token_next why p) = p

pub ended≢item : {p : ℕ} {t : Placed} → ended p ≡ item t → ⊥
ended≢item e = let z : ◌≡◌ {A = ℕ} 0 1 = cc in omega arith

pub no_token≢item : {why : Why} {p : ℕ} {t : Placed} → no_token_next why p ≡ item t → ⊥
no_token≢item e = let z : ◌≡◌ {A = ℕ} 0 1 = cc in omega arith

item_end : {i a : ℕ} {c : Class} {x : Said} {u : Placed} (s : List ℕ) → at c i a x ≡ item u → Span s i a → (u.place ≡ i) × Span s i u.end
item_end {i} {a} {c} {x} {u} s e l =
    let d : a ≡ u.end = ap end_of e in
    (ap place_of (sym e), omega arith)

-- where the token stands, and the place after it
ahead_item : (s : List ℕ) (i : ℕ) (k : Token) → Ahead s i k → (t : Placed) → item_of s k ≡ item t → (t.place ≡ i) × Span s i t.end
unfolding item_of
ahead_item s i k (the_end l) t e = absurd (ended≢item e)
ahead_item s i k (nothing_there l) t e = absurd (no_token≢item e)
ahead_item s i k (a_word l) t e = item_end s e l
ahead_item s i k (a_number l n) t e = item_end s e l
ahead_item s i k (a_time l) t e = item_end s e l
ahead_item s i k (a_text l) t e = item_end s e l
ahead_item s i k (a_sign l) t e = item_end s e l
ahead_item s i k (a_semicolon l) t e = item_end s e l

item≢ended : {p : ℕ} {t : Placed} → item t ≡ ended p → ⊥
item≢ended e = ended≢item (sym e)

no_token≢ended : {why : Why} {p q : ℕ} → no_token_next why q ≡ ended p → ⊥
no_token≢ended e = let z : ◌≡◌ {A = ℕ} 0 1 = cc in omega arith

-- where the end stands
pub ahead_ended : (s : List ℕ) (i : ℕ) (k : Token) → Ahead s i k → (p : ℕ) → item_of s k ≡ ended p → (p ≡ i) × (length s ≤ i)
unfolding item_of
ahead_ended s i k (the_end l) p e = (cc, l)
ahead_ended s i k (nothing_there l) p e = absurd (no_token≢ended e)
ahead_ended s i k (a_word l) p e = absurd (item≢ended e)
ahead_ended s i k (a_number l n) p e = absurd (item≢ended e)
ahead_ended s i k (a_time l) p e = absurd (item≢ended e)
ahead_ended s i k (a_text l) p e = absurd (item≢ended e)
ahead_ended s i k (a_sign l) p e = absurd (item≢ended e)
ahead_ended s i k (a_semicolon l) p e = absurd (item≢ended e)

-- where no token stands
pub ahead_none : (s : List ℕ) (i : ℕ) (k : Token) → Ahead s i k → (why : Why) (p : ℕ) → item_of s k ≡ no_token_next why p → (p ≡ i) × (k ≡ NoToken why p)
unfolding item_of
ahead_none s i k (the_end l) why p e = absurd (no_token≢ended (sym e))
ahead_none s i k (nothing_there {w = w} l) why p e = let a : i ≡ p = cc in let b : w ≡ why = cc in (sym a, rw (a, b))
ahead_none s i k (a_word l) why p e = absurd (no_token≢item (sym e))
ahead_none s i k (a_number l n) why p e = absurd (no_token≢item (sym e))
ahead_none s i k (a_time l) why p e = absurd (no_token≢item (sym e))
ahead_none s i k (a_text l) why p e = absurd (no_token≢item (sym e))
ahead_none s i k (a_sign l) why p e = absurd (no_token≢item (sym e))
ahead_none s i k (a_semicolon l) why p e = absurd (no_token≢item (sym e))

pub ahead : (s : List ℕ) (i : ℕ) (t : Placed) → next_item s i ≡ item t → (t.place ≡ blank_end false s i) × Span s i t.end
unfolding next_item next_token blank_end
ahead s i t e =
    let h : (t.place ≡ i + blank false (drop i s)) × Span s (i + blank false (drop i s)) t.end =
    ahead_item s (i + blank false (drop i s)) (token_at s (i + blank false (drop i s))) (token.ahead s (i + blank false (drop i s))) t e in
    (h.0, omega arith)

-- past the file's bytes no token stands
nothing_past : (s : List ℕ) (i : ℕ) (t : Placed) → length s ≤ i → next_item s i ≡ item t → ⊥
unfolding next_item next_token blank_end token_at item_of
nothing_past s i t l e =
    let n : ltb (i + blank false (drop i s)) (length s) ≡ false = le-ltb (i + blank false (drop i s)) (length s) (omega arith) in
    ended≢item (rw n at e)

-- the steps suffice
on_item : (s : List ℕ) (i : ℕ) (k : ℕ → Line) → ((t : Placed) → next_item s i ≡ item t → Tokens s t.end (k t.end).tokens (k t.end).last)
    → (x : Next) → next_item s i ≡ x → Tokens s i (line_on x k).tokens (line_on x k).last
on_item s i k later (ended p) e = at_end_here e
on_item s i k later (no_token_next why p) e = no_token_here e
on_item s i k later (item t) e = then e (later t e)

enough : (n : ℕ) (s : List ℕ) (i : ℕ) → length s ≤ i + n → Tokens s i (line_from (suc n) s i).tokens (line_from (suc n) s i).last
unfolding line_from
enough zero s i l = on_item s i (λ b. line_from zero s b) (λ t e. absurd (nothing_past s i t (omega arith) e)) (next_item s i) refl
enough (suc n) s i l = on_item s i (λ b. line_from (suc n) s b) (λ t e. enough n s t.end (omega (arith, (ahead s i t e).1.ahead))) (next_item s i) refl

-- the tokens from every place on
pub tokens_at : (s : List ℕ) (i : ℕ) → Tokens s i (line_at s i).tokens (line_at s i).last
tokens_at s i = enough (length s) s i (omega arith)

pub line_tokens : (s : List ℕ) → Tokens s 0 (line s).tokens (line s).last
unfolding line
line_tokens s = tokens_at s 0

-- a token stands within the file
pub inside : (s : List ℕ) (i : ℕ) (t : Placed) → next_item s i ≡ item t → t.place < length s
unfolding next_item next_token
inside s i t e =
    let h : (t.place ≡ blank_end false s i) × Span s (blank_end false s i) t.end =
    ahead_item s (blank_end false s i) (token_at s (blank_end false s i)) (token.ahead s (blank_end false s i)) t e in
    omega arith
