-- What a reader refuses lies within the file: every token does, and so does what ends them.
use Prim.Native.Nat.{ℕ, ◌≤◌, ◌<◌}
use mathlib.Core.Path.{◌≡◌, refl, sym, ap, ◌∙◌}
use mathlib.Core.Bool.{false}
use mathlib.Core.List.{List, [], ◌∷◌, ◌++◌}
use native.Mathlib.Omega.{arith}
use lib.ListN.{length}
use Rattle.scan.specs.Run.{blank_end}
use Rattle.scan.proofs.Settled.{onward}
use Rattle.token.specs.Token.{token_at, next_token}
use Rattle.token.specs.declared.Why.{Why}
use Rattle.token.specs.declared.Token.{Token}
use Rattle.token.proofs.Ahead as token
use Rattle.token.proofs.Ahead.{Ahead}
use Rattle.token.proofs.Ahead.Ahead.{the_end, no_token_here as nothing_there, a_word, a_number, a_time, a_text, a_sign, a_semicolon}
use Rattle.grammar.specs.Productions.{Placed}
use Rattle.grammar.specs.Reading.{Last}
use Rattle.grammar.specs.Reading.Last.{end, no_token_at}
use Rattle.grammar.specs.Rows.{Stands}
use Rattle.item.specs.Tokens.{Next, item_of, next_item, Tokens}
use Rattle.item.specs.Tokens.Next.{item, ended, no_token_next}
use Rattle.item.specs.Tokens.Tokens.{at_end_here, no_token_here, then}
use Rattle.item.proofs.Lines.{ahead, inside}

abbrev place_of : Next → ℕ
place_of (item t) = t.place
place_of (ended p) = p
place_of (no_token_next why p) = p

abbrev last_place : Last → ℕ
last_place (end p) = p
last_place (no_token_at why p) = p

stands_at : (s : List ℕ) (i : ℕ) (k : Token) → Ahead s i k → place_of (item_of s k) ≡ i
unfolding item_of
stands_at s i k (the_end l) = refl
stands_at s i k (nothing_there l) = refl
stands_at s i k (a_word l) = refl
stands_at s i k (a_number l n) = refl
stands_at s i k (a_time l) = refl
stands_at s i k (a_text l) = refl
stands_at s i k (a_sign l) = refl
stands_at s i k (a_semicolon l) = refl

next_in : (s : List ℕ) (i : ℕ) (x : Next) → i ≤ length s → next_item s i ≡ x → place_of x ≤ length s
unfolding next_item next_token
next_in s i x l e =
    let h : place_of x ≡ blank_end false s i =
    ap place_of (sym e) ∙ stands_at s (blank_end false s i) (token_at s (blank_end false s i)) (token.ahead s (blank_end false s i)) in
    omega (arith, onward s i)

last_within : {s : List ℕ} {i : ℕ} {ts : List Placed} {z : Last} → Tokens s i ts z → i ≤ length s → last_place z ≤ length s
last_within {s} {i} (at_end_here e) l = next_in s i _ l e
last_within {s} {i} (no_token_here e) l = next_in s i _ l e
last_within {s} {i} (then {t = t} e r) l = last_within r (ahead s i t e).1.inside

module _ {s : List ℕ} {i : ℕ} {ts : List Placed} {z : Last} (d : Tokens s i ts z) (l : i ≤ length s) {p : ℕ} where
  pub no_token_within : {why : Why} → z ≡ no_token_at why p → p ≤ length s
  no_token_within e = let h = last_within d l in rw e at h

  pub end_within : z ≡ end p → p ≤ length s
  end_within e = let h = last_within d l in rw e at h

among : {s : List ℕ} {i : ℕ} {ts : List Placed} {z : Last} → Tokens s i ts z → (a : List Placed) (t : Placed) (after : List Placed) → ts ≡ a ++ (t ∷ after)
    → t.place ≤ length s
among (at_end_here e) [] t after q = let y : ◌≡◌ {A = ℕ} 0 1 = cc in absurd (omega arith)
among (at_end_here e) (x ∷ a) t after q = let y : ◌≡◌ {A = ℕ} 0 1 = cc in absurd (omega arith)
among (no_token_here e) [] t after q = let y : ◌≡◌ {A = ℕ} 0 1 = cc in absurd (omega arith)
among (no_token_here e) (x ∷ a) t after q = let y : ◌≡◌ {A = ℕ} 0 1 = cc in absurd (omega arith)
among {s} {i} (then {t = u} e r) [] t after q =
    let y : u ≡ t = cc in let h : u.place < length s = inside s i u e in omega (arith, ap (λ (x : Placed). x.place) y)
among (then e r) (x ∷ a) t after q = among r a t after (cc)

pub token_within : {s : List ℕ} {i : ℕ} {ts : List Placed} {z : Last} → Tokens s i ts z → {p : ℕ} {a : List Placed} {t : Placed} → Stands ts p a t
    → p ≤ length s
token_within d {p} {a} {t} w = omega (arith, among d a t w.after w.parts, w.place)
