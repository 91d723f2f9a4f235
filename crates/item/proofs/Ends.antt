-- What ends a file's tokens: the end of the file is at its length, and where no token stands, that is what is found there.
use Prim.Native.Nat.{ℕ, ◌≤◌}
use mathlib.Core.Path.{◌≡◌, ◌∙◌, ap}
use mathlib.Core.Bool.{false}
use mathlib.Core.List.{List}
use native.Mathlib.Omega.{arith}
use lib.ListN.{length}
use Rattle.scan.specs.Run.{blank_end}
use Rattle.scan.proofs.Settled.{onward}
use Rattle.token.specs.Token.{token_at, next_token}
use Rattle.token.specs.declared.Why.{Why}
use Rattle.token.specs.declared.Token.TheVariants.{NoToken}
use Rattle.token.proofs.Ahead as token
use Rattle.grammar.specs.Productions.{Placed}
use Rattle.grammar.specs.Reading.{Last}
use Rattle.grammar.specs.Reading.Last.{end, no_token_at}
use Rattle.item.specs.Tokens.{next_item, Tokens, line}
use Rattle.item.specs.Tokens.Next.{ended, no_token_next}
use Rattle.item.specs.Tokens.Tokens.{at_end_here, no_token_here, then}
use Rattle.item.proofs.Lines.{ahead, ahead_ended, ahead_none, line_tokens}

end_place : (s : List ℕ) (i p : ℕ) → i ≤ length s → next_item s i ≡ ended p → p ≡ length s
unfolding next_item next_token
end_place s i p l e =
    let h : (p ≡ blank_end false s i) × (length s ≤ blank_end false s i) =
    ahead_ended s (blank_end false s i) (token_at s (blank_end false s i)) (token.ahead s (blank_end false s i)) p e in
    omega (arith, onward s i)

pub ends : {s : List ℕ} {i : ℕ} {ts : List Placed} {z : Last} → Tokens s i ts z → i ≤ length s → (p : ℕ) → z ≡ end p → p ≡ length s
ends {s} {i} (at_end_here {p = q} e) l p z = let d : q ≡ p = cc in rw (← d) (end_place s i q l e)
ends (no_token_here {p = q} e) l p z = let y : ◌≡◌ {A = ℕ} 0 1 = cc in absurd (omega arith)
ends {s} {i} (then {t = t} e r) l p z = ends r (ahead s i t e).1.inside p z

none_there : (s : List ℕ) (i : ℕ) (why : Why) (p : ℕ) → next_item s i ≡ no_token_next why p → token_at s p ≡ NoToken why p
unfolding next_item next_token
none_there s i why p e =
    let h : (p ≡ blank_end false s i) × (token_at s (blank_end false s i) ≡ NoToken why p) =
    ahead_none s (blank_end false s i) (token_at s (blank_end false s i)) (token.ahead s (blank_end false s i)) why p e in
    ap (token_at s) h.0 ∙ h.1

pub none_ends : {s : List ℕ} {i : ℕ} {ts : List Placed} {z : Last} → Tokens s i ts z → (why : Why) (p : ℕ) → z ≡ no_token_at why p
    → token_at s p ≡ NoToken why p
none_ends (at_end_here e) why p z = let y : ◌≡◌ {A = ℕ} 0 1 = cc in absurd (omega arith)
none_ends {s} {i} (no_token_here {p = q} {why = w} e) why p z = none_there s i why p (e ∙ let a : w ≡ why = cc in let b : q ≡ p = cc in rw (a, b))
none_ends (then e r) why p z = none_ends r why p z

pub end_is_length : (s : List ℕ) (p : ℕ) → (line s).last ≡ end p → p ≡ length s
end_is_length s p e = ends (line_tokens s) (omega arith) p e
