-- `token::token_at` meets its contract.
use mathlib.Core.Path.{sym, ◌∙◌}
use native.Mathlib.Omega.{arith}
use borrow.Author.Tests.{lt-ltb, le-ltb, ne_eqb}
use Rattle.laws.proofs.Choose.{choose}
use Rattle.token.specs.Token.{token_at}
use Rattle.token.proofs.token_at.Goals as goal

pub returns-then-s-i : goal.returns-then-s-i
unfolding token_at
returns-then-s-i c = search choose depth 9

pub returns-then-is_letter : goal.returns-then-is_letter
unfolding token_at
returns-then-is_letter c = search choose depth 9

pub returns-then-is_digit : goal.returns-then-is_digit
unfolding token_at
returns-then-is_digit c =
    rw (lt-ltb _ _ c.if-s-i.false, sym c.is_letter.ensures ∙ c.if-is_letter.false, sym c.is_digit.ensures ∙ c.if-is_digit.true) c.numeric_token.ensures

pub returns-in-45 : goal.returns-in-45
unfolding token_at
returns-in-45 c =
    rw (lt-ltb _ _ c.if-s-i.false, sym c.is_letter.ensures ∙ c.if-is_letter.false, sym c.is_digit.ensures ∙ c.if-is_digit.false, c.in-45.is)
    c.numeric_token-in-45.ensures

pub returns-in-34 : goal.returns-in-34
unfolding token_at
returns-in-34 c =
    rw (lt-ltb _ _ c.if-s-i.false, sym c.is_letter.ensures ∙ c.if-is_letter.false, sym c.is_digit.ensures ∙ c.if-is_digit.false, c.in-34.is) c.text_token.ensures

pub returns-in_default : goal.returns-in_default
unfolding token_at
returns-in_default c =
    let r = c.in_default.in_default-own.rest in
    rw (
      lt-ltb _ _ c.if-s-i.false,
      sym c.is_letter.ensures ∙ c.if-is_letter.false,
      sym c.is_digit.ensures ∙ c.if-is_digit.false,
      ne_eqb _ 45 r.0.1,
      ne_eqb _ 34 r.1,
    ) c.sign_token.ensures
