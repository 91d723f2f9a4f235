-- `token::is_time` meets its contract.
use Rattle.token.specs.Token.{is_time_at}
use Prim.Native.Nat.{ℕ}
use mathlib.Core.Path.{◌≡◌, ap}
use mathlib.Core.Bool.{Bool, ◌&&◌}
use lib.Dec.{eqb}
use borrow.Author.Tests.{ne_eqb}
use Rattle.token.proofs.is_time.Goals as goal

-- of eight bytes the other tests decide
eight : {n : ℕ} {p q r t u p' q' r' t' u' : Bool} → n ≡ 8 → p ≡ p' → q ≡ q' → r ≡ r' → t ≡ t' → u ≡ u'
    → (p && q && r && t && u) ≡ (eqb n 8 && p' && q' && r' && t' && u')
eight e a b c d f = rw (e, a, b, c, d, f)

pub returns-then-e-i-eq8 : goal.returns-then-e-i-eq8
unfolding is_time_at
returns-then-e-i-eq8 c =
    eight c.if-e-i-eq8.true c.pair_at.ensures
    (ap (λ b. eqb b 58) c.byte_at.ensures) c.pair_at-then-e-i-eq8.ensures
    (ap (λ b. eqb b 58) c.byte_at-then-e-i-eq8.ensures) c.pair_at-then-e-i-eq8-2.ensures

pub returns : goal.returns
unfolding is_time_at
returns c = rw (ne_eqb _ 8 c.if-e-i-eq8.false)
