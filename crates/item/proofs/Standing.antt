-- An item from its token: what `next_item` answers, whatever the token.
use Prim.Native.Nat.{ℕ, ◌+◌, ◌-◌}
use mathlib.Core.Path.{◌≡◌, refl, sym, ◌∙◌, ap}
use mathlib.Core.List.{List}
use native.Mathlib.Omega.{arith}
use Rattle.token.specs.Token.{next_token}
use Rattle.token.specs.declared.Token.{Token}
use Rattle.token.specs.declared.Token.TheVariants.{End, NoToken, Word, Number, Time, Text, Sign, Semicolon}
use Rattle.token.proofs.Ahead.{start_of, end_of, Lies, lies}
use Rattle.item.specs.Items.{numbered, item_at, Seen, Stood}
use Rattle.item.specs.declared.Item.{Item}

pub next_of : (base : ℕ) (s : List ℕ) (t : Token) → (numbered base s t).next ≡ base + end_of t
unfolding numbered
next_of base s (End p) = refl
next_of base s (NoToken w p) = refl
next_of base s (Word a b w) = refl
next_of base s (Number a b) = refl
next_of base s (Time a b) = refl
next_of base s (Text a b) = refl
next_of base s (Sign o a b) = refl
next_of base s (Semicolon a b) = refl

module _ (base : ℕ) (s : List ℕ) (at : ℕ) (seen : Seen base s at) (r t : Token) (d : r ≡ next_token s (at - base)) (e : r ≡ t) where
  pub stood : (k : Item) → k ≡ numbered base s t → Stood base s at k
  unfolding item_at
  stood k m =
      let l : Lies s (at - base) (start_of t) (end_of t) = lies s (at - base) r t d e in
      record {
        is = m ∙ ap (numbered base s) (sym e ∙ d);
        onward = omega (arith, ap (λ (x : Item). x.next) m, next_of base s t, seen.after, l.from, l.ordered);
      }
