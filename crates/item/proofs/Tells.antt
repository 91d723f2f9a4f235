-- The item that code has tells all that the token says.
use Prim.Native.Nat.{ℕ, ◌+◌, ◌-◌, ◌≤◌}
use mathlib.Core.Path.{◌≡◌, refl, subst}
use mathlib.Core.List.{List}
use native.Mathlib.Omega.{arith}
use Rattle.token.specs.Token.{next_token}
use Rattle.token.specs.declared.Operator.{Operator}
use Rattle.token.specs.declared.Operator.TheVariants.{Equal}
use Rattle.token.specs.declared.Token.{Token}
use Rattle.token.specs.declared.Token.TheVariants.{End, NoToken, Word, Number, Time, Text, Sign, Semicolon}
use Rattle.token.proofs.Ahead.{Lies, start_of, end_of, lies}
use Rattle.grammar.specs.Grammar.{Class, class_no}
use Rattle.grammar.specs.Grammar.Class.{string, operator, semicolon}
use Rattle.grammar.specs.Productions.{Is, Placed}
use Rattle.field.specs.Part.{part}
use Rattle.number.specs.Number.{number_of}
use Rattle.number.specs.declared.Number.{Number as NumberRead}
use Rattle.item.specs.Tokens.{Next, word_class, number_class, date_number, time_class, time_number, paper_number, paper_operator, item_of, next_item}
use Rattle.item.specs.Tokens.Next.{item, ended, no_token_next}
use Rattle.item.specs.Items.{code_of, code_no, zero, made_of, numbered, item_at}
use Rattle.item.specs.declared.Item.{Item}
use Rattle.item.proofs.Classes.{code_same}

pub record Tells (t : Item) (u : Placed) : Type 0 where
  pub class : code_no t.class ≡ class_no u.class
  pub place : t.place ≡ u.place
  pub spans : t.place + t.length ≡ u.end
  pub next : t.next ≡ u.end
  pub moment : t.value ≡ u.said.moment
  pub number : paper_number t.number ≡ u.said.number
  pub operator : paper_operator t.operator ≡ u.said.operator

abbrev Told : Item → Next → Type 0
Told t (item u) = Tells t u
Told t (ended p) = Unit {0}
Told t (no_token_next why p) = Unit {0}

made_tells : (c : Class) (a b v : ℕ) (n : NumberRead) (o : Operator) → a ≤ b
    → Tells (made_of 0 (code_of c) a b v n o) (record {
      class = c;
      place = a;
      end = b;
      said = record { moment = v; number = paper_number n; operator = paper_operator o };
    })
made_tells c a b v n o l = record { class = code_same c; place = omega arith; spans = omega arith; next = omega arith; moment = refl; number = refl; operator = refl }

by_token : (s : List ℕ) (k : Token) → start_of k ≤ end_of k → Told (numbered 0 s k) (item_of s k)
unfolding numbered item_of
by_token s (End p) l = tt
by_token s (NoToken w p) l = tt
by_token s (Word a b w) l = made_tells (word_class w) a b 0 zero Equal l
by_token s (Number a b) l = made_tells (number_class s a b) a b (date_number s a b) (number_of (part s a (b - a))) Equal l
by_token s (Time a b) l = made_tells (time_class s a) a b (time_number s a) zero Equal l
by_token s (Text a b) l = made_tells string a b 0 zero Equal l
by_token s (Sign o a b) l = made_tells operator a b 0 zero o l
by_token s (Semicolon a b) l = made_tells semicolon a b 0 zero Equal l

told : (s : List ℕ) (i : ℕ) → Told (item_at 0 s i) (next_item s i)
unfolding item_at next_item
told s i =
    let e : i - 0 ≡ i = omega arith in
    let l : Lies s i (start_of (next_token s i)) (end_of (next_token s i)) = lies s i (next_token s i) (next_token s i) refl refl in
    rw e (by_token s (next_token s i) l.ordered)

pub tells : (s : List ℕ) (i : ℕ) (u : Placed) → next_item s i ≡ item u → Tells (item_at 0 s i) u
tells s i u e = subst (Told (item_at 0 s i)) e (told s i)

-- a token's class, by its number
pub told_class : (s : List ℕ) (i : ℕ) (u : Placed) (c : Class) → next_item s i ≡ item u → Is c u → code_no (item_at 0 s i).class ≡ class_no c
told_class s i u c e h = rw (← h) (tells s i u e).class
