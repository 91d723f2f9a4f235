-- The item that code has shows what stands next; and the bytes of a file from a place on show it as the file does.
use Prim.Native.Nat.{ℕ, zero, suc, ◌+◌, ◌-◌, ◌≤◌, ◌<◌}
use mathlib.Core.Path.{◌≡◌, refl, sym, ◌∙◌, ap}
use mathlib.Core.Bool.{false}
use mathlib.Core.List.{List, [], ◌∷◌}
use native.Mathlib.Omega.{arith}
use native.Mathlib.Nat.{add-suc, suc-add, suc-sub-suc}
use borrow.Author.Tests.{ne_eqb}
use lib.Dec.{eqb}
use lib.ListN.{length, drop}
use Rattle.counts.specs.Refusals.{unexpected}
use Rattle.token.specs.Token.{next_token}
use Rattle.token.specs.declared.Why.{Why}
use Rattle.token.specs.declared.Why.TheVariants.{Stray, OpenString, BrokenString, Misshapen}
use Rattle.token.specs.declared.Token.{Token}
use Rattle.token.specs.declared.Token.TheVariants.{End, NoToken, Word, Number, Time, Text, Sign, Semicolon}
use Rattle.token.proofs.Ahead.{Lies, start_of, end_of, lies}
use Rattle.grammar.specs.Grammar.{Class, class_no}
use Rattle.grammar.specs.Reading.{no_token_number}
use Rattle.grammar.proofs.Apart.{class_below}
use Rattle.grammar.specs.Productions.{Placed}
use Rattle.item.specs.Tokens.{Next, word_class, number_class, time_class, item_of, next_item}
use Rattle.item.specs.Tokens.Next.{item, ended, no_token_next}
use Rattle.item.specs.Items.{code_no, end_no, no_token_no, refusal_no, numbered, item_at}
use Rattle.item.specs.declared.Item.{Item}
use Rattle.item.proofs.Classes.{code_same}
use Rattle.item.proofs.Standing.{next_of}
use Rattle.item.proofs.Shifted.{up, next_up, part_up, number_class_up, date_up, time_up}

-- an item's numbers are those of what stands next
pub data Shows (t : Item) : Next → Type 0 where
  a_token : {u : Placed} → code_no t.class ≡ class_no u.class → t.place ≡ u.place → t.next ≡ u.end → Shows t (item u)
  the_end : {p : ℕ} → code_no t.class ≡ end_no → t.place ≡ p → Shows t (ended p)
  no_token_here : {why : Why} {p : ℕ} → code_no t.class ≡ no_token_no why → t.place ≡ p → Shows t (no_token_next why p)

-- the numbers of no token are above that of the end, and those of the classes below
pub no_token_numbers : (why : Why) → (22 < no_token_no why) × (refusal_no (no_token_no why) ≡ no_token_number why)
no_token_numbers Stray = (omega arith, refl)
no_token_numbers OpenString = (omega arith, refl)
no_token_numbers BrokenString = (omega arith, refl)
no_token_numbers Misshapen = (omega arith, refl)

pub token_number : (c : Class) → refusal_no (class_no c) ≡ unexpected
token_number c = rw (other 22 (omega arith), other 23 (omega arith), other 24 (omega arith), other 25 (omega arith), other 26 (omega arith))
  where
    other : (n : ℕ) → 22 ≤ n → eqb (class_no c) n ≡ false
    other n l = ne_eqb (class_no c) n (λ e. omega (arith, class_below c))

none_before : (n : ℕ) → 0 + n ≡ n
none_before n = omega arith

by_token : (s : List ℕ) (k : Token) → Shows (numbered 0 s k) (item_of s k)
unfolding numbered item_of
by_token s (End p) = the_end refl (none_before p)
by_token s (NoToken w p) = no_token_here refl (none_before p)
by_token s (Word a b w) = a_token (code_same (word_class w)) (none_before a) (none_before b)
by_token s (Number a b) = a_token (code_same (number_class s a b)) (none_before a) (none_before b)
by_token s (Time a b) = a_token (code_same (time_class s a)) (none_before a) (none_before b)
by_token s (Text a b) = a_token refl (none_before a) (none_before b)
by_token s (Sign o a b) = a_token refl (none_before a) (none_before b)
by_token s (Semicolon a b) = a_token refl (none_before a) (none_before b)

pub shows : (s : List ℕ) (i : ℕ) → Shows (item_at 0 s i) (next_item s i)
unfolding item_at next_item
shows s i =
    let e : i - 0 ≡ i = omega arith in
    rw e (by_token s (next_token s i))

-- an item does not end before the place it was looked for from
pub onward : (base : ℕ) (s : List ℕ) (at : ℕ) → base ≤ at → at ≤ (item_at base s at).next
unfolding item_at
onward base s at h =
    let l : Lies s (at - base) (start_of (next_token s (at - base))) (end_of (next_token s (at - base))) =
    lies s (at - base) (next_token s (at - base)) (next_token s (at - base)) refl refl in
    omega (arith, next_of base s (next_token s (at - base)), l.from, l.ordered)

-- one byte fewer in front
module _ (x : ℕ) (v : List ℕ) (base : ℕ) where
  fewer : (k : Token) → numbered base (x ∷ v) (up k) ≡ numbered (suc base) v k
  unfolding numbered
  fewer (End p) = simp (add-suc, suc-add, suc-sub-suc)
  fewer (NoToken w p) = simp (add-suc, suc-add, suc-sub-suc)
  fewer (Word a b w) = simp (add-suc, suc-add, suc-sub-suc)
  fewer (Number a b) = simp (add-suc, suc-add, suc-sub-suc, number_class_up, date_up, part_up)
  fewer (Time a b) = simp (add-suc, suc-add, suc-sub-suc, time_up)
  fewer (Text a b) = simp (add-suc, suc-add, suc-sub-suc)
  fewer (Sign o a b) = simp (add-suc, suc-add, suc-sub-suc)
  fewer (Semicolon a b) = simp (add-suc, suc-add, suc-sub-suc)

  one_fewer : (at : ℕ) → suc base ≤ at → item_at base (x ∷ v) at ≡ item_at (suc base) v at
  unfolding item_at
  one_fewer at h =
      let e : at - base ≡ suc (at - suc base) = omega arith in
      rw (e, next_up x v (at - suc base)) (fewer (next_token v (at - suc base)))

part_shows : (o base : ℕ) (s : List ℕ) (at : ℕ) → o ≤ length s → base + o ≤ at → item_at (base + o) (drop o s) at ≡ item_at base s at
part_shows zero base s at l h = ap (λ (b : ℕ). item_at b s at) (omega arith)
part_shows (suc o) base [] at l h = absurd (omega arith)
part_shows (suc o) base (x ∷ v) at l h =
    ap (λ (b : ℕ). item_at b (drop o v) at) (omega arith)
    ∙ part_shows o (suc base) v at (omega arith) (omega arith)
    ∙ sym (one_fewer x v base at (omega arith))

-- the file from the place o on, from a place in it
pub from_there : (o : ℕ) (s : List ℕ) (at : ℕ) → o ≤ length s → o ≤ at → item_at o (drop o s) at ≡ item_at 0 s at
from_there o s at l h = ap (λ (b : ℕ). item_at b (drop o s) at) (omega arith) ∙ part_shows o 0 s at l (omega arith)
