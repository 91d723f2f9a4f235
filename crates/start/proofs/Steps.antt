-- The laws that the functions ask for, each in its own shape: what a callee has answered is a variable.
use Prim.Native.Nat.{ℕ, ◌+◌, ◌-◌, ◌*◌, ◌^◌, ◌≤◌, ◌<◌}
use mathlib.Core.Path.{◌≡◌, refl, sym, ap, ap₂, ◌∙◌}
use mathlib.Core.Bool.{Bool, true, false, ◌&&◌}
use mathlib.Core.List.{List, [], ◌∷◌}
use mathlib.Core.Logic.{◌⊎◌, inl, inr, ⊎_swap}
use native.Mathlib.Omega.{arith}
use borrow.Author.Tests.{ne_eqb}
use lib.Dec.{eqb, ltb}
use lib.Pointwise.{pointwise}
use lib.IntN.{ℤ, nat_abs}
use Rattle.counts.specs.Limits.{number_digits}
use Rattle.counts.specs.Refusals.{not_real, not_a_record, not_comparable}
use Rattle.counts.specs.Result.{refused, done}
use Rattle.counts.proofs.Results.{first_way}
use Rattle.laws.proofs.Choose.{halves}
use Rattle.field.specs.Bytes.{same}
use Rattle.grammar.specs.Statement as read
use Rattle.grammar.specs.Statement.{Operator, Number, Start}
use Rattle.meaning.specs.Paper.{paper_value}
use Rattle.statement.specs.declared.Operand.{Operand}
use Rattle.statement.specs.declared.Operand.TheVariants as operand
use Rattle.start.specs.Due.{number, Given}
use Rattle.start.specs.Decision.{present_value, by_order, number_holds, comparable, is_permitted, value_permitted, constant_permitted, constant_of, condition_refusal, all_real, clause_refusal, due_refusal, is_due, decision, negative, mantissa_limit, Levelled}
use Rattle.start.specs.declared.Present.{Present}
use Rattle.start.specs.declared.Present.TheVariants as present
use Rattle.start.proofs.Levels.{levels_order}
use Rattle.start.proofs.Permits.{number_permitted}

-- ---- numbers. A mantissa goes to a function as a word, and comes back as the number a, which is the same.

pub permitted_so : (n : Number) (a : ℤ) (size : ℕ) → a ≡ n.mantissa → size ≡ nat_abs a
    → (ltb size mantissa_limit && ltb n.scale number_digits) ≡ is_permitted n
unfolding is_permitted
permitted_so n a size e is = ap (λ (k : ℕ). ltb k mantissa_limit && ltb n.scale number_digits) (is ∙ ap nat_abs e)

pub permitted_small : (n : Number) (a : ℤ) → a ≡ n.mantissa → is_permitted n ≡ true → nat_abs a < mantissa_limit
permitted_small n a e h = rw e ((number_permitted n).0 h).0

-- x is what the operator o makes of the levels r and q
module _ (o : Operator) (v k : Number) (a b : ℤ) (a-is : a ≡ v.mantissa) (b-is : b ≡ k.mantissa) (vp : is_permitted v ≡ true) (kp : is_permitted k ≡ true)
    (x : Bool) (r q : ℕ) (made : x ≡ by_order o (ltb r q) (ltb q r)) where
  -- c digits after the point are both numbers', and d more of v or e more of k are made up
  compared_so : (c d e : ℕ) → k.scale ≡ d + c → v.scale ≡ e + c → (d ≡ 0) ⊎ (e ≡ 0) → Levelled (negative a) (nat_abs a * 10 ^ d) r
      → Levelled (negative b) (nat_abs b * 10 ^ e) q → x ≡ number_holds o v k
  unfolding number_holds
  compared_so c d e more more' z l m =
      let small = ((number_permitted v).0 vp).0 in
      let small' = ((number_permitted k).0 kp).0 in
      let l' : Levelled (negative v.mantissa) (nat_abs v.mantissa * 10 ^ d) r = rw (← a-is) l in
      let m' : Levelled (negative k.mantissa) (nat_abs k.mantissa * 10 ^ e) q = rw (← b-is) m in
      made
      ∙ ap₂ (by_order o)
      (levels_order v.mantissa k.mantissa v.scale k.scale c d e more more' small small' r q z l' m')
      (levels_order k.mantissa v.mantissa k.scale v.scale c e d more' more small' small q r (⊎_swap z) m' l')

  pub fewer_left : v.scale ≤ k.scale → Levelled (negative a) (nat_abs a * 10 ^ (k.scale - v.scale)) r
      → Levelled (negative b) (nat_abs b * 10 ^ 0) q → x ≡ number_holds o v k
  fewer_left h = compared_so v.scale (k.scale - v.scale) 0 (omega arith) (omega arith) (inr refl)

  pub fewer_right : k.scale < v.scale → Levelled (negative a) (nat_abs a * 10 ^ 0) r
      → Levelled (negative b) (nat_abs b * 10 ^ (v.scale - k.scale)) q → x ≡ number_holds o v k
  fewer_right h = compared_so k.scale 0 (v.scale - k.scale) (omega arith) (omega arith) (inl refl)

-- ---- strings

pub by_elements : (s t : List ℕ) → pointwise eqb s t ≡ same s t
unfolding same
by_elements [] [] = refl
by_elements [] (y ∷ t) = refl
by_elements (x ∷ s) [] = refl
by_elements (x ∷ s) (y ∷ t) = ap (λ (b : Bool). eqb x y && b) (by_elements s t)

-- ---- conditions

-- what can be compared is not a matter of bytes
kinds_decide : (o : Operator) (x : Operand) (p : Present) (s c : List ℕ)
    → comparable o (present_value p []) (constant_of [] (paper_value x)) ≡ comparable o (present_value p c) (constant_of s (paper_value x))
kinds_decide o (operand.Number n) (present.Number m) s c = refl
kinds_decide o (operand.Number n) present.Text s c = refl
kinds_decide o (operand.Text quote) (present.Number m) s c = refl
kinds_decide o (operand.Text quote) present.Text s c = refl

module _ (s : List ℕ) (o : Operator) (x : Operand) (p : Present) (c : List ℕ) (a b : Bool) (a-is : a ≡ constant_permitted s (paper_value x))
    (b-is : b ≡ value_permitted (present_value p c)) where
  pub not_permitted : (a && b) ≡ false → not_a_record ≡ condition_refusal s o (paper_value x) (present_value p c)
  unfolding condition_refusal
  not_permitted h = rw (← a-is, ← b-is, h)

  module _ (h : (a && b) ≡ true) (t : Bool) (t-is : t ≡ comparable o (present_value p []) (constant_of [] (paper_value x))) where
    pub not_comparable_lem : t ≡ false → not_comparable ≡ condition_refusal s o (paper_value x) (present_value p c)
    unfolding condition_refusal
    not_comparable_lem e = rw (← a-is, ← b-is, h, sym (t-is ∙ kinds_decide o x p s c) ∙ e)

    pub no_refusal : t ≡ true → 0 ≡ condition_refusal s o (paper_value x) (present_value p c)
    unfolding condition_refusal
    no_refusal e = rw (← a-is, ← b-is, h, sym (t-is ∙ kinds_decide o x p s c) ∙ e)

pub numbers_permitted : (s : List ℕ) (o : Operator) (k v : Number) → condition_refusal s o (read.number k) (number v) ≡ 0
    → (is_permitted v ≡ true) × (is_permitted k ≡ true)
unfolding condition_refusal
numbers_permitted s o k v h =
    let b = halves (is_permitted k) (is_permitted v) (first_way (is_permitted k && is_permitted v) 0 6 h).0 in
    (b.1, b.0)

-- ---- the decision

module _ (g : Given) (x : Start) where
  pub unreal_so : all_real g.date g.time g.taken_up x ≡ false → refused not_real 0 ≡ decision g x
  unfolding decision due_refusal
  unreal_so e = rw e

  module _ (real : all_real g.date g.time g.taken_up x ≡ true) where
    pub refused_so : (n : ℕ) → n ≡ clause_refusal g.bytes g.value x → (n ≡ 0 → ⊥) → refused n 0 ≡ decision g x
    unfolding decision due_refusal
    refused_so n e h = rw (real, ← e, ne_eqb n 0 h)

    pub decided_so : (d : Bool) → clause_refusal g.bytes g.value x ≡ 0 → d ≡ is_due g x → done d ≡ decision g x
    unfolding decision due_refusal
    decided_so d e h = rw (real, e) (ap done h)
