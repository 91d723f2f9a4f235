-- A field that is there reads as what was written, a field that was read is there, and what the answers say in the form in which readers ask for it.
use Prim.Native.Nat.{ℕ, ◌+◌, ◌^◌, ◌≤◌, ◌<◌}
use mathlib.Core.Path.{◌≡◌, refl, sym, ap, ◌∙◌}
use mathlib.Core.Bool.{Bool, true, false, cond}
use mathlib.Core.List.{List, ◌++◌}
use native.Mathlib.Nat.{pow-le-pow_right}
use native.Mathlib.Omega.{arith}
use lib.ListN.{length, drop, length-append, length-drop}
use Rattle.laws.proofs.Choose.{choose}
use Rattle.field.specs.Bytes.{has_at}
use Rattle.field.specs.Part.{part, Wrote}
use Rattle.field.proofs.Parts.{part_is, rest_is, is_part}
use Rattle.field.proofs.Put.{then, wrote_length}
use Rattle.field.proofs.Same.{has_part, then_has}
use Rattle.decimal.specs.Digits.{digits}
use Rattle.decimal.specs.Read.{digits_read}
use Rattle.decimal.proofs.Laws.{length_digits}
use Rattle.decimal.proofs.ReadLaws.{read_done, read_back}
use Rattle.labelled.specs.Labelled.{on_some, on_pair, field_after, WroteAfter}
use Rattle.std.specs.declared.option.Option.{Option}
use Rattle.std.specs.declared.option.Option.TheVariants.{Some, None}

-- ---- a reader that went on: each test was passed, and each field was read

module _ {R : Type 0} (stop r : R) (never : stop ≡ r → ⊥) where
  pub test_on : (b : Bool) (x : R) → cond b x stop ≡ r → (b ≡ true) × (x ≡ r)
  test_on true x h = (refl, h)
  test_on false x h = absurd (never h)

  pub field_on : {T : Type 0} (d : Option T) (go : T → R) → on_some d stop go ≡ r → (v : T) × (d ≡ Some v) × (go v ≡ r)
  field_on (Some v) go h = (v, refl, h)
  field_on None go h = absurd (never h)

  pub pair_on : {A B : Type 0} (d : Option (A × B)) (go : A → B → R) → on_pair d stop go ≡ r → (a : A) × (b : B) × (d ≡ Some (a, b)) × (go a b ≡ r)
  pair_on (Some (a, b)) go h = (a, b, refl, h)
  pair_on None go h = absurd (never h)

-- a word that stands there
pub word_back : (s : List ℕ) (at : ℕ) (word : List ℕ) (next : ℕ) → next ≡ at + length word → has_at s at word ≡ true
    → drop at s ≡ word ++ drop next s
word_back s at word next e t = is_part s at word (length word) refl next e (has_part s at word t)

-- ---- a field

pub not_field : {T : Type 0} {v : T} → None ≡ Some v → ⊥
not_field h = let z : ◌≡◌ {A = ℕ} 0 1 = cc in omega arith

-- a value that was read is the value asked for
pub field_same : {T : Type 0} {u v : T} → Some u ≡ Some v → u ≡ v
field_same h = cc

pub pair_same : {A B : Type 0} {a c : A} {b d : B} → ◌≡◌ {A = Option (A × B)} (Some (a, b)) (Some (c, d)) → (a ≡ c) × (b ≡ d)
pair_same {A} {B} {a} {c} {b} {d} h =
    let p : ◌≡◌ {A = A × B} (a, b) (c, d) = field_same h in
    (ap (λ (x : A × B). x.0) p, ap (λ (x : A × B). x.1) p)

-- a field of at most eight digits
pub eight : (w : ℕ) (p : List ℕ) (v : ℕ) → w ≤ 8 → digits_read w p ≡ Some v → v < 100000000
eight w p v h e =
    let ten : 0 < 10 = omega arith in
    let small : v < 10 ^ w = (read_back w p v e).1 in
    let most : 10 ^ w ≤ 10 ^ 8 = pow-le-pow_right ten h in
    omega arith

module _ (s : List ℕ) (at : ℕ) (word : List ℕ) (w : ℕ) where
  -- the word and the digits stand there: the field reads as the number, and what follows them is what followed
  pub field_done : (v : ℕ) (ys : List ℕ) → v < 10 ^ w → drop at s ≡ word ++ (digits w v ++ ys) → field_after s at word w ≡ Some v
  unfolding field_after
  field_done v ys small h =
      let rest = rest_is s at word (length word) refl (digits w v ++ ys) (at + length word) refl h in
      rw (then_has s at word (digits w v ++ ys) h, part_is s (at + length word) (digits w v) w (length_digits w v) ys rest, read_done w v small)

  -- the field reads as a number: the word and its digits stand there
  pub field_back : (v next : ℕ) → next ≡ at + length word + w → field_after s at word w ≡ Some v
      → (drop at s ≡ word ++ (digits w v ++ drop next s)) × (v < 10 ^ w)
  unfolding field_after
  field_back v next e h = go (has_at s at word) refl (digits_read w (part s (at + length word) w)) refl h
    where
      go : (b : Bool) → has_at s at word ≡ b → (d : Option ℕ) → digits_read w (part s (at + length word) w) ≡ d
          → cond b (on_some d None Some) None ≡ Some v
          → (drop at s ≡ word ++ (digits w v ++ drop next s)) × (v < 10 ^ w)
      go true t (Some u) q f =
          let same : u ≡ v = cc in
          let b = read_back w (part s (at + length word) w) v (q ∙ ap Some same) in
          let rest = is_part s (at + length word) (digits w v) w (length_digits w v) next e b.0 in
          (word_back s at word (at + length word) refl t ∙ ap (λ (l : List ℕ). word ++ l) rest, b.1)
      go true t None q f = absurd (not_field f)
      go false t d q f = absurd (not_field f)

  pub field_lt : (v : ℕ) → field_after s at word w ≡ Some v → v < 10 ^ w
  field_lt v h = (field_back v (at + length word + w) refl h).1

-- ---- a word and digits that were written

pub wrote_after : (d : List ℕ) (at : ℕ) (word : List ℕ) (w n : ℕ) {f e : List ℕ} {a r : ℕ} → Wrote d at word f a → Wrote f a (digits w n) e r
    → WroteAfter d at word w n e r
wrote_after d at word w n v u = record {
  wrote = then v u;
  next = omega (arith, v.next, u.next, length_digits w n);
  kept = wrote_length u ∙ wrote_length v;
}

-- ---- where a field was read the word goes on, and where it was not the word stops

module _ (R : Type 0) (x stop : R) where
  pub some_read : (T : Type 0) (go : T → R) (d e : Option T) (v : T) → d ≡ e → d ≡ Some v → x ≡ go v → x ≡ on_some e stop go
  some_read T go d e v p q h = rw (sym p ∙ q) h

  pub none_read : (T : Type 0) (go : T → R) (d e : Option T) → d ≡ e → d ≡ None → x ≡ stop → x ≡ on_some e stop go
  none_read T go d e p q h = rw (sym p ∙ q) h

  pub pair_read : (A B : Type 0) (go : A → B → R) (d e : Option (A × B)) (a : A) (b : B) → d ≡ e → d ≡ Some (a, b) → x ≡ go a b → x ≡ on_pair e stop go
  pair_read A B go d e a b p q h = rw (sym p ∙ q) h

  pub no_pair : (A B : Type 0) (go : A → B → R) (d e : Option (A × B)) → d ≡ e → d ≡ None → x ≡ stop → x ≡ on_pair e stop go
  no_pair A B go d e p q h = rw (sym p ∙ q) h

-- a field of two digits
pub two : (s : List ℕ) (at : ℕ) (word : List ℕ) (d : Option ℕ) (v : ℕ) → d ≡ field_after s at word 2 → d ≡ Some v → v < 100
two s at word d v p q = field_lt s at word 2 v (sym p ∙ q)

-- where a field was read, it ends within the bytes
pub read_room : (s : List ℕ) (at : ℕ) (word : List ℕ) (w : ℕ) (d : Option ℕ) (v : ℕ) → 0 < length word → d ≡ field_after s at word w → d ≡ Some v
    → at + length word + w ≤ length s
read_room s at word w d v some p q =
    let k = at + length word + w in
    omega (arith, simp (length-append, length-drop, length_digits) at (ap length (field_back s at word w v k refl (sym p ∙ q)).0))

pub ruleset fields = (choose, some_read, none_read, pair_read, no_pair, two)
