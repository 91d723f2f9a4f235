-- What is compared, as code tests it, is what P3 says: strings and numbers by each operator, what can be compared, and the constant that stands in the bytes.
use Prim.Native.Nat.{ℕ}
use mathlib.Core.Path.{◌≡◌, refl, sym, ap, ◌∙◌}
use mathlib.Core.Bool.{true, false≢true}
use mathlib.Core.List.{List}
use mathlib.Core.Logic.{◌⊎◌, ◌↔◌, inl, inr}
use borrow.Author.Tests.{not-true}
use Rattle.field.specs.Bytes.{same}
use Rattle.field.proofs.Same.{same_refl, same_true}
use Rattle.token.specs.Token.{WholeString, is_text_at, content_at}
use Rattle.token.proofs.Whole.{whole_string_exactly}
use Rattle.grammar.proofs.Points.{refuted}
use Rattle.grammar.specs.Statement as read
use Rattle.grammar.specs.Statement.{Operator}
use Rattle.grammar.specs.Statement.Operator.{equal, not_equal, above, below, at_least, at_most}
use Rattle.job.specs.Statement.{text_at}
use Rattle.start.specs.Due.{Compared, number, text, TextHolds, Holds, Comparable, Permitted, ConstantIs}
use Rattle.start.specs.Decision.{by_same, no_order, holds, comparable, constant_permitted, constant_of}
use Rattle.start.proofs.Tested.{number_exactly}
use Rattle.start.proofs.Permits.{number_permitted}

-- ---- what is compared

same_exactly : (k v : List ℕ) → same k v ≡ true ↔ (v ≡ k)
same_exactly k v = (λ h. sym (same_true k v h), λ e. rw e (same_refl k))

no_order_exactly : (o : Operator) → no_order o ≡ true ↔ ((o ≡ equal) ⊎ (o ≡ not_equal))
no_order_exactly o = (there o, back)
  where
    there : (o : Operator) → no_order o ≡ true → (o ≡ equal) ⊎ (o ≡ not_equal)
    there equal h = inl refl
    there not_equal h = inr refl
    there above h = absurd (false≢true h)
    there below h = absurd (false≢true h)
    there at_least h = absurd (false≢true h)
    there at_most h = absurd (false≢true h)

    back : (o ≡ equal) ⊎ (o ≡ not_equal) → no_order o ≡ true
    back (inl e) = rw e
    back (inr e) = rw e

text_exactly : (o : Operator) (v k : List ℕ) → by_same o (same k v) ≡ true ↔ TextHolds o v k
text_exactly o v k = (there o, back)
  where
    there : (o : Operator) → by_same o (same k v) ≡ true → TextHolds o v k
    there equal h = inl (refl, (same_exactly k v).0 h)
    there not_equal h = inr (refl, λ e. false≢true (sym (not-true (same k v) h) ∙ (same_exactly k v).1 e))
    there above h = absurd (false≢true h)
    there below h = absurd (false≢true h)
    there at_least h = absurd (false≢true h)
    there at_most h = absurd (false≢true h)

    back : TextHolds o v k → by_same o (same k v) ≡ true
    back (inl h) = rw h.0 ((same_exactly k v).1 h.1)
    back (inr h) = rw (h.0, refuted (same k v) (λ e. h.1 ((same_exactly k v).0 e)))

pub holds_exactly : (o : Operator) (v k : Compared) → holds o v k ≡ true ↔ Holds o v k
holds_exactly o (number v) (number k) = number_exactly o v k
holds_exactly o (text v) (text k) = text_exactly o v k
holds_exactly o (number v) (text k) = (λ h. false≢true h, λ h. absurd h)
holds_exactly o (text v) (number k) = (λ h. false≢true h, λ h. absurd h)

pub comparable_exactly : (o : Operator) (v k : Compared) → comparable o v k ≡ true ↔ Comparable o v k
comparable_exactly o (number v) (number k) = (λ h. tt, λ h. refl)
comparable_exactly o (text v) (text k) = no_order_exactly o
comparable_exactly o (number v) (text k) = (λ h. false≢true h, λ h. absurd h)
comparable_exactly o (text v) (number k) = (λ h. false≢true h, λ h. absurd h)

-- ---- the constant

-- where a constant stands it is the one that code sees
shown : (s : List ℕ) (quote : ℕ) (t : List ℕ) → (is_text_at s quote ≡ true) × (content_at s quote ≡ t) → text_at s quote ≡ t
shown s quote t h = rw h.0 h.1

pub constant_is : (s : List ℕ) (c : read.Value) (k : Compared) → ConstantIs s c k → k ≡ constant_of s c
constant_is s (read.number n) k e = e
constant_is s (read.text quote) k (t, e, w) = e ∙ ap text (sym (shown s quote t ((whole_string_exactly s quote t).0 w)))

pub constant_permitted_lem : (s : List ℕ) (c : read.Value) → constant_permitted s c ≡ true ↔ ((k : Compared) × ConstantIs s c k × Permitted k)
constant_permitted_lem s (read.number n) = (λ h. (number n, refl, (number_permitted n).0 h), back)
  where
    back : (k : Compared) × ConstantIs s (read.number n) k × Permitted k → constant_permitted s (read.number n) ≡ true
    back (k, e, p) = (number_permitted n).1 (rw e at p)
constant_permitted_lem s (read.text quote) = (there, back)
  where
    there : is_text_at s quote ≡ true → (k : Compared) × ConstantIs s (read.text quote) k × Permitted k
    there h =
        let c = content_at s quote in
        let w : WholeString s quote c = (whole_string_exactly s quote c).1 (h, refl) in
        (text c, (c, refl, w), (w.few, w.each))

    back : (k : Compared) × ConstantIs s (read.text quote) k × Permitted k → is_text_at s quote ≡ true
    back (k, (c, e, w), p) = ((whole_string_exactly s quote c).0 w).0
