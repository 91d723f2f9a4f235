-- Writing a name: what a passed test gives, and what the contract asks where it is passed and where it is not.
use Prim.Native.Nat.{ℕ, ◌≤◌, ◌<◌}
use mathlib.Core.Path.{◌≡◌, refl, ap, ◌∙◌}
use mathlib.Core.Bool.{true, ◌&&◌}
use mathlib.Core.List.{List}
use native.Mathlib.Omega.{arith}
use lib.Dec.{eqb, leb, ltb}
use lib.ListN.{length, length-append}
use borrow.Author.Tests.{leb-true, ltb-true, eqb-true, le-leb, eq-eqb, ne_eqb}
use Rattle.laws.proofs.Choose.{and_left, and_right}
use Rattle.counts.specs.Limits.{sessions}
use Rattle.counts.specs.Result.{refused, done}
use Rattle.counts.proofs.Results.{passed, first_way}
use Rattle.field.specs.Part.{part, put, Wrote}
use Rattle.field.proofs.Put.{part_put}
use Rattle.decimal.specs.Digits.{digits}
use Rattle.decimal.proofs.Laws.{length_digits}
use Rattle.session_name.specs.Name.{ending, name_of, is_max, write_refusal, written, written_bytes}
use Rattle.session_name.specs.declared.Kind.{Kind}
use Rattle.session_name.specs.declared.Kind.TheVariants.{Request, Response}

pub length_ending : (kind : Kind) → length (ending kind) ≡ 4
length_ending Request = refl
length_ending Response = refl

pub length_name : (n : ℕ) (kind : Kind) → length (name_of n kind) ≡ 12
unfolding name_of
length_name n kind = omega (arith, length-append (digits 4 n) (ending kind), length_digits 4 n, length_ending kind)

module _ (max n : ℕ) where
  pub below_max : (is_max max && ltb n max) ≡ true → n < 32
  below_max h =
      omega (
        arith,
        ltb-true n max (and_right (is_max max) (ltb n max) h),
        leb-true max sessions (and_right (leb 1 max) (leb max sessions) (and_left (is_max max) (ltb n max) h)),
      )

  -- where nothing is refused there is room, and the number has four digits
  pub not_refused : (room : ℕ) → write_refusal max n room ≡ 0 → (12 ≤ room) × (n < 10000)
  unfolding write_refusal
  not_refused room h =
      let range = first_way (is_max max && ltb n max) _ 10 h in
      (leb-true 12 room (first_way (leb 12 room) _ 7 range.1).0, omega (arith, below_max range.0))

  pub wrote_name : (kind : Kind) {out e : List ℕ} {r : ℕ} → write_refusal max n (length out) ≡ 0 → Wrote out 0 (name_of n kind) e r
      → (done r ≡ written max n out) × (e ≡ written_bytes max n kind out)
  unfolding written written_bytes
  wrote_name kind h w =
      rw (eq-eqb _ _ h) (ap done (w.next ∙ omega (arith, length_name n kind)), w.bytes)

  pub refused_name : (kind : Kind) (out : List ℕ) → (write_refusal max n (length out) ≡ 0 → ⊥)
      → (refused (write_refusal max n (length out)) 0 ≡ written max n out) × (out ≡ written_bytes max n kind out)
  unfolding written written_bytes
  refused_name kind out h = rw (ne_eqb _ _ h) (refl, refl)

  -- ---- the first 12 bytes after a write that was not refused, and that a number in its range with room for it is not refused

  in_place : (kind : Kind) (out : List ℕ) → 12 ≤ length out → part (put out 0 (name_of n kind)) 0 12 ≡ name_of n kind
  in_place kind out room =
      let l = length_name n kind in
      rw (← l) (part_put out 0 (name_of n kind) (omega arith))

  pub was_written : (kind : Kind) (out : List ℕ) → written max n out ≡ done 12
      → ((is_max max && ltb n max) ≡ true) × (part (written_bytes max n kind out) 0 12 ≡ name_of n kind)
  unfolding written written_bytes write_refusal
  was_written kind out h =
      let no = eqb-true _ 0 (passed (eqb (write_refusal max n (length out)) 0) _ _ _ h).0 in
      ((first_way (is_max max && ltb n max) _ 10 no).0, rw (eq-eqb _ _ no) (in_place kind out (not_refused (length out) no).0))

  pub will_be_written : (kind : Kind) (out : List ℕ) → (is_max max && ltb n max) ≡ true → 12 ≤ length out
      → (written max n out ≡ done 12) × (part (written_bytes max n kind out) 0 12 ≡ name_of n kind)
  unfolding written written_bytes write_refusal
  will_be_written kind out h room = rw (h, le-leb 12 (length out) room) (refl, in_place kind out room)
