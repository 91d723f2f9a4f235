-- Under a kind of file that is neither, no name is written: its number is out of its range.
use Prim.Native.Nat.{ℕ}
use mathlib.Core.Path.{◌≡◌, refl}
use mathlib.Core.Bool.{Bool, true, false, cond, ◌&&◌}
use mathlib.Core.List.{List}
use native.Mathlib.Omega.{arith}
use lib.Dec.{leb, ltb}
use Rattle.std.specs.declared.result.Result.TheVariants.{Ok, Err}
use Rattle.counts.specs.Limits.{sessions}
use Rattle.counts.specs.Refusals.{out_of_range}
use Rattle.counts.specs.Result.{refused}
use Rattle.session_name.specs.Name.{is_max, write_refusal, written, written_bytes}
use Rattle.session_name.specs.declared.Kind.{Kind}
use Rattle.session_name.proofs.Writing.{below_max}
use Rattle.c_numbers.specs.Kinds.{number_under}

no_true : (b : Bool) → (b ≡ true → ⊥) → b ≡ false
no_true true h = absurd (h refl)
no_true false h = refl

-- no table has so many sessions
none_so_high : (max : ℕ) → (is_max max && ltb sessions max) ≡ false
none_so_high max = no_true _ (λ e. omega (arith, below_max max sessions e))

pub no_name : (max kind n : ℕ) (k : Kind) (out : List ℕ) → leb kind 1 ≡ false
    → (refused out_of_range 0 ≡ written max (number_under kind n) out) × (out ≡ written_bytes max (number_under kind n) k out)
unfolding written written_bytes write_refusal
no_name max kind n k out h = rw h (rw (none_so_high max) (refl, refl))

pub was_neither : {T E : Type 0} (b : Bool) (x : T) (e f : E) → cond b (Ok x) (Err e) ≡ Err f → b ≡ false
was_neither true x e f h = cc
was_neither false x e f h = refl
