-- What a callee's answer says, in the form in which the readers ask for it: where a field was read the word goes on, and where it was not
-- the word stops.
use Prim.Native.Nat.{ℕ, ◌+◌, ◌-◌, ◌≤◌}
use mathlib.Core.Path.{◌≡◌, sym, ap, ◌∙◌}
use mathlib.Core.Bool.{true, ◌&&◌}
use mathlib.Core.List.{List}
use lib.Dec.{leb}
use borrow.Author.Tests.{leb-true}
use Rattle.laws.proofs.Choose.{and_left, and_right}
use Rattle.counts.specs.declared.CommandNumber.{CommandNumber}
use Rattle.labelled.specs.Labelled.{on_some}
use Rattle.moment.proofs.Moments.{moments}
use Rattle.record.specs.declared.Outcome.{Outcome}
use Rattle.record_read.specs.Reading.{command_field, outcome_read, number_in, rest_read}
use Rattle.record_read.specs.declared.Record.{Record}
use Rattle.std.specs.declared.option.Option.{Option}
use Rattle.std.specs.declared.option.Option.TheVariants.{Some, None}

module _ (R : Type 0) (x stop : R) where
  pub command_read : (go : ℕ → R) (d : Option CommandNumber) (e : Option ℕ) (n : CommandNumber) → command_field d ≡ e → d ≡ Some n → x ≡ go n.0
      → x ≡ on_some e stop go
  command_read go d e n p q h = rw (sym p ∙ ap command_field q) h

  pub no_command : (go : ℕ → R) (d : Option CommandNumber) (e : Option ℕ) → command_field d ≡ e → d ≡ None → x ≡ stop → x ≡ on_some e stop go
  no_command go d e p q h = rw (sym p ∙ ap command_field q) h

module _ (s : List ℕ) where
  pub number_of : (r : Option ℕ) (limit at end e : ℕ) → r ≡ number_in limit s at (end - (at + 8)) → end ≡ e → r ≡ number_in limit s at (e - (at + 8))
  number_of r limit at end e p q = p ∙ ap (λ (k : ℕ). number_in limit s at (k - (at + 8))) q

  pub outcome_of : (r : Option (Outcome × ℕ)) (at w v : ℕ) → r ≡ outcome_read s (at + 8 + w) → w ≡ v → r ≡ outcome_read s (at + 8 + v)
  outcome_of r at w v p q = p ∙ ap (λ (k : ℕ). outcome_read s (at + 8 + k)) q

  pub rest_of_lem : (n : ℕ) (o : Outcome) (x : Option (Record × ℕ)) (start end e : ℕ) → x ≡ rest_read s n o start end → end ≡ e → x ≡ rest_read s n o start e
  rest_of_lem n o x start end e p q = p ∙ ap (rest_read s n o start) q

-- what a test of both ends of a range gives
pub between : (a b w : ℕ) → (leb a w && leb w b) ≡ true → (a ≤ w) × (w ≤ b)
between a b w h = (leb-true a w (and_left (leb a w) (leb w b) h), leb-true w b (and_right (leb a w) (leb w b) h))

pub ruleset reads = (moments, command_read, no_command, number_of, rest_of_lem, outcome_of)
