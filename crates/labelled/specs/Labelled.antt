-- What the reader and the writer of digits after a fixed word answer. Need not be believed: `field_done` and `field_back` (`proofs/Fields`) show that it is
-- the word and a number's digits, and that number, which the reader takes; the writer's bytes are those of the word and the digits.
use Rattle.std.specs.Prelude.{ℕ, ◌+◌, ◌≡◌, cond, List, ◌++◌, length}
use Rattle.field.specs.Bytes.{has_at}
use Rattle.field.specs.Part.{part, Wrote}
use Rattle.decimal.specs.Digits.{digits}
use Rattle.decimal.specs.Read.{digits_read}
use Rattle.std.specs.declared.option.Option.{Option}
use Rattle.std.specs.declared.option.Option.TheVariants.{Some, None}

-- going on with what was read, or stopping where it is not there
abbrev pub on_some : {T R : Type 0} → Option T → R → (T → R) → R
on_some (Some x) stop go = go x
on_some None stop go = stop

-- the same with two values
abbrev pub on_pair : {A B R : Type 0} → Option (A × B) → R → (A → B → R) → R
on_pair (Some (a, b)) stop go = go a b
on_pair None stop go = stop

-- the number in the w digits that stand after a fixed word at a place
unfoldable pub field_after : List ℕ → ℕ → List ℕ → ℕ → Option ℕ
field_after s at word w = cond (has_at s at word) (on_some (digits_read w (part s (at + length word) w)) None Some) None

-- a word and n in w digits after it were written from at on, and the place after them
pub record WroteAfter (d : List ℕ) (at : ℕ) (word : List ℕ) (w n : ℕ) (e : List ℕ) (after : ℕ) : Type 0 where
  pub wrote : Wrote d at (word ++ digits w n) e after
  pub next : after ≡ at + (length word + w)
  pub kept : length e ≡ length d
