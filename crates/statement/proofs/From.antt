-- A statement read from the file's bytes from its place on is read as in the file: the same values, the same places.
use Prim.Native.Nat.{ℕ, zero, suc, ◌≤◌}
use mathlib.Core.Path.{◌≡◌, ◌∙◌, ap}
use mathlib.Core.List.{List}
use native.Mathlib.Omega.{arith}
use lib.ListN.{length, drop}
use Rattle.grammar.specs.declared.StartClause.{StartClause}
use Rattle.grammar.specs.Grammar.{Point, is_point}
use Rattle.grammar.specs.Grammar.Point.{statement, done}
use Rattle.item.specs.Items.{item_at}
use Rattle.item.specs.declared.Item.{Item}
use Rattle.item.proofs.Shows.{onward, from_there}
use Rattle.statement.specs.Statement.{StatementRead, Begun, Held, on_item, read_within, read_from, statement_of}
use Rattle.statement.proofs.Along.{while_open, on_alike}

module _ (o : ℕ) (s : List ℕ) (inside : o ≤ length s) where
  -- the token at a place from o on, and the rest
  on_both : (at : ℕ) → o ≤ at → (q : Point) (h : Held q) (k m : (p : Point) → Held p → ℕ → StatementRead)
      → ((p : Point) (x : Held p) (b : ℕ) → o ≤ b → k p x b ≡ m p x b)
      → on_item q h (item_at o (drop o s) at) (λ p x. k p x (item_at o (drop o s) at).next) ≡ on_item q h (item_at 0 s at) (λ p x. m p x (item_at 0 s at).next)
  on_both at l q h k m a =
      ap (λ (t : Item). on_item q h t (λ p x. k p x t.next)) (from_there o s at inside l)
      ∙ on_alike q (item_at 0 s at) h (λ p x. k p x (item_at 0 s at).next) (λ p x. m p x (item_at 0 s at).next)
      (λ p x. a p x (item_at 0 s at).next (omega (arith, onward 0 s at (omega arith))))

  within : (n : ℕ) (q : Point) (h : Held q) (at : ℕ) → o ≤ at → read_within o (drop o s) n q h at ≡ read_within 0 s n q h at
  unfolding read_within
  within zero q h at l = while_open (Begun q) (is_point q done) h at _ _ (λ f. rw (from_there o s at inside l))
  within (suc n) q h at l =
      while_open (Begun q) (is_point q done) h at _ _
      (λ f. on_both at l q h (read_within o (drop o s) n) (read_within 0 s n) (λ p x b m. within n p x b m))

  pub statement_from : (clause : StartClause) (at : ℕ) → o ≤ at
      → statement_of o (drop o s) clause (item_at o (drop o s) at) ≡ statement_of 0 s clause (item_at 0 s at)
  unfolding statement_of read_from
  statement_from clause at l = on_both at l (statement clause) tt (read_from o (drop o s)) (read_from 0 s) (λ p x b m. within 8 p x b m)
