-- Laws of lines: the four delimiters, how long lines and their cells are, and what the cells of lines are parts of.
use Prim.Native.Nat.{ℕ, ◌+◌, ◌*◌, ◌≤◌}
use mathlib.Core.Path.{◌≡◌, refl}
use mathlib.Core.Bool.{Bool, true, false, false≢true, ◌||◌}
use mathlib.Core.List.{List, [], ◌∷◌, ◌++◌}
use native.Mathlib.Omega.{arith}
use borrow.Author.Tests.{eqb-true}
use lib.Dec.{eqb}
use lib.ListN.{length, length-append}
use Rattle.delimited.specs.Separators.{byte_of}
use Rattle.delimited.specs.declared.Delimiter.{Delimiter}
use Rattle.delimited.specs.declared.Delimiter.TheVariants.{Tab, Comma, Semicolon, Bar}
use Rattle.delimited.specs.Lines.{is_delimiter, separator, others, line, lines, places_of, cells_of, Each, none, and}

-- what holds of the four holds of every delimiter
pub of_four : (P : ℕ → Type 0) → P 44 → P 59 → P 124 → P 9 → (d : ℕ) → is_delimiter d ≡ true → P d
of_four P comma semicolon bar tab d h = go (eqb d 44) refl (eqb d 59) refl (eqb d 124) refl (eqb d 9) refl h
  where
    go : (a : Bool) → eqb d 44 ≡ a → (b : Bool) → eqb d 59 ≡ b → (c : Bool) → eqb d 124 ≡ c → (e : Bool) → eqb d 9 ≡ e → (a || b || c || e) ≡ true → P d
    go true p b q c r e t k = rw (eqb-true d 44 p) comma
    go false p true q c r e t k = rw (eqb-true d 59 q) semicolon
    go false p false q true r e t k = rw (eqb-true d 124 r) bar
    go false p false q false r true t k = rw (eqb-true d 9 t) tab
    go false p false q false r false t k = absurd (false≢true k)

pub one_of_four : (d : Delimiter) → is_delimiter (byte_of d) ≡ true
one_of_four Tab = refl
one_of_four Comma = refl
one_of_four Semicolon = refl
one_of_four Bar = refl

pub delimiter≢0 : (d : ℕ) → is_delimiter d ≡ true → d ≡ 0 → ⊥
delimiter≢0 = of_four (λ d. d ≡ 0 → ⊥) (λ e. omega arith) (λ e. omega arith) (λ e. omega arith) (λ e. omega arith)

pub delimiter≢13 : (d : ℕ) → is_delimiter d ≡ true → 13 ≡ d → ⊥
delimiter≢13 = of_four (λ d. 13 ≡ d → ⊥) (λ e. omega arith) (λ e. omega arith) (λ e. omega arith) (λ e. omega arith)

-- ---- a line is a field, and then CR LF or the delimiter and a line

module _ (d : ℕ) where
  pub line_last : (x : List ℕ) → line d (x ∷ []) ≡ x ++ separator d true
  unfolding line others
  line_last x = refl

  pub line_more : (x y : List ℕ) (xs : List (List ℕ)) → line d (x ∷ (y ∷ xs)) ≡ x ++ (d ∷ line d (y ∷ xs))
  unfolding line others
  line_more x y xs = refl

  pub line_some : (row : List (List ℕ)) → 2 ≤ length (line d row)
  unfolding line others
  line_some [] = omega arith
  line_some (x ∷ []) = omega (arith, length-append x (separator d true))
  line_some (x ∷ (y ∷ xs)) = omega (arith, length-append x (d ∷ line d (y ∷ xs)), line_some (y ∷ xs))

  -- with a byte in each field at least
  pub line_long : (row : List (List ℕ)) → 1 ≤ length row → Each (λ x. 1 ≤ length x) row → 2 * length row ≤ length (line d row)
  unfolding line others
  line_long [] some none = absurd (omega arith)
  line_long (x ∷ []) some (and h none) = omega (arith, length-append x (separator d true))
  line_long (x ∷ (y ∷ xs)) some (and h hs) = omega (arith, length-append x (d ∷ line d (y ∷ xs)), line_long (y ∷ xs) (omega arith) hs)

-- ---- cells

pub length_places : (p : ℕ) (row : List (List ℕ)) → length (places_of p row) ≡ 2 * length row
unfolding places_of
length_places p [] = refl
length_places p (x ∷ xs) = omega (arith, length_places (p + length x + 1) xs)

pub each_so : {A : Type 0} {P Q : A → Type 0} {xs : List A} → ((x : A) → P x → Q x) → Each P xs → Each Q xs
each_so f none = none
each_so f (and {x} h hs) = and (f x h) (each_so f hs)

-- of lines with as many fields each
module _ (many d : ℕ) where
  pub length_cells : (p : ℕ) (ls : List (List (List ℕ))) → Each (λ row. length row ≡ many) ls → length (cells_of d p ls) ≡ 2 * (many * length ls)
  unfolding cells_of
  length_cells p [] none = omega arith
  length_cells p (l ∷ ls) (and e es) =
      let next = p + length (line d l) in
      omega (arith, length-append (places_of p l) (cells_of d next ls), length_places p l, length_cells next ls es)

  pub lines_long : (ls : List (List (List ℕ))) → Each (λ row. (length row ≡ many) × (2 * length row ≤ length (line d row))) ls
      → 2 * (many * length ls) ≤ length (lines d ls)
  unfolding lines
  lines_long [] none = omega arith
  lines_long (l ∷ ls) (and e es) = omega (arith, length-append (line d l) (lines d ls), lines_long ls es)
