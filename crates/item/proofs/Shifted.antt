-- What stands in a file stands in the file with one byte more in front, one place later: so the bytes of a file from a place on read, from
-- there, as the file does.
use Rattle.word.specs.Word.{WordRead}
use Prim.Native.Nat.compare
use Prim.Native.Nat.{ℕ, suc}
use mathlib.Core.Path.{◌≡◌, refl, ◌∙◌, ap}
use mathlib.Core.Bool.{Bool, true, false, cond}
use mathlib.Core.List.{List, ◌∷◌}
use native.Mathlib.Nat.{suc-add, suc-sub-suc}
use lib.ListN.{drop}
use Rattle.field.specs.Part.{part}
use Rattle.scan.specs.Run.{blank, blank_end}
use Rattle.scan.proofs.Runs.{run_up}
use Rattle.std.specs.declared.option.Option.TheVariants.{Some, None}
use Rattle.word.proofs.Words as words
use Rattle.word.proofs.Words.{word_up}
use Rattle.token.specs.Token.{word_token, string_at, is_text_at, is_time_at, is_number_at, shaped_at, numeric_at, sign_at, token_at, next_token}
use Rattle.token.specs.declared.Token.{Token}
use Rattle.token.specs.declared.Token.TheVariants.{End, NoToken, Word, Number, Time, Text, Sign, Semicolon}
use Rattle.item.specs.Tokens.{Next, at, number_class, date_number, time_number, item_of, next_item}
use Rattle.item.specs.Tokens.Next.{item, ended, no_token_next}

-- the same token, one byte later
abbrev pub up : Token → Token
up (End p) = End (suc p)
up (NoToken w p) = NoToken w (suc p)
up (Word a b w) = Word (suc a) (suc b) w
up (Number a b) = Number (suc a) (suc b)
up (Time a b) = Time (suc a) (suc b)
up (Text a b) = Text (suc a) (suc b)
up (Sign o a b) = Sign o (suc a) (suc b)
up (Semicolon a b) = Semicolon (suc a) (suc b)

abbrev pub up_item : Next → Next
up_item (item t) = at t.class (suc t.place) (suc t.end) t.said
up_item (ended p) = ended (suc p)
up_item (no_token_next why p) = no_token_next why (suc p)

of_word : (i : ℕ) (r : WordRead) → word_token (suc i) (words.up r) ≡ up (word_token i r)
of_word i (Some (w, e)) = refl
of_word i None = refl

up_cond : (b : Bool) (x y : Token) → up (cond b x y) ≡ cond b (up x) (up y)
up_cond true x y = refl
up_cond false x y = refl

module _ (x : ℕ) (v : List ℕ) where
  text_up : (i : ℕ) → string_at (x ∷ v) (suc i) ≡ up (string_at v i)
  unfolding string_at is_text_at
  text_up i = simp (run_up, suc-add, suc-sub-suc, compare.suc-suc, up_cond)

  is_time_up : (i e : ℕ) → is_time_at (x ∷ v) (suc i) (suc e) ≡ is_time_at v i e
  unfolding is_time_at
  is_time_up i e = simp (suc-add, suc-sub-suc)

  number_up : (i e : ℕ) → is_number_at (x ∷ v) (suc i) (suc e) ≡ is_number_at v i e
  unfolding is_number_at
  number_up i e = simp (run_up, suc-add, compare.suc-suc)

  shaped_up : (i d : ℕ) → shaped_at (x ∷ v) (suc i) (suc d) ≡ up (shaped_at v i d)
  unfolding shaped_at
  shaped_up i d = simp (run_up, is_time_up, number_up, up_cond)

  numeric_up : (i : ℕ) → numeric_at (x ∷ v) (suc i) ≡ up (numeric_at v i)
  unfolding numeric_at
  numeric_up i = simp (suc-add, shaped_up, up_cond)

  sign_up : (i : ℕ) → sign_at (x ∷ v) (suc i) ≡ up (sign_at v i)
  unfolding sign_at
  sign_up i = simp (suc-add, up_cond)

  token_up : (i : ℕ) → token_at (x ∷ v) (suc i) ≡ up (token_at v i)
  unfolding token_at
  token_up i = simp (word_up, of_word, numeric_up, text_up, sign_up, compare.suc-suc, up_cond)

  blank_up : (i : ℕ) → blank_end false (x ∷ v) (suc i) ≡ suc (blank_end false v i)
  unfolding blank_end
  blank_up i = suc-add i (blank false (drop i v))

  pub next_up : (i : ℕ) → next_token (x ∷ v) (suc i) ≡ up (next_token v i)
  unfolding next_token
  next_up i = simp (blank_up, token_up)

  pub part_up : (i w : ℕ) → part (x ∷ v) (suc i) w ≡ part v i w
  unfolding part
  part_up i w = refl

  pub number_class_up : (a b : ℕ) → number_class (x ∷ v) (suc a) (suc b) ≡ number_class v a b
  unfolding number_class
  number_class_up a b = simp (suc-sub-suc, part_up)

  pub date_up : (a b : ℕ) → date_number (x ∷ v) (suc a) (suc b) ≡ date_number v a b
  unfolding date_number
  date_up a b = simp (suc-sub-suc, part_up)

  pub time_up : (a : ℕ) → time_number (x ∷ v) (suc a) ≡ time_number v a
  unfolding time_number
  time_up a = simp (suc-add, part_up)

  item_up : (k : Token) → item_of (x ∷ v) (up k) ≡ up_item (item_of v k)
  unfolding item_of
  item_up (End p) = refl
  item_up (NoToken w p) = refl
  item_up (Word a b w) = refl
  item_up (Number a b) = simp (number_class_up, date_up, suc-sub-suc, part_up)
  item_up (Time a b) = rw time_up
  item_up (Text a b) = refl
  item_up (Sign o a b) = refl
  item_up (Semicolon a b) = refl

  pub next_item_up : (i : ℕ) (k : Next) → next_item v i ≡ k → next_item (x ∷ v) (suc i) ≡ up_item k
  unfolding next_item
  next_item_up i k e = ap (item_of (x ∷ v)) (next_up i) ∙ item_up (next_token v i) ∙ ap up_item e
