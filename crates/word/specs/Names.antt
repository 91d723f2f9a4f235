-- What a word is, as its bytes stand (document 01, "Bytes and tokens", "The job grammar"; document 02, P11). Need not be believed: no word is read so by now,
-- and no claim cites it.
use Rattle.std.specs.Prelude.{ℕ, ◌+◌, ◌-◌, ◌≤◌, ◌<◌, ◌≡◌, true, false, ◌⊎◌, length, get_or, drop}
use mathlib.Core.List.{List, [], ◌++◌, Memᴰ}
use Rattle.field.specs.Bytes.{has_at, ascii}
use Rattle.field.specs.Part.{part}
use Rattle.scan.specs.Kinds.{is_digit, is_letter, is_word_byte}
use Rattle.word.specs.Word.{which_word}
use Rattle.word.specs.declared.Word.{Word}
use Rattle.word.specs.declared.Word.TheVariants.{Name as name, TimeGe}

-- 01: "Word: an ASCII letter, then ASCII letters, digits or `_`"
pub record Letters (x : List ℕ) : Type 0 where
  pub first : is_letter (get_or x 0 0) ≡ true
  pub each : (b : ℕ) → Memᴰ b x → is_word_byte b ≡ true

-- which word these bytes are, all of them
abbrev pub which : List ℕ → Word
which x = which_word x 0 (length x)

-- P11: "numbers of 1 to 3 digits"
pub record Index (x : List ℕ) : Type 0 where
  pub each : (b : ℕ) → Memᴰ b x → is_digit b ≡ true
  pub some : 1 ≤ length x
  pub few : length x ≤ 3

-- "one bracket group: `[`, one or two numbers of 1 to 3 digits parted by a comma, `]`, no spaces"
pub data Group (g : List ℕ) : Type 0 where
  one : (x : List ℕ) → Index x → g ≡ ascii "[" ++ (x ++ ascii "]") → Group g
  two : (x y : List ℕ) → Index x → Index y → g ≡ ascii "[" ++ (x ++ (ascii "," ++ (y ++ ascii "]"))) → Group g

-- 01: "A name is a word that isn't reserved.", "1 to 255 bytes"; P11: "A word may now end in one bracket group", "within the 255 bytes", "A reserved word
-- takes no bracket group"
pub record Name (bytes : List ℕ) : Type 0 where
  pub letters : List ℕ
  pub group : List ℕ
  pub is : bytes ≡ letters ++ group
  pub word : Letters letters
  pub free : which letters ≡ name
  pub ends : (group ≡ []) ⊎ Group group
  pub few : length bytes ≤ 255

-- 01: "A token is the longest run of its kind": from i to e the bytes of s are a name, and where it has no group, no byte follows that goes on with it
pub record NameFrom (s : List ℕ) (i e : ℕ) : Type 0 where
  pub name : Name (part s i (e - i))
  pub inside : e ≤ length s
  pub longest : name.group ≡ [] → (is_word_byte (get_or s e 0) ≡ false) × (get_or s e 0 ≡ 91 → ⊥)

-- the same of a reserved word, which a bracket does not go on with
pub record ReservedFrom (s : List ℕ) (i e : ℕ) (w : Word) : Type 0 where
  pub letters : Letters (part s i (e - i))
  pub is : which (part s i (e - i)) ≡ w
  pub reserved : w ≡ name → ⊥
  pub inside : e ≤ length s
  pub longest : is_word_byte (get_or s e 0) ≡ false
  pub apart : has_at s i (ascii "TIME>=") ≡ false

-- the word w stands in s from i to e; 01: "`TIME` directly followed by `>=` makes the one token `TIME>=`."
pub data WordFrom (s : List ℕ) (i e : ℕ) : Word → Type 0 where
  a_name : NameFrom s i e → WordFrom s i e name
  a_reserved : {w : Word} → ReservedFrom s i e w → WordFrom s i e w
  time_from : has_at s i (ascii "TIME>=") ≡ true → e ≡ i + 6 → WordFrom s i e TimeGe

-- ---- and what is none

-- P2: "an overlong word": at i more than 255 bytes of a word, with its group if it has one
pub record OverlongWord (s : List ℕ) (i : ℕ) : Type 0 where
  pub letters : List ℕ
  pub group : List ℕ
  pub after : List ℕ
  pub stands : drop i s ≡ letters ++ (group ++ after)
  pub word : Letters letters
  pub ends : (group ≡ []) ⊎ Group group
  pub overlong : 255 < length letters + length group

-- P11: "a broken bracket group": at i a word that isn't reserved, directly after it a `[`, and no group begins there
pub record BrokenGroup (s : List ℕ) (i : ℕ) : Type 0 where
  pub letters : List ℕ
  pub after : List ℕ
  pub stands : drop i s ≡ letters ++ (ascii "[" ++ after)
  pub word : Letters letters
  pub free : which letters ≡ name
  pub broken : (group rest : List ℕ) → ascii "[" ++ after ≡ group ++ rest → Group group → ⊥
