-- Every list of classes is the classes of some file's tokens: so what may stand by its tokens may stand in a file.
use Prim.Native.Nat.{ℕ, suc, ◌<◌}
use mathlib.Core.Path.{◌≡◌, refl, sym, ◌∙◌, ap, subst}
use mathlib.Core.Bool.{false, cond, ◌||◌}
use mathlib.Core.List.{List, [], ◌∷◌, ◌++◌}
use mathlib.Core.Logic.{◌↔◌}
use native.Mathlib.Omega.{arith}
use borrow.Author.Tests.{lt-ltb}
use lib.Dec.{eqb}
use lib.ListN.{length, get_or, length-append}
use Rattle.calendar.specs.Calendar.{real_date, real_time, month_length, february_length}
use Rattle.decimal.specs.Digits.{value, all_digits}
use Rattle.decimal.specs.Read.{digits_read}
use Rattle.field.specs.Part.{part}
use Rattle.field.specs.Bytes.{ascii, same, has_at}
use Rattle.scan.specs.Kinds.{is_digit, is_letter}
use Rattle.scan.specs.Run.{run, run_end, blank, blank_end}
use Rattle.word.specs.Word.{which_word, word_read}
use Rattle.token.specs.Token.{word_token, string_at, is_text_at, is_time_at, is_number_at, shaped_at, numeric_at, sign_at, token_at, next_token}
use Rattle.token.specs.declared.Why.{Why}
use Rattle.token.specs.declared.Token.{Token}
use Rattle.grammar.specs.Grammar.{Class}
use Rattle.grammar.specs.Grammar.Class.{JOB, RESPONSE, UPLOAD, DOWNLOAD, GETINFO, ABORT, REPORT, EVENT, START, ACTIVE, IMMEDIATE, reserved, name, TIME≥, number, date, unreal_date, time, unreal_time, string, operator, semicolon}
use Rattle.grammar.specs.Reading.{Last}
use Rattle.grammar.specs.Reading.Last.{end, no_token_at}
use Rattle.grammar.specs.declared.StartClause.{StartClause}
use Rattle.grammar.specs.Productions.{Said, Placed, classes, Legal, Begins}
use Rattle.grammar.proofs.Relabel.{relabel}
use Rattle.item.specs.Tokens.{at, number_class, time_number, item_of, next_item, Tokens}
use Rattle.item.specs.Files.{InFile}
use Rattle.item.specs.Tokens.Next.{item, ended}
use Rattle.item.specs.Tokens.Tokens.{at_end_here, no_token_here, then}
use Rattle.item.proofs.Shifted.{next_item_up}

-- from the place i on the file's tokens have the classes cs
pub record Spelled (s : List ℕ) (i : ℕ) (cs : List Class) : Type 0 where
  pub tokens : List Placed
  pub place : ℕ
  pub read : Tokens s i tokens (end place)
  pub are : classes tokens ≡ cs

at_the_end : (s : List ℕ) (i p : ℕ) → next_item s i ≡ ended p → Spelled s i []
at_the_end s i p e = record { tokens = []; place = p; read = at_end_here e; are = refl }

first_is : (s : List ℕ) (i : ℕ) (c : Class) (p b : ℕ) (x : Said) (cs : List Class) → next_item s i ≡ at c p b x → Spelled s b cs → Spelled s i (c ∷ cs)
first_is s i c p b x cs e r =
    record {
      tokens = record { class = c; place = p; end = b; said = x } ∷ r.tokens;
      place = r.place;
      read = then e r.read;
      are = ap (λ (k : List Class). c ∷ k) r.are;
    }

no_token≢end : {why : Why} {p q : ℕ} → no_token_at why p ≡ end q → ⊥
no_token≢end e = let z : ◌≡◌ {A = ℕ} 0 1 = cc in omega arith

-- a byte more in front
tokens_up : (x : ℕ) {v : List ℕ} {i : ℕ} {ts : List Placed} {z : Last} → Tokens v i ts z → (p : ℕ) → z ≡ end p → Spelled (x ∷ v) (suc i) (classes ts)
tokens_up x {v} {i} (at_end_here {p = q} e) p z = at_the_end (x ∷ v) (suc i) (suc q) (next_item_up x v i (ended q) e)
tokens_up x (no_token_here e) p z = absurd (no_token≢end z)
tokens_up x {v} {i} (then {t = t} {ts = ts} e r) p z =
    first_is (x ∷ v) (suc i) t.class (suc t.place) (suc t.end) t.said (classes ts) (next_item_up x v i (item t) e) (tokens_up x r p z)

spelled_up : (x : ℕ) (v : List ℕ) (i : ℕ) (cs : List Class) → Spelled v i cs → Spelled (x ∷ v) (suc i) cs
spelled_up x v i cs r = subst (Spelled (x ∷ v) (suc i)) r.are (tokens_up x r.read r.place refl)

spelled_after : (u v : List ℕ) (cs : List Class) → Spelled v 0 cs → Spelled (u ++ v) (length u) cs
spelled_after [] v cs r = r
spelled_after (x ∷ u) v cs r = spelled_up x (u ++ v) (length u) cs (spelled_after u v cs r)

-- a token of each class
abbrev pub spell : Class → List ℕ
spell JOB = ascii "JOB"
spell RESPONSE = ascii "RESPONSE"
spell UPLOAD = ascii "UPLOAD"
spell DOWNLOAD = ascii "DOWNLOAD"
spell GETINFO = ascii "GETINFO"
spell ABORT = ascii "ABORT"
spell REPORT = ascii "REPORT"
spell EVENT = ascii "EVENT"
spell START = ascii "START"
spell ACTIVE = ascii "ACTIVE"
spell IMMEDIATE = ascii "IMMEDIATE"
spell reserved = ascii "STOP"
spell name = ascii "a"
spell TIME≥ = ascii "TIME>="
spell number = ascii "1"
spell date = ascii "20240430"
spell unreal_date = ascii "20240431"
spell time = ascii "08:00:00"
spell unreal_time = ascii "24:00:00"
spell string = ascii "\"\""
spell operator = ascii "="
spell semicolon = ascii ";"

abbrev rest : List Class → List ℕ
rest [] = []
rest (c ∷ cs) = spell c ++ (32 ∷ rest cs)

-- a file with tokens of these classes
abbrev pub text : List Class → List ℕ
text cs = 32 ∷ rest cs

-- the token at i, where bytes stand there
token_in : List ℕ → ℕ → Token
token_in s i =
    cond (is_letter (get_or s i 0)) (word_token i (word_read s i))
    (cond (is_digit (get_or s i 0) || eqb (get_or s i 0) 45) (numeric_at s i) (cond (eqb (get_or s i 0) 34) (string_at s i) (sign_at s i)))

in_file : (s : List ℕ) (i : ℕ) → i < length s → token_at s i ≡ token_in s i
unfolding token_at token_in
in_file s i l = rw (lt-ltb _ _ l)

-- the blank before it is passed over, and then the spelling is a token of its class
first_token : (c : Class) (r : List ℕ)
    → (blank_end false (32 ∷ (spell c ++ (32 ∷ r))) 0 ≡ 1)
    × ((x : Said) × item_of (32 ∷ (spell c ++ (32 ∷ r))) (token_in (32 ∷ (spell c ++ (32 ∷ r))) 1) ≡ at c 1 (suc (length (spell c))) x)
unfolding token_in item_of which_word word_read number_class time_number digits_read value all_digits part real_date real_time month_length february_length string_at is_text_at is_time_at is_number_at shaped_at numeric_at sign_at run run_end same has_at blank_end blank
first_token JOB r = (refl, (_, refl))
first_token RESPONSE r = (refl, (_, refl))
first_token UPLOAD r = (refl, (_, refl))
first_token DOWNLOAD r = (refl, (_, refl))
first_token GETINFO r = (refl, (_, refl))
first_token ABORT r = (refl, (_, refl))
first_token REPORT r = (refl, (_, refl))
first_token EVENT r = (refl, (_, refl))
first_token START r = (refl, (_, refl))
first_token ACTIVE r = (refl, (_, refl))
first_token IMMEDIATE r = (refl, (_, refl))
first_token reserved r = (refl, (_, refl))
first_token name r = (refl, (_, refl))
first_token TIME≥ r = (refl, (_, refl))
first_token number r = (refl, (_, refl))
first_token date r = (refl, (_, refl))
first_token unreal_date r = (refl, (_, refl))
first_token time r = (refl, (_, refl))
first_token unreal_time r = (refl, (_, refl))
first_token string r = (refl, (_, refl))
first_token operator r = (refl, (_, refl))
first_token semicolon r = (refl, (_, refl))

first_item : (c : Class) (r : List ℕ) → next_item (32 ∷ (spell c ++ (32 ∷ r))) 0 ≡ at c 1 (suc (length (spell c))) (first_token c r).1.0
unfolding next_item next_token
first_item c r =
    let l : 1 < length (32 ∷ (spell c ++ (32 ∷ r))) = omega (arith, length-append (spell c) (32 ∷ r)) in
    ap (λ (i : ℕ). item_of (32 ∷ (spell c ++ (32 ∷ r))) (token_at (32 ∷ (spell c ++ (32 ∷ r))) i)) (first_token c r).0
    ∙ ap (item_of (32 ∷ (spell c ++ (32 ∷ r)))) (in_file (32 ∷ (spell c ++ (32 ∷ r))) 1 l)
    ∙ (first_token c r).1.1

blank_file : next_item (32 ∷ []) 0 ≡ ended 1
unfolding next_item next_token token_at item_of blank_end blank
blank_file = refl

pub spelled : (cs : List Class) → Spelled (text cs) 0 cs
spelled [] = at_the_end (text []) 0 1 blank_file
spelled (c ∷ cs) =
    first_is (text (c ∷ cs)) 0 c 1 (suc (length (spell c))) (first_token c (rest cs)).1.0 cs (first_item c (rest cs))
    (spelled_after (32 ∷ spell c) (text cs) cs (spelled cs))

-- What may stand by its tokens may stand in a file, and the other way.
pub in_file_exactly : (clause : StartClause) (a : List Placed) → Begins clause a ↔ InFile clause a
in_file_exactly clause a = (to, from)
  where
    to : Begins clause a → InFile clause a
    to b =
        let s : Spelled (text (classes (a ++ b.0))) 0 (classes (a ++ b.0)) = spelled (classes (a ++ b.0)) in
        let l : (rs : List ℕ) × Legal clause s.tokens rs = relabel clause (a ++ b.0) s.tokens b.1 (sym s.are) b.2 in
        record {
          bytes = text (classes (a ++ b.0));
          tokens = s.tokens;
          place = s.place;
          read = s.read;
          offsets = l.0;
          legal = l.1;
          more = b.0;
          goes_on = s.are;
        }

    from : InFile clause a → Begins clause a
    from f =
        let l : (rs : List ℕ) × Legal clause (a ++ f.more) rs = relabel clause f.tokens (a ++ f.more) f.offsets f.goes_on f.legal in
        (f.more, l.0, l.1)
