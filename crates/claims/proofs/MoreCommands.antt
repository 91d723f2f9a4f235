-- The lengths of full replies, what older readers take, and tables in the old size.
use Prim.Native.Nat.{ℕ, zero, suc, ◌+◌, ◌-◌, ◌≤◌}
use mathlib.Core.Path.{◌≡◌, refl, sym, ◌∙◌}
use mathlib.Core.Bool.{true, false}
use mathlib.Core.List.{List, [], ◌∷◌}
use native.Mathlib.Omega.{arith}
use borrow.Author.Tests.{ne_eqb, le-leb}
use lib.ListN.{length, length-append}
use Rattle.laws.proofs.Choose.{and_both}
use Rattle.counts.specs.Limits.{commands, sessions}
use Rattle.counts.specs.Refusals.{too_little_room}
use Rattle.counts.specs.Result.{Result, refused}
use Rattle.counts.proofs.Results.{refused_not_done}
use Rattle.decimal.specs.Digits.{width_from, plain_width}
use Rattle.record.specs.Record.{content, record_bytes}
use Rattle.record.specs.declared.Outcome.TheVariants.{Error}
use Rattle.record.proofs.Lengths.{length_record, fixed_le}
use Rattle.record_read.proofs.Older.{never_misreads, older_agrees, older_refuses, older_refuses_too}
use Rattle.sessions.specs.Table.{Session, numbered, records, reply}
use Rattle.sessions.specs.declared.Answer.{Answer}
use Rattle.sessions.proofs.Parts.{SlotSound, open_slot, session}
use Rattle.session_table.specs.Calls.{collecting}
use Rattle.table_layout.specs.Layout.{table_bytes}
use Rattle.table_search.proofs.Sounds.{sound_table}
use Rattle.table_sound.specs.Bytes.{abs, sound_bytes}
use Rattle.claims.specs.TableRows.{eleven, thirteen, CollectRow, ten, eight, collected}
use Rattle.claims.specs.Demands.{records_to, older_table, MoreCommands}
use Rattle.claims.proofs.Demand1Table.{make_exactly, collect_exactly}
use Rattle.claims.proofs.StoredDates.{unsound_is_refused}

-- ---- replies

-- the bytes of ERROR records 1 to n with texts of w bytes
unfoldable length_to : (w n : ℕ) → ℕ
length_to w zero = 0
length_to w (suc n) = length_to w n + (50 + plain_width (suc n) + w)

-- with 255, and with 0
full_lengths : (length_to 255 commands ≡ 61492) × (length_to 0 commands ≡ 10492)
unfolding length_to plain_width width_from
full_lengths = (refl, refl)

none_to : length_to 0 0 ≡ 0
unfolding length_to
none_to = refl

length_to_lem : (class code date time : ℕ → ℕ) (text : ℕ → List ℕ) (w : ℕ) → ((n : ℕ) → length (text n) ≡ w) → (n : ℕ)
    → length (records_to n λ n. content n (Error (class n) (code n)) (text n) (date n) (time n)) ≡ length_to w n
unfolding records_to length_to
length_to_lem class code date time text w long zero = refl
length_to_lem class code date time text w long (suc n) =
    let before = records_to n λ n. content n (Error (class n) (code n)) (text n) (date n) (time n) in
    let last = content (suc n) (Error (class (suc n)) (code (suc n))) (text (suc n)) (date (suc n)) (time (suc n)) in
    omega (arith, length-append before (record_bytes last), length_record last, long (suc n), length_to_lem class code date time text w long n)

longer : (n d : ℕ) → length_to 0 n ≤ length_to 0 (n + d)
unfolding length_to
longer n zero = let z : n + 0 ≡ n = omega arith in rw z (omega arith)
longer n (suc d) = let z : n + suc d ≡ suc (n + d) = omega arith in rw z (omega (arith, longer n d))

-- no record of an answer is longer
length_numbered : (l : List Answer) (n : ℕ) → length (records (numbered (suc n) l)) + length_to 0 n ≤ length_to 0 (n + length l)
unfolding records numbered length_to
length_numbered [] n = let none : 0 + length_to 0 n ≡ length_to 0 n = omega arith in rw none (longer n 0)
length_numbered (a ∷ l) n =
    let first = content (suc n) a.outcome [] a.date a.time in
    let z : n + length (a ∷ l) ≡ suc n + length l = omega arith in
    rw z (omega (arith, length-append (record_bytes first) (records (numbered (suc (suc n)) l)), length_record first, fixed_le a.outcome _ refl, length_numbered l (suc n)))

few_answers : {max last s : ℕ} {x : Session} → SlotSound max last s x → length x.answers ≤ commands
few_answers (open_slot e) = rw e (omega arith)
few_answers (session w) = omega (arith, w.answers_few, w.count_high)

reply_short : (b : List ℕ) (s : ℕ) → sound_bytes b ≡ true → length (reply ((abs b).slot s)) ≤ 10492
reply_short b s sound =
    let l = ((abs b).slot s).answers in
    let few = few_answers ((sound_table b sound).slots s) in
    let rest : length l + (commands - length l) ≡ commands = omega arith in
    let from_none : 0 + length l ≡ length l = omega arith in
    omega (arith, rw from_none at (length_numbered l 0), rw rest at (longer (length l) (commands - length l)), full_lengths.1, none_to)

pub room_enough : (b : List ℕ) (p t room q : ℕ) → 10492 ≤ room → collecting b p t room ≡ refused too_little_room q → ⊥
room_enough b p t room q enough e = go (collecting b p t room) (collect_exactly b p t room).0 e
  where
    another : {n m : ℕ} → ◌≡◌ {A = Result (List ℕ)} (refused n 0) (refused m q) → n ≡ m
    another x = cc

    go : (x : Result (List ℕ)) → CollectRow b (abs b) p t room x → x ≡ refused too_little_room q → ⊥
    go v (thirteen a) x = let z = another x in omega arith
    go v (eleven a c) x = let z = another x in omega arith
    go v (ten a c d) x = let z = another x in omega arith
    go v (eight s a c d little) x = omega (arith, reply_short b s a)
    go v (collected s a c d fits) x = refused_not_done (sym x)

-- ---- tables

another_size : (b : List ℕ) → length b ≡ older_table → length b ≡ table_bytes → ⊥
another_size b old new = let z : older_table ≡ table_bytes = sym old ∙ new in omega arith

pub old_size_is_unsound : (b : List ℕ) → length b ≡ older_table → sound_bytes b ≡ false
unfolding sound_bytes
old_size_is_unsound b old = rw (ne_eqb (length b) table_bytes (another_size b old))

pub more_commands : MoreCommands
more_commands =
    record {
      both_limits = (refl, refl);
      full_reply = λ class code date time text long. length_to_lem class code date time text 255 long commands ∙ full_lengths.0;
      full_reply_without_texts = λ class code date time. length_to_lem class code date time (λ n. []) 0 (λ n. refl) commands ∙ full_lengths.1;
      room_enough = room_enough;
      never_misreads = λ older below s r h. (never_misreads older commands below (omega arith) s r h).1;
      older_reader_agrees = λ older below s. older_agrees older commands below (omega arith) s;
      older_reader_refuses = λ older below s. (older_refuses older commands below (omega arith) s, older_refuses_too older commands below (omega arith) s);
      sizes = (refl, refl);
      old_size_is_unsound = old_size_is_unsound;
      old_size_is_refused = λ b old. (
        λ max low high. (make_exactly b max).1 _ (thirteen (and_both (le-leb 1 max low) (le-leb max sessions high)) (another_size b old)),
        (unsound_is_refused b (old_size_is_unsound b old)).0,
        (unsound_is_refused b (old_size_is_unsound b old)).1,
        (unsound_is_refused b (old_size_is_unsound b old)).2,
        (unsound_is_refused b (old_size_is_unsound b old)).3,
      );
    }
