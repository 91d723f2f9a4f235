-- The laws of what separates: what one turn of `blank_end` does, with the tests' answers as its proof has them.
use Prim.Native.Nat.{ℕ, suc, ◌+◌, ◌≤◌, ◌<◌}
use mathlib.Core.Path.{◌≡◌, refl, ap, ◌∙◌}
use mathlib.Core.Bool.{Bool, true, false, ◌||◌}
use mathlib.Core.List.{List, [], ◌∷◌}
use native.Mathlib.Numerals.{add-one}
use native.Mathlib.Omega.{arith}
use borrow.Author.Rules.{rules}
use lib.Dec.{eqb}
use lib.ListN.{length, get_or, drop, drop_of_length-le}
use lib.Seq.{drop-cons, drop-drop, get_or-drop}
use Rattle.scan.specs.Kinds.{is_line_end, is_separator, is_comment_byte}
use Rattle.scan.specs.Run.{run, run_end, blank, blank_end, comment_at}

-- what ends a line separates
end_separates : (x : ℕ) → is_line_end x ≡ true → is_separator x ≡ true
end_separates x = last (eqb x 32 || eqb x 9) (eqb x 13) (eqb x 10)
  where
    last : (p q r : Bool) → (q || r) ≡ true → (p || q || r) ≡ true
    last true q r e = refl
    last false q r e = e

-- A comment is a run, and then what separates from its end on.
comment_run : (xs : List ℕ) → blank true xs ≡ run is_comment_byte xs + blank false (drop (run is_comment_byte xs) xs)
unfolding blank run
comment_run [] = refl
comment_run (x ∷ xs) = go (is_line_end x) refl (comment_run xs)
  where
    go : (a : Bool) → is_line_end x ≡ a → blank true xs ≡ run is_comment_byte xs + blank false (drop (run is_comment_byte xs) xs)
        → blank true (x ∷ xs) ≡ run is_comment_byte (x ∷ xs) + blank false (drop (run is_comment_byte (x ∷ xs)) (x ∷ xs))
    go true e h = rw (blank, run, e, end_separates x e) (omega arith)
    go false e h = rw (blank, run, e, h) (omega arith)

module _ (s : List ℕ) (i : ℕ) where
  next : get_or (drop (suc i) s) 0 0 ≡ get_or s (i + 1) 0
  next = get_or-drop (suc i) s 0 0 ∙ ap (λ (n : ℕ). get_or s n 0) (omega arith)

  in_comment : blank_end true s i ≡ blank_end false s (run_end is_comment_byte s i)
  unfolding blank_end run_end
  in_comment = rw (comment_run (drop i s), drop-drop (run is_comment_byte (drop i s)) i s) (omega arith)

  separator : i < length s → is_separator (get_or s i 0) ≡ true → blank_end false s i ≡ blank_end false s (i + 1)
  unfolding blank blank_end
  separator h e = rw (add-one, drop-cons s i 0, blank, e) (omega arith)

  slashes : i < length s → is_separator (get_or s i 0) ≡ false → comment_at s i ≡ true → blank_end false s i ≡ blank_end true s (i + 1)
  unfolding blank blank_end
  slashes h e f = rw (drop-cons s i 0, blank, e, next, f, add-one) (omega arith)

  token : i < length s → is_separator (get_or s i 0) ≡ false → comment_at s i ≡ false → blank_end false s i ≡ i
  unfolding blank blank_end
  token h e f = rw (drop-cons s i 0, blank, e, next, f) (omega arith)

  no_more : length s ≤ i → blank_end false s i ≡ i
  unfolding blank blank_end
  no_more h = rw (drop_of_length-le s h) (omega arith)

module _ (s : List ℕ) (i : ℕ) {e : ℕ} (inv : blank_end false s i ≡ e) where
  -- the same, as the proof asks: at an end e, with the tests' answers
  pub again_separator : {r : Bool} → r ≡ is_separator (get_or s i 0) → r ≡ true → i < length s → blank_end false s (i + 1) ≡ e
  again_separator a t h = let l = separator s i h (cc) in cc

  pub again_slashes : {r q : Bool} {k : ℕ} → r ≡ is_separator (get_or s i 0) → r ≡ false → q ≡ comment_at s i → q ≡ true → i < length s
      → k ≡ run_end is_comment_byte s (i + 1) → blank_end false s k ≡ e
  again_slashes a t a' t' h p = let l = slashes s i h (cc) (cc) in let m = in_comment s (i + 1) in cc

  pub stop_token : {r q : Bool} → r ≡ is_separator (get_or s i 0) → r ≡ false → q ≡ comment_at s i → q ≡ false → i < length s → i ≡ e
  stop_token a t a' t' h = let l = token s i h (cc) (cc) in cc

  pub past_blank : length s ≤ i → i ≡ e
  past_blank h = let l = no_more s i h in cc

pub ruleset blanks = (rules, again_separator, again_slashes, stop_token, past_blank)
