-- What a callee's answer says, in the form in which the functions ask for it.
use mathlib.Core.Path.{◌≡◌, ap, ◌∙◌}
use mathlib.Core.List.{List}
use Prim.Native.Nat.{ℕ}
use Rattle.laws.proofs.Choose.{choose}
use Rattle.session_name.specs.Name.{number_read, paper_name_read, paper_name_written}
use Rattle.counts.specs.Result.{Result}
use Rattle.counts.specs.declared.Refusal.{Refusal}
use Rattle.counts.specs.declared.SessionNumber.{SessionNumber}
use Rattle.std.specs.declared.result.Result.{Result as Returned}
use Rattle.session_name.specs.declared.Kind.{Kind}
use Rattle.counts.proofs.Results.{paper_says_all}
use Rattle.std.specs.declared.option.Option.{Option}

pub says_number : (x : Result (ℕ × Kind)) (max : ℕ) (name : List ℕ) (d e : Option ℕ) → x ≡ number_read max name d → d ≡ e
    → x ≡ number_read max name e
says_number x max name d e p q = p ∙ ap (number_read max name) q

pub ruleset names = (choose, says_number)

-- ---- an answer's paper value loses nothing: two answers with the same value are the same answer

pub read_says_all : (a b : Returned (SessionNumber × Kind) Refusal) → paper_name_read a ≡ paper_name_read b → a ≡ b
read_says_all = paper_says_all (λ named. (named.0.0, named.1)) same
  where
    same : (x y : SessionNumber × Kind) → ◌≡◌ {A = ℕ × Kind} (x.0.0, x.1) (y.0.0, y.1) → x ≡ y
    same x y p = λ i. (record { 0 = (p i).0 }, (p i).1)

pub write_says_all : (a b : Returned ℕ Refusal) → paper_name_written a ≡ paper_name_written b → a ≡ b
write_says_all = paper_says_all (λ n. n) (λ x y e. e)
