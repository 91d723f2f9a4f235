-- Classes and points are told apart by their numbers; and what a test says of each in the list of all, it says of any.
use mathlib.Core.Path.{◌≡◌, refl, sym, ◌∙◌, ap}
use mathlib.Core.Bool.{Bool, true, ◌&&◌}
use mathlib.Core.List.{List, [], ◌∷◌}
use Prim.Native.Nat.{ℕ, zero, suc, ◌<◌}
use borrow.Author.Tests.{eqb-true, ltb-true}
use lib.Dec.{ltb}
use lib.ListN.{get_or}
use Rattle.laws.proofs.Choose.{and_left, and_right}
use Rattle.grammar.specs.declared.StartClause.{StartClause}
use Rattle.grammar.specs.declared.StartClause.TheVariants.{Required, Optional}
use Rattle.grammar.specs.Grammar.{Class, Point, is_class, is_point, class_no, point_no}
use Rattle.grammar.specs.Grammar.Class.{JOB, RESPONSE, UPLOAD, DOWNLOAD, GETINFO, ABORT, REPORT, EVENT, START, ACTIVE, IMMEDIATE, reserved, name, TIME≥, number, date, unreal_date, time, unreal_time, string, operator, semicolon}
use Rattle.grammar.specs.Grammar.Point.{first, between, statement, job_name, job_response, job_file, move_file, move_source, move_start, start_kind, start_time, start_date, start_operator, start_value, info_file, abort_kind, abort_name, ending, done, dead}

-- there are 22 classes
abbrev all_classes : List Class
all_classes =
    JOB ∷ RESPONSE ∷ UPLOAD ∷ DOWNLOAD ∷ GETINFO ∷ ABORT ∷ REPORT ∷ EVENT ∷ START ∷ ACTIVE ∷ IMMEDIATE ∷ reserved ∷ name
    ∷ TIME≥ ∷ number ∷ date ∷ unreal_date ∷ time ∷ unreal_time ∷ string ∷ operator ∷ semicolon ∷ []

abbrev all_points : StartClause → List Point
all_points clause =
    first ∷ between clause ∷ statement clause ∷ job_name ∷ job_response ∷ job_file ∷ move_file clause ∷ move_source clause ∷ move_start clause ∷ start_kind ∷ start_time
    ∷ start_date ∷ start_operator ∷ start_value ∷ info_file ∷ abort_kind ∷ abort_name ∷ ending ∷ done ∷ dead ∷ []

class_again : (c : Class) → get_or all_classes (class_no c) JOB ≡ c
class_again JOB = refl
class_again RESPONSE = refl
class_again UPLOAD = refl
class_again DOWNLOAD = refl
class_again GETINFO = refl
class_again ABORT = refl
class_again REPORT = refl
class_again EVENT = refl
class_again START = refl
class_again ACTIVE = refl
class_again IMMEDIATE = refl
class_again reserved = refl
class_again name = refl
class_again TIME≥ = refl
class_again number = refl
class_again date = refl
class_again unreal_date = refl
class_again time = refl
class_again unreal_time = refl
class_again string = refl
class_again operator = refl
class_again semicolon = refl

-- the setting of a point, and any for one that has none
abbrev setting : Point → StartClause
setting first = Required
setting (between clause) = clause
setting (statement clause) = clause
setting job_name = Required
setting job_response = Required
setting job_file = Required
setting (move_file clause) = clause
setting (move_source clause) = clause
setting (move_start clause) = clause
setting start_kind = Required
setting start_time = Required
setting start_date = Required
setting start_operator = Required
setting start_value = Required
setting info_file = Required
setting abort_kind = Required
setting abort_name = Required
setting ending = Required
setting done = Required
setting dead = Required

point_again : (q : Point) → get_or (all_points (setting q)) (point_no q) first ≡ q
point_again first = refl
point_again (between clause) = refl
point_again (statement clause) = refl
point_again job_name = refl
point_again job_response = refl
point_again job_file = refl
point_again (move_file clause) = refl
point_again (move_source clause) = refl
point_again (move_start clause) = refl
point_again start_kind = refl
point_again start_time = refl
point_again start_date = refl
point_again start_operator = refl
point_again start_value = refl
point_again info_file = refl
point_again abort_kind = refl
point_again abort_name = refl
point_again ending = refl
point_again done = refl
point_again dead = refl

pub is_class_lem : (c d : Class) → is_class c d ≡ true → c ≡ d
is_class_lem c d e = sym (class_again c) ∙ ap (λ (n : ℕ). get_or all_classes n JOB) {x = class_no c} {y = class_no d} (eqb-true _ _ e) ∙ class_again d

-- the point that alone has its number, whatever the setting
abbrev pub Sole : Point → Type 0
Sole q = (clause : StartClause) → get_or (all_points clause) (point_no q) first ≡ q

pub done_alone : Sole done
done_alone clause = refl

pub dead_alone : Sole dead
dead_alone clause = refl

pub is_point_lem : (p q : Point) → Sole q → is_point p q ≡ true → p ≡ q
is_point_lem p q one e =
    sym (point_again p) ∙ ap (λ (n : ℕ). get_or (all_points (setting p)) n first) {x = point_no p} {y = point_no q} (eqb-true _ _ e) ∙ one (setting p)

-- ---- one computed test over the list of all

abbrev pub every : {A : Type 0} → (A → Bool) → List A → Bool
every t [] = true
every t (x ∷ l) = t x && every t l

at_each : {A : Type 0} (t : A → Bool) (d : A) (l : List A) → t d ≡ true → every t l ≡ true → (n : ℕ) → t (get_or l n d) ≡ true
at_each t d [] p h n = p
at_each t d (x ∷ l) p h zero = and_left (t x) (every t l) h
at_each t d (x ∷ l) p h (suc n) = at_each t d l p (and_right (t x) (every t l) h) n

pub at_class : (t : Class → Bool) → every t all_classes ≡ true → (c : Class) → t c ≡ true
at_class t h c = ap t (sym (class_again c)) ∙ at_each t JOB all_classes (and_left _ _ h) h (class_no c)

pub at_point : (t : Point → Bool) → every t (all_points Required) ≡ true → every t (all_points Optional) ≡ true → (q : Point) → t q ≡ true
at_point t required optional q =
    let h = each (setting q) in
    ap t (sym (point_again q)) ∙ at_each t first (all_points (setting q)) (and_left _ _ h) h (point_no q)
  where
    each : (clause : StartClause) → every t (all_points clause) ≡ true
    each Required = required
    each Optional = optional

pub class_below : (c : Class) → class_no c < 22
class_below c = ltb-true _ _ (at_class (λ d. ltb (class_no d) 22) refl c)
