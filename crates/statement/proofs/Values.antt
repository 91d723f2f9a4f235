-- A number's class is one of three: the law that `start_value` is proved by.
use mathlib.Core.Path.{◌≡◌, refl, ◌∙◌}
use mathlib.Core.Bool.{Bool, true, false, cond, ◌||◌, ◌&&◌}
use Rattle.item.proofs.Classes.{by_class}
use Rattle.statement.specs.Statement.{StatementRead}

-- three tests for one answer x, and the last of them once more where none holds
one_of_three : (a b d u e : Bool) (x y z r : StatementRead)
    → cond (a || b || d) x (cond e y r) ≡ cond a x (cond b x (cond d x (cond e y (cond (false && u) z (cond (true && d) z r)))))
one_of_three true b d u e x y z r = refl
one_of_three false true d u e x y z r = refl
one_of_three false false true u e x y z r = refl
one_of_three false false false u e x y z r = refl

pub by_three : (a b d u e : Bool) (q x y z r : StatementRead) → q ≡ cond (a || b || d) x (cond e y r)
    → q ≡ cond a x (cond b x (cond d x (cond e y (cond (false && u) z (cond (true && d) z r)))))
by_three a b d u e q x y z r p = p ∙ one_of_three a b d u e x y z r

pub ruleset values = (by_class, by_three)
