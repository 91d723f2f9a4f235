-- A way to end a statement from each point: along the first edge of each.
use Prim.Native.Nat.{ℕ, zero, suc}
use mathlib.Core.Path.{◌≡◌, refl}
use mathlib.Core.Bool.{false, ◌||◌}
use mathlib.Core.List.{List, [], ◌∷◌}
use Rattle.grammar.specs.Grammar.{Class, Point, Edge, next, walk, is_point}
use Rattle.grammar.specs.Grammar.Point.{done, dead}
use Rattle.grammar.proofs.Apart.{done_alone, is_point_lem, at_point}

abbrev along : List Edge → (Point → List Class) → List Class
along [] rest = []
along (e ∷ es) rest = e.class ∷ rest e.to

-- of at most n classes
abbrev way : ℕ → Point → List Class
way zero q = []
way (suc n) q = along (next q) (way n)

abbrev pub finish : Point → List Class
finish q = way 8 q

pub finishes : (q : Point) → is_point q dead ≡ false → walk q (finish q) ≡ done
finishes q e =
    is_point_lem (walk q (finish q)) done done_alone
    (rw e at (at_point (λ (p : Point). is_point p dead || is_point (walk p (finish p)) done) refl refl q))
