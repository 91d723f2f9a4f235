use Rattle.std.proofs.Common.{◌≡◌, ℕ, ◌+◌, ◌<◌, true, false, arith, rules, tests}
use Rattle.std.proofs.lemmas.Iterator.{cases_from_all, YieldsList-from_range}
use Rattle.sessions.specs.Sound.{in_range_and_real}
use Rattle.slot.specs.Fields.{entry_of}
use Rattle.table_sound.proofs.Tests.{all_is}
use Rattle.table_sound.proofs.answers_are_real.Goals as goal

pub returns : goal.returns
returns c =
    let passes = λ (i : ℕ). in_range_and_real (entry_of c.args.b.now c.args.s.0 (i + 1)) in
    all_is _ _ _
    (cases_from_all _ _ c.all.result (λ i. i < c.args.n → passes i ≡ true) (λ i. i < c.args.n → passes i ≡ false) c.all.ensures.ran
    (YieldsList-from_range 0 c.args.n c.args.n (cc) (omega arith))
    (λ x q k. (search rules, λ l. grind (arith, tests)))
    (λ x q k l. grind (arith, tests)))
