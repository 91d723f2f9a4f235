-- `start::condition_holds` meets its contract.
use Rattle.item.specs.Tokens.{paper_operator}
use Rattle.start.proofs.Steps.{numbers_permitted}
use Rattle.start.proofs.condition_holds.Goals as goal

pub number_holds-requires : goal.number_holds-requires
number_holds-requires c =
    let numbers = c.in-Number-Number in
    numbers_permitted _ (paper_operator c.args.o) _ _ (rw (numbers.is-0, numbers.is-1) at c.requires)
