-- What the programs print for a refusal. Need not be believed: no claim cites it.
use Rattle.std.specs.Prelude.{ℕ, ◌++◌, List, codes}
use Rattle.std.specs.Fmt.{decimal}
use Rattle.counts.specs.Refusals.{number_of}
use Rattle.counts.specs.declared.Refusal.{Refusal}

abbrev pub printed_refusal : Refusal → List ℕ
printed_refusal r = codes "REFUSED " ++ decimal (number_of r.reason) ++ codes " " ++ decimal r.place
