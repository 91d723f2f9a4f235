-- `word::indexed_name` meets its contract.
use Rattle.word.proofs.indexed_name.Goals as goal
