use Rattle.tcc_core.proofs.Settlement.{word_or_cycle, least_cycle, capped_rows, returned_starts}
use Rattle.tcc_core.proofs.laws.settled.Goals as goal

pub returns : goal.returns
returns c = record { no_cycle = word_or_cycle; least = least_cycle; rows = capped_rows; returned = returned_starts }
