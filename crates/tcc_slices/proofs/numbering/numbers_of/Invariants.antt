use Rattle.tcc_slices.proofs.NumberLists.{IsNumbered}
use Rattle.tcc_slices.proofs.numbering.numbers_of.Given as goal

abbrev pub invariant-loop-one : goal.invariant-loop-one
invariant-loop-one l = IsNumbered l.needs l.numbers.items l.last l.one-index
