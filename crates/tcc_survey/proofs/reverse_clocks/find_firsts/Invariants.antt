use Rattle.std.proofs.Common.{take}
use Rattle.std.specs.Prelude.{Contains}
use Rattle.tcc_clocks.specs.private.Rows.{HasEntries}
use Rattle.tcc_clocks.specs.declared.side.Side.TheVariants.{Future}
use Rattle.tcc_survey.proofs.reverse_clocks.find_firsts.Given as goal

abbrev pub invariant-loop-number : goal.invariant-loop-number
invariant-loop-number l = HasEntries Future l.block.graph.now l.block.from (Contains (take l.number-index l.backward)) l.table
