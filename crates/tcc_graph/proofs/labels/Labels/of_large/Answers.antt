-- One more name.
use Rattle.std.proofs.Common.{arith}
use Rattle.std.proofs.lemmas.Grind.{common_steps}
use Rattle.std.proofs.lemmas.List.FromFn.{map-range_with_len_more}
use Rattle.tcc_graph.specs.Numbers.{label}
use Rattle.tcc_graph.proofs.labels.Labels.of_large.Goals as goal

pub loop-number-preserved : goal.loop-number-preserved
loop-number-preserved c =
    grind (arith, common_steps, map-range_with_len_more (label c.args.graph.now) 0 c.loop-number.number c.loop-number.number (omega arith))
