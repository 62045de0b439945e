use Rattle.std.proofs.Common.{◌*◌, get_or, replicate}
use Rattle.tcc_reads.specs.History.{count}
use Rattle.tcc_graph.specs.Levels.{judged}
use Rattle.tcc_lanes.specs.declared.pricing.TheConstants.{NONE}
use Rattle.tcc_lanes.specs.declared.words.TheConstants.{LANES}
use Rattle.tcc_lanes.specs.private.Closings.{AreOffered, IsFromFirst}
use Rattle.tcc_lanes.proofs.two_step_links.find_closings.Given as goal

abbrev pub invariant-loop-block : goal.invariant-loop-block
invariant-loop-block l =
    AreOffered (IsFromFirst (judged l.graph l.level) l.positions l.most l.sources l.targets (l.block * LANES)) (λ v. get_or l.positions v 0)
    (replicate (count l.graph) NONE) (replicate (count l.graph) 0) l.found.prices.items l.found.lasts.items
