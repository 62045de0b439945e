-- the steps so far were taken
use Rattle.std.proofs.Common.{◌≡◌, List, []}
use Rattle.tcc_graph.specs.declared.link.Link.{Link}
use Rattle.tcc_reads.specs.History.{History}
use Rattle.tcc_cert.specs.InputBytes.{IsAt}
use Rattle.tcc_cert.specs.Reading.{Position}
use Rattle.tcc_cert.specs.declared.large.LinksSizes.{LinksSizes}
use Rattle.tcc_cert.proofs.TakingFacts.{HasGiven, steps_at}
use Rattle.tcc_cert.proofs.reading.taking.give_walk.Given as goal

abbrev pub invariant-steps : goal.invariant-steps
invariant-steps g l =
    record {
      works : l.input.source.failed ≡ l.initial.input.source.failed;
      ready : (h : History) → g.S.TakesLinks.ready l.initial.taker h → g.S.TakesLinks.ready l.taker h;
      read : (at : Position) (h : History) (sizes : LinksSizes) (links : List Link) (head : Link) → IsAt g.R.Read.remaining l.initial.input at
          → g.S.TakesLinks.takes l.initial.taker h sizes links head []
          → HasGiven g.R.Read.remaining l.input steps_at l.count at l.counter (g.S.TakesLinks.takes l.taker h sizes links head);
    }
