-- the links so far were taken
use Rattle.std.proofs.Common.{◌≡◌, []}
use Rattle.tcc_reads.specs.History.{History}
use Rattle.tcc_cert.specs.InputBytes.{IsAt}
use Rattle.tcc_cert.specs.Reading.{Position}
use Rattle.tcc_cert.specs.declared.large.LinksSizes.{LinksSizes}
use Rattle.tcc_cert.proofs.TakingFacts.{HasGiven, links_at}
use Rattle.tcc_cert.proofs.reading.taking.give_links.Given as goal

abbrev pub invariant-links : goal.invariant-links
invariant-links g l =
    record {
      works : l.input.source.failed ≡ l.initial.input.source.failed;
      ready : (h : History) → g.S.TakesLinks.ready l.initial.taker h → g.S.TakesLinks.ready l.taker h;
      read : (at : Position) (h : History) (sizes : LinksSizes) → IsAt g.R.Read.remaining l.initial.input at → g.S.TakesLinks.took l.initial.taker h sizes []
          → HasGiven g.R.Read.remaining l.input links_at l.count at l.counter (g.S.TakesLinks.took l.taker h sizes);
    }
