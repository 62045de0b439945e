-- the entries so far were read
use Rattle.std.proofs.Common.{◌≡◌}
use Rattle.tcc_cert.specs.InputBytes.{IsAt}
use Rattle.tcc_cert.specs.Reading.{Position}
use Rattle.tcc_cert.proofs.StepFacts.{IsPart}
use Rattle.tcc_cert.proofs.reading.links.entries.Given as goal

abbrev pub invariant-entries : goal.invariant-entries
invariant-entries g l =
    record {
      works : l.input.source.failed ≡ l.initial.input.source.failed;
      read : (at : Position) → IsAt g.R.Read.remaining l.initial.input at
          → (now : Position) × IsPart (λ i. g.E.LineEntry.entry l.scale) l.count at l.items.items l.counter now × IsAt g.R.Read.remaining l.input now;
    }
