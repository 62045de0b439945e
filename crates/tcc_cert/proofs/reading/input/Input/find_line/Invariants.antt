-- no line feed is among the bytes that were searched, and each turn that goes on adds some
use Rattle.std.proofs.Common.{◌≡◌, ◌≤◌, ◌-◌, length, take}
use Rattle.tcc_cert.specs.declared.reading.window.TheConstants.{WINDOW_BYTES}
use Rattle.tcc_cert.specs.WindowBytes.{window_bytes}
use Rattle.tcc_cert.specs.InputBytes.{IsAt}
use Rattle.tcc_cert.specs.Reading.{Position, line_length}
use Rattle.tcc_cert.proofs.reading.input.Input.find_line.Given as goal

abbrev pub invariant-reads : goal.invariant-reads
invariant-reads g l =
    record {
      passed : l.self.passed ≡ 0;
      number : l.self.number ≡ l.initial.self.number;
      works : l.self.source.failed ≡ l.initial.self.source.failed;
      within : l.searched ≤ length (window_bytes l.self.window);
      none : line_length (take l.searched (window_bytes l.self.window)) ≡ l.searched;
      stays : (at : Position) → IsAt g.R.Read.remaining l.initial.self at → IsAt g.R.Read.remaining l.self at;
    }

abbrev pub decreases-reads : goal.decreases-reads
decreases-reads g l = WINDOW_BYTES - length (window_bytes l.self.window)
