-- the bytes so far are in the line
use Rattle.std.proofs.Common.{take}
use Rattle.std.specs.Io.KnownBytes.{Consumes}
use Rattle.tcc_requests.specs.private.Reading.{IsInLine}
use Rattle.tcc_requests.proofs.line.read_line.Given as goal

abbrev pub invariant-loop-at : goal.invariant-loop-at
invariant-loop-at g l =
    record {
      taken : Consumes (g.R.Read.remaining l.initial.reader) (g.R.Read.remaining l.reader) (take l.at l.line);
      in_line : IsInLine (take l.at l.line);
    }
