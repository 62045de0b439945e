-- The line was read and judged.
use Rattle.tcc_cert.specs.Ranges.{ranges_at}
use Rattle.tcc_cert.specs.Reading.{words_of}
use Rattle.tcc_cert.proofs.StepFacts.{line-shows}
use Rattle.tcc_cert.proofs.reading.words.next_line.Goals as goal

pub returns-clause-gives : goal.returns-clause-gives
returns-clause-gives g c at before =
    rw c.at_line.ensures
    (line-shows g.R.Read.remaining (ranges_at c.args.scale).line_bytes at c.in_ok-line.line
    (λ line. g.L.WordLine.form c.args.scale (words_of line)) c.line_of.result _ (c.in_ok-line.ensures.line at before) (rw c.line.ensures at c.line_of.ensures))
