-- the runs so far are on their way
use Rattle.std.proofs.Common.{take, flat_map}
use Rattle.tcc_cert.specs.Given.{Sends}
use Rattle.tcc_cert.specs.Texts.{line_text}
use Rattle.tcc_cert.specs.LargeTexts.{run_words}
use Rattle.tcc_cert.proofs.large_writing.run_lines.Given as goal

abbrev pub invariant-loop-run : goal.invariant-loop-run
invariant-loop-run g l =
    Sends (g.W.Write.contents l.initial.out) l.initial.outgoing (g.W.Write.contents l.out) l.outgoing
    (flat_map (λ run. line_text (run_words run)) (take l.run-index l.runs))
