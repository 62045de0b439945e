-- the rows so far are on their way
use Rattle.std.proofs.Common.{take, flat_map}
use Rattle.tcc_cert.specs.Given.{Sends}
use Rattle.tcc_cert.specs.Texts.{line_text, numbers_words}
use Rattle.tcc_cert.proofs.lines.table.Given as goal

abbrev pub invariant-loop-row : goal.invariant-loop-row
invariant-loop-row g l =
    Sends (g.W.Write.contents l.initial.out) l.initial.outgoing (g.W.Write.contents l.out) l.outgoing
    (flat_map (λ row. line_text (numbers_words row)) (take l.row-index l.row-items))
