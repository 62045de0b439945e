-- the links so far are on their way
use Rattle.std.proofs.Common.{take, flat_map}
use Rattle.tcc_cert.specs.Given.{Sends}
use Rattle.tcc_cert.specs.Texts.{lines_text, link_lines}
use Rattle.tcc_cert.proofs.writing.link_lines.Given as goal

abbrev pub invariant-loop-one : goal.invariant-loop-one
invariant-loop-one g l =
    Sends (g.W.Write.contents l.initial.out) l.initial.outgoing (g.W.Write.contents l.out) l.outgoing
    (flat_map (λ link. lines_text (link_lines link)) (take l.one-index l.one-items))
