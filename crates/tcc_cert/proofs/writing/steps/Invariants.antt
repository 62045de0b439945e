-- the steps so far are on their way
use Rattle.std.proofs.Common.{take, flat_map}
use Rattle.tcc_cert.specs.Given.{Sends}
use Rattle.tcc_cert.specs.Texts.{line_text, step_words}
use Rattle.tcc_cert.proofs.writing.steps.Given as goal

abbrev pub invariant-loop-one : goal.invariant-loop-one
invariant-loop-one g l =
    Sends (g.W.Write.contents l.initial.out) l.initial.outgoing (g.W.Write.contents l.out) l.outgoing
    (flat_map (λ step. line_text (step_words step)) (take l.one-index l.steps))
