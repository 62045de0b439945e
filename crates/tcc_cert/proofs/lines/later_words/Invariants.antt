-- the words so far are on their way
use Rattle.std.proofs.Common.{◌++◌, take, flat_map, codes}
use Rattle.tcc_cert.specs.Given.{Sends}
use Rattle.tcc_cert.specs.private.LineWords.{word_text}
use Rattle.tcc_cert.proofs.lines.later_words.Given as goal

abbrev pub invariant-loop-word : goal.invariant-loop-word
invariant-loop-word g l =
    Sends (g.W.Write.contents l.initial.out) l.initial.outgoing (g.W.Write.contents l.out) l.outgoing
    (flat_map (λ word. codes " " ++ word_text word) (take l.word-index l.words))
