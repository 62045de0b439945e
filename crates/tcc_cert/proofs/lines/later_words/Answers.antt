-- A word is written after the words so far.
use Rattle.std.proofs.Common.{◌++◌, codes}
use Rattle.tcc_cert.specs.private.LineWords.{word_text}
use Rattle.tcc_cert.proofs.SentFacts.{failed}
use Rattle.tcc_cert.proofs.Items.{Sends-item, Stops-item}
use Rattle.tcc_cert.proofs.lines.later_words.Goals as goal

pub returns-in_err-later_word : goal.returns-in_err-later_word
returns-in_err-later_word g c =
    failed c.from_residual.result _ _ _ _ _ c.from_residual.ensures.0
    (Stops-item (λ word. codes " " ++ word_text word) c.args.words.now c.loop-word.word-index _ c.loop-word-test.true c.loop-word.invariant
    c.in_err-later_word.ensures)

pub loop-word-preserved : goal.loop-word-preserved
loop-word-preserved g c =
    Sends-item (λ word. codes " " ++ word_text word) c.args.words.now c.loop-word.word-index _ c.loop-word-test.true c.loop-word.invariant c.in_ok-later_word.ensures
