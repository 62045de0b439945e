-- The first word is written, then the others, and then the line feed.
use Rattle.std.proofs.Common.{◌++◌, codes}
use Rattle.tcc_cert.specs.private.LineWords.{word_text}
use Rattle.tcc_cert.proofs.SentFacts.{failed, IsSent-then, Stops-early, Stops-then, Sends-then}
use Rattle.tcc_cert.proofs.Items.{flat_map-map}
use Rattle.tcc_cert.proofs.lines.line.Goals as goal

pub returns-in_err-put : goal.returns-in_err-put
returns-in_err-put g c = failed c.from_residual.result _ _ _ _ _ c.from_residual.ensures.0 (Stops-early _ (Stops-early _ c.in_err-put.ensures))

pub returns-in_err-later_words : goal.returns-in_err-later_words
returns-in_err-later_words g c =
    failed c.from_residual-in_err-later_words.result _ _ _ _ _ c.from_residual-in_err-later_words.ensures.0
    (rw (flat_map-map (λ t. codes " " ++ t) word_text c.args.later.now) (Stops-early _ (Stops-then c.in_ok-put.ensures c.in_err-later_words.ensures)))

pub returns : goal.returns
returns g c =
    rw (flat_map-map (λ t. codes " " ++ t) word_text c.args.later.now)
    (IsSent-then _ _ _ _ _ _ _ _ _ (Sends-then c.in_ok-put.ensures c.in_ok-later_words.ensures) c.put-2.ensures)
