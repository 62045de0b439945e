-- The runs are written, and then the last line.
use Rattle.std.proofs.Common.{[], ◌∷◌, codes, map}
use Rattle.std.proofs.lemmas.Grind.{flat_map-append}
use Rattle.tcc_cert.specs.Texts.{line_text}
use Rattle.tcc_cert.specs.LargeTexts.{run_words}
use Rattle.tcc_cert.proofs.SentFacts.{failed, IsSent-then, Stops-early}
use Rattle.tcc_cert.proofs.large_writing.runs_to_end.Goals as goal

pub returns-in_err-run_lines : goal.returns-in_err-run_lines
returns-in_err-run_lines g c =
    rw (flat_map-append line_text (map run_words c.args.runs.now) ((codes "end" ∷ []) ∷ []))
    (failed c.from_residual.result _ _ _ _ _ c.from_residual.ensures.0
    (Stops-early _ (rw c.as_slice.ensures at c.in_err-run_lines.ensures)))

pub returns : goal.returns
returns g c =
    rw (flat_map-append line_text (map run_words c.args.runs.now) ((codes "end" ∷ []) ∷ []))
    (IsSent-then c.line.result _ _ _ _ _ _ _ _ (rw c.as_slice.ensures at c.in_ok-run_lines.ensures) c.line.ensures)
