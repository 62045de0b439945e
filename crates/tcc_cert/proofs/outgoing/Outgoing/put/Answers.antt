-- The piece is written after what was held.
use Rattle.tcc_cert.proofs.SentFacts.{failed, Stops-early, IsSent-bare, IsSent-then}
use Rattle.tcc_cert.proofs.outgoing.Outgoing.put.Goals as goal

pub returns-in_err-send : goal.returns-in_err-send
returns-in_err-send g c = failed c.from_residual.result _ _ _ _ _ c.from_residual.ensures.0 (Stops-early c.args.piece.now c.in_err-send.ensures.sent)

pub returns-then-piece-gt-OUTGOING_BYTES : goal.returns-then-piece-gt-OUTGOING_BYTES
returns-then-piece-gt-OUTGOING_BYTES g c =
    rw c.in_ok-send.ensures.none (IsSent-then c.write_out.result _ _ _ _ _ _ _ _ (rw c.in_ok-send.ensures.none at c.in_ok-send.ensures.sent)
    (IsSent-bare c.write_out.result _ _ _ c.write_out.ensures.whole c.write_out.ensures.part))
