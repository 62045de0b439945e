-- The first line was read, and then the claim.
use Rattle.tcc_cert.specs.declared.ranges.TheConstants.{MAX_HEADER_BYTES}
use Rattle.tcc_cert.specs.Reading.{next}
use Rattle.tcc_cert.specs.LargeReading.{large_behind_header, large_header_line}
use Rattle.tcc_cert.proofs.LargeOnward.{onward-behind}
use Rattle.tcc_cert.proofs.OnwardFacts.{onward-next}
use Rattle.tcc_cert.proofs.TakingFacts.{such-fails, such-then}
use Rattle.tcc_cert.proofs.reading.large.certificate.Goals as goal

pub returns-in_err-level-clause-gives : goal.returns-in_err-level-clause-gives
returns-in_err-level-clause-gives g c at h before ready =
    such-fails g.R.Read.remaining at (next MAX_HEADER_BYTES large_header_line at) large_behind_header _ c.from_residual.result c.header.new.input
    onward-behind c.from_residual.ensures.1 (c.in_err-level.ensures.gives at before)

pub returns-clause-gives : goal.returns-clause-gives
returns-clause-gives g c at h before ready =
    such-then g.R.Read.remaining at (next MAX_HEADER_BYTES large_header_line at) large_behind_header _ _ _ c.claim.result c.claim.new.input
    (onward-next MAX_HEADER_BYTES large_header_line at) (c.in_ok-level.ensures.gives at before)
    (λ after there. c.claim.ensures.gives after h there ready)
