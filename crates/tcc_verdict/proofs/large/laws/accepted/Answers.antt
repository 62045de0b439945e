-- By the laws of the judge, for a history whose transactions are ordered by session.
use Rattle.tcc_verdict.proofs.TrueClaims.{true_claim}
use Rattle.tcc_verdict.proofs.large.laws.accepted.Goals as goal

pub returns : goal.returns
returns c = true_claim
