-- The first wrong link is that of the claim.
use Rattle.std.proofs.Common.{inl, refl}
use Rattle.tcc_judge.proofs.links.judge_links.Goals as goal

pub returns-in-Some : goal.returns-in-Some
returns-in-Some c = rw c.rejected_at.ensures (inl (refl, rw (c.as_slice-links.ensures, c.in-Some.is) at c.in_ok-at.ensures))
