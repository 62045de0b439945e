-- The number fits.
use Rattle.tcc_rules.proofs.links.seen_wrong.Goals as goal

pub returns-in-Ok : goal.returns-in-Ok
returns-in-Ok c j most links so_far = rw c.in-Ok.ensures.1 (c.in-Some.ensures j most links so_far)
