use Rattle.tcc_core.proofs.Rounds.{seed_cycle, seed_is, no_seed}
use Rattle.tcc_core.proofs.seeding.seed.Goals as goal

pub returns-then-least-clause-least : goal.returns-then-least-clause-least
returns-then-least-clause-least c =
    λ j is priced. no_seed is priced c.least_of_all-least.ensures.least c.least_of_all-least.ensures.few c.if-least.true

pub returns-else-least-clause-cycle : goal.returns-else-least-clause-cycle
returns-else-least-clause-cycle c =
    let (j, is, priced) = c.requires in
    λ k other. seed_cycle is priced other c.least_of_all-least.ensures.least c.if-least.false

pub returns-else-least-clause-least : goal.returns-else-least-clause-least
returns-else-least-clause-least c = λ j is priced. seed_is is priced c.least_of_all-least.ensures.least c.if-least.false
