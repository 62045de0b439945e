use Rattle.tcc_rules.proofs.KnownLemmas.{known_more}
use Rattle.tcc_rules.proofs.known.KnownWalk.push.Goals as goal

pub returns-clause-one : goal.returns-clause-one
returns-clause-one c from walk was =
    known_more c.args.graph.now from walk c.args.step.now c.args.self.now _ was c.in-Some.ensures.1 c.led_on-self.ensures
    (c.are_steps_below-self.ensures walk was.below)
