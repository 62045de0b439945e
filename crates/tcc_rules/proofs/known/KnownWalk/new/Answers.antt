use Rattle.tcc_rules.proofs.KnownLemmas.{known_none}
use Rattle.tcc_rules.proofs.known.KnownWalk.new.Goals as goal

pub returns : goal.returns
returns c h = known_none h c.args.from
