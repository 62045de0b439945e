use Rattle.tcc_check.proofs.Claims.{all_hold, certified_by}
use Rattle.tcc_check.proofs.laws.rules_in_turn.Goals as goal

pub returns : goal.returns
returns c h k = (all_hold h k, certified_by h k)
