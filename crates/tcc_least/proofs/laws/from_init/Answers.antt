use Rattle.tcc_least.proofs.LeadingBack.{init_reason, reason_init}
use Rattle.tcc_least.proofs.laws.from_init.Goals as goal

pub returns : goal.returns
returns c = λ j there none n. ((λ w. init_reason j none n w.0 w.1 w.2), (λ reason. reason_init j none n there reason))
