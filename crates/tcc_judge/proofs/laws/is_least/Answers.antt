use Rattle.std.proofs.Common.{Option, List, subst}
use Rattle.tcc_cert.specs.CycleRules.{ends_at}
use Rattle.tcc_cert.specs.declared.large.Run.{Run}
use Rattle.tcc_judge.specs.Verdicts.{least_rules_of}
use Rattle.tcc_judge.proofs.Certified.{least_cycle}
use Rattle.tcc_judge.proofs.laws.is_least.Goals as goal
use Rattle.tcc_rules.specs.Asked.{AllHold}

pub returns : goal.returns
returns c = λ h k runs claimed all. (
  ends_at 0 k.links,
  least_cycle h k all.1.0 runs (subst (λ (z : Option (List Run)). AllHold (least_rules_of h k.level k.cost z)) claimed all.1.1),
)
