use Rattle.tcc_forget.proofs.Known.{known_observed, known_stays}
use Rattle.tcc_forget.proofs.Observing.{leads_through, observes, right_before}
use Rattle.tcc_forget.proofs.laws.observing.Goals as goal

pub returns-clause-known : goal.returns-clause-known
returns-clause-known c h live e w delivered on known = (known_observed h live e delivered on w known, known_stays h live e delivered on w known)

pub returns-clause-observes : goal.returns-clause-observes
returns-clause-observes c h live cover e u delivered covers on some observed = observes h live cover e delivered covers on u some observed

pub returns-clause-right_before : goal.returns-clause-right_before
returns-clause-right_before c h live cover e u p delivered covers on before observed =
    right_before h live cover e delivered covers on u p before observed

pub returns-clause-leads : goal.returns-clause-leads
returns-clause-leads c h live cover e u delivered none covers on some below leads =
    leads_through h live cover e delivered covers on none u some below leads
