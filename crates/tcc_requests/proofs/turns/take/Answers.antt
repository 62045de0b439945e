-- The records came, and then the certificate.
use Rattle.std.proofs.Common.{◌∙◌, Some, ap}
use Rattle.tcc_requests.proofs.Turning.{not_held, taken}
use Rattle.tcc_requests.proofs.turns.take.Goals as goal

pub returns-in-Held : goal.returns-in-Held
returns-in-Held g c =
    taken c.args.lengths c.args.question _ _ _ _ _ _ c.in-Held.records c.take_certificate.result c.requires c.from.ensures
    (c.from-certificate.ensures ∙ c.unwrap_or.ensures) (ap Some c.new.ensures.items) (rw c.in-Held.is at c.in_ok-records.ensures) c.take_certificate.ensures

pub returns-in_ok-refuse-in-Passed : goal.returns-in_ok-refuse-in-Passed
returns-in_ok-refuse-in-Passed g c =
    not_held c.args.lengths c.args.question _ _ _ _ _ c.in_ok-refuse-in-Passed.field-0 c.requires c.from.ensures
    (c.from-certificate.ensures ∙ c.unwrap_or.ensures) (rw c.in-Passed.is at c.in_ok-records.ensures) c.in_ok-refuse-in-Passed.ensures
