-- What an answer's certificate claims: in version 2, with the answer's own level, order or links.
use Rattle.tcc_graph.specs.Links.{cost}
use Rattle.tcc_cert.specs.declared.version.Version.TheVariants.{Two}
use Rattle.tcc_cert.specs.declared.certificate.Certificate.{Certificate}
use Rattle.tcc_cert.specs.declared.certificate.Certificate.TheVariants as claim
use Rattle.tcc_cert.specs.declared.certificate.CycleClaim.{CycleClaim}
use Rattle.tcc_cert.specs.declared.certificate.OrderClaim.{OrderClaim}
use Rattle.tcc_answer.specs.declared.answer.Answer.{Answer}
use Rattle.tcc_answer.specs.declared.answer.Answer.TheVariants as answer
use Rattle.tcc_answer.specs.Answers.{LabelledCycle, LabelledOrder}

abbrev pub order_claim : LabelledOrder → OrderClaim
order_claim o = record { version = Two; level = o.level; order = o.order; sessions = o.sessions; clocks = o.clocks }

abbrev pub cycle_claim : LabelledCycle → CycleClaim
cycle_claim c = record { version = Two; level = c.level; links = c.links; least = cost c.links; near = c.near; far = c.far }

-- an answer's certificate
abbrev pub certificate_of : Answer → Certificate
certificate_of (answer.Commit o) = claim.Order (order_claim o)
certificate_of (answer.Anomaly c) = claim.Cycle (cycle_claim c)
