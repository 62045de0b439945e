-- No run is longer than the order, and there are no more of them.
use Rattle.tcc_cert.proofs.RunFacts.{claim-text}
use Rattle.tcc_cert.proofs.laws.order_has_text.Goals as goal

pub returns : goal.returns
returns c level h order some few sessions owners long = claim-text level h order some few sessions owners long
