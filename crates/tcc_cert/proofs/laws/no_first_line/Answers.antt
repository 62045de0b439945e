-- The first line is read alike.
use Rattle.tcc_cert.proofs.VersionFacts.{faulty-whole}
use Rattle.tcc_cert.proofs.laws.no_first_line.Goals as goal

pub returns : goal.returns
returns c bytes fault none = faulty-whole bytes fault none
