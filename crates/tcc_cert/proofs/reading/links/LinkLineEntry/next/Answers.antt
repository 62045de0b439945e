-- It ends at no line before its first.
use Rattle.tcc_cert.proofs.OnwardFacts.{onward-link}
use Rattle.tcc_cert.proofs.reading.links.LinkLineEntry.next.Goals as goal

pub returns-clause-onward : goal.returns-clause-onward
returns-clause-onward g c = onward-link c.args.scale
