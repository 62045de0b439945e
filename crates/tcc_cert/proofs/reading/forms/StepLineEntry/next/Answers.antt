-- It ends at no line before its first.
use Rattle.tcc_cert.specs.Reading.{step_line}
use Rattle.tcc_cert.proofs.OnwardFacts.{onward-words}
use Rattle.tcc_cert.proofs.reading.forms.StepLineEntry.next.Goals as goal

pub returns-clause-onward : goal.returns-clause-onward
returns-clause-onward g c = onward-words c.args.scale (step_line c.args.scale)
