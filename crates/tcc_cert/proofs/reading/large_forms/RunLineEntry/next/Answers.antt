-- It ends at no line before its first.
use Rattle.tcc_cert.specs.LargeReading.{run_line}
use Rattle.tcc_cert.proofs.OnwardFacts.{onward-words}
use Rattle.tcc_cert.proofs.reading.large_forms.RunLineEntry.next.Goals as goal

pub returns-clause-onward : goal.returns-clause-onward
returns-clause-onward g c = onward-words c.args.scale run_line
