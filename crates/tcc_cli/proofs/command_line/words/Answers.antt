-- Each end without words is that of a fault of them, or the one out of memory.
use Rattle.std.proofs.Common.{refl, rules}
use Rattle.clap.specs.declared.error.kind.ErrorKind.TheVariants.{InvalidValue, OutOfMemory}
use Rattle.tcc_cli.proofs.command_line.words.Goals as goal

pub returns-in-Err-clause-ends : goal.returns-in-Err-clause-ends
returns-in-Err-clause-ends g c = (OutOfMemory, c.print_memory.ensures)

pub returns-in-Err-2-clause-ends : goal.returns-in-Err-2-clause-ends
returns-in-Err-2-clause-ends g c = (InvalidValue, (refl, c.code.ensures))

pub returns-in-Err-collect-clause-ends : goal.returns-in-Err-collect-clause-ends
returns-in-Err-collect-clause-ends g c = (OutOfMemory, search rules)
