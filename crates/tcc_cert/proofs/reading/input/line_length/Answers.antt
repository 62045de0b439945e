-- The first line feed ends the line, and where there is none all bytes belong to it.
use Rattle.tcc_cert.proofs.InputFacts.{length-at, length-none}
use Rattle.tcc_cert.proofs.reading.input.line_length.Goals as goal

pub returns-in-Some : goal.returns-in-Some
returns-in-Some c = length-at c.args.bytes.now c.args.searched c.in-Some.at c.requires.within c.requires.none c.in-Some.ensures

pub returns-in-None : goal.returns-in-None
returns-in-None c = length-none c.args.bytes.now c.args.searched c.requires.within c.requires.none c.in-None.ensures
