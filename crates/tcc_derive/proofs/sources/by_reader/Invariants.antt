use Rattle.std.proofs.Common.{take}
use Rattle.tcc_derive.specs.private.Sources.{AreByReader}
use Rattle.tcc_derive.proofs.sources.by_reader.Given as goal

abbrev pub invariant-loop-read : goal.invariant-loop-read
invariant-loop-read l = AreByReader l.count (take l.read-index l.reads) l.rows.items
