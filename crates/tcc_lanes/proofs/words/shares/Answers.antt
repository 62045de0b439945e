use Rattle.std.proofs.Common.{arith}
use Rattle.tcc_lanes.proofs.WordLemmas.{sharing}
use Rattle.tcc_lanes.proofs.words.shares.Goals as goal

pub returns : goal.returns
returns c = sharing c.args.a c.args.b (omega arith)
