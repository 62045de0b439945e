-- The run is the one whose line was found.
use Rattle.std.proofs.lemmas.Option.{IfSome_then}
use Rattle.tcc_batch.proofs.Found.{found}
use Rattle.tcc_batch.proofs.judging.judge.Goals as goal

pub returns : goal.returns
returns g c =
    IfSome_then (g.R.Read.remaining c.args.reader) c.run-written.ensures
    (λ bytes written. found c.args.asked.now bytes _ _ c.finding_of.result written c.finding_of.ensures)
