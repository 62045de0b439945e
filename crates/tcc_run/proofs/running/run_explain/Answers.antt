-- It is the run within the small limits, where no file is given for a slice.
use Rattle.std.proofs.lemmas.Option.{IfSome_then}
use Rattle.tcc_run.proofs.Runs.{no_slice}
use Rattle.tcc_run.proofs.running.run_explain.Goals as goal

pub returns : goal.returns
returns g c =
    IfSome_then (g.R.Read.remaining c.args.reader) c.run_within.ensures
    (λ bytes run. no_slice c.args.options bytes _ _ _ _ _ c.run_within.result run)
