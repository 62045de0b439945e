-- The history is that of the snapshot.
use Rattle.std.proofs.Common.{subst}
use Rattle.std.proofs.lemmas.Option.{IfSome_then}
use Rattle.tcc_verdict.specs.private.Stages.{MayBeTextCheck}
use Rattle.tcc_verdict.proofs.check.GraphChecker.judged.Goals as goal

pub returns : goal.returns
returns g c = IfSome_then (g.R.Read.remaining c.args.reader) c.judged.ensures
    (λ text may s same. subst (λ h. MayBeTextCheck h text c.judged.result) same may)
