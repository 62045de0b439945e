use Rattle.std.proofs.Common.{rules, ◌<◌, length}
use Rattle.tcc_survey_run.proofs.Listing.{faults_ended}
use Rattle.tcc_survey_run.proofs.saying.write_faults.Goals as goal

pub returns-clause-ended : goal.returns-clause-ended
returns-clause-ended g c =
    let some : 0 < length c.args.faults.now = search rules in
    faults_ended c.args.json _ _ c.args.faults.now some c.send_unresolved.result c.send_unresolved.ensures.ended
