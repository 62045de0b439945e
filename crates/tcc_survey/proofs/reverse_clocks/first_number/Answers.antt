use Rattle.std.proofs.Common.{rules, ◌≡◌}
use Rattle.tcc_survey.proofs.BesideLemmas.{none_early}
use Rattle.tcc_survey.proofs.reverse_clocks.first_number.Goals as goal

pub returns-in-Ok : goal.returns-in-Ok
returns-in-Ok c =
    let same : c.in-Ok.first ≡ c.count_before.result = search rules in
    none_early c.args.owners.now c.args.session c.count_before.result c.in-Ok.first same c.count_before.ensures.less
