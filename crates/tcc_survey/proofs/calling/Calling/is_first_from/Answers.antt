use Rattle.tcc_survey.specs.private.Called.{as_called}
use Rattle.tcc_survey.proofs.ManyLemmas.{by_both}
use Rattle.tcc_survey.proofs.calling.Calling.is_first_from.Goals as goal

pub returns : goal.returns
returns c = λ yes m from.
    let name = c.reader_name-name.result in
    by_both c.args.best (as_called name c.args.b) m (c.is_before.ensures.yes yes) (c.reader_name-name.ensures m (rw c.latest.ensures from)) from.0
