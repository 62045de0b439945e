use Rattle.tcc_survey.specs.private.Calling.{IsFirstOnLane, IsFractured}
use Rattle.tcc_survey.proofs.CallingLemmas.{later_trans}
use Rattle.tcc_survey.proofs.ManyLemmas.{many_called, met_on}
use Rattle.tcc_survey.proofs.calling.Calling.with_many.Goals as goal

pub returns : goal.returns
returns c =
    let s = c.args.self.now in
    let is = c.requires.calling in
    let fractured = c.with_read_from-fractured in
    let first = c.with_firsts-first in
    let last = c.with_readers in
    many_called s is c.args.among.now last.result last.ensures.called
    (met_on s is IsFractured last.result fractured.result (later_trans last.result first.result fractured.result last.ensures.kept first.ensures.kept) fractured.ensures.met)
    (λ lane small. met_on s is (IsFirstOnLane s lane) last.result first.result last.ensures.kept (first.ensures.met lane small)) last.ensures.met
