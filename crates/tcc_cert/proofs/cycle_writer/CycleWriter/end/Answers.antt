-- The end is written after what was given.
use Rattle.tcc_base.proofs.Failing.{on_err}
use Rattle.tcc_cert.proofs.GivenFacts.{end_whole, end_part}
use Rattle.tcc_cert.proofs.cycle_writer.CycleWriter.end.Goals as goal

pub returns-in_err-close-clause-part : goal.returns-in_err-close-clause-part
returns-in_err-close-clause-part g c =
    λ before k h. on_err c.from_residual.result (end_part g.W.Write.contents c.args.self c.close.new.out before k h c.in_err-close.ensures.sent)

pub returns-clause-whole : goal.returns-clause-whole
returns-clause-whole g c =
    λ before k h. end_whole g.W.Write.contents c.args.self c.close.new.out c.close.new.outgoing before k h c.in_ok-close.ensures.sent c.in_ok-close.ensures.none
