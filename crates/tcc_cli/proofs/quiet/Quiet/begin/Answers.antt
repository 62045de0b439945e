use Rattle.std.proofs.Common.{sym, ◌∙◌}
use Rattle.tcc_cli.proofs.OrderLines.{begun_ok}
use Rattle.tcc_cli.proofs.quiet.Quiet.begin.Goals as goal

pub returns-then-not-goes_on-clause-shown : goal.returns-then-not-goes_on-clause-shown
returns-then-not-goes_on-clause-shown g c =
    begun_ok g.W.Write.contents c.args.self.now c.give_back.new.self c.show.new.self c.args.held c.in-Some.byte.now c.args.bytes.now c.show.result c.requires.line
    (sym c.in-Some.ensures.value) (sym c.goes_on.ensures ∙ c.if-not-goes_on.true) c.give_back.ensures.line c.in_ok-give_back.ensures.given c.show.ensures.shown
