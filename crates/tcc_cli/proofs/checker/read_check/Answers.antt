-- What the words ask for was asked, and what ends the words ends the run.
use Rattle.std.proofs.Common.{subst, inl, map, string_bytes}
use Rattle.tcc_cli.specs.Checkers.{AreAsked}
use Rattle.tcc_cli.proofs.checker.read_check.Goals as goal

pub returns : goal.returns
returns g c =
    let words = map string_bytes c.deref.result.now in
    inl (words, subst (λ start. AreAsked words start (g.W.Write.contents c.read_check_words.new.out) c.read_check_words.result) c.in_ok-words.ensures.quiet c.read_check_words.ensures)
