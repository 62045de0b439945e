-- What the words ask for was asked, and what ends the words ends the run.
use Rattle.std.proofs.Common.{subst, inl, map, string_bytes}
use Rattle.tcc_cli.specs.CommandLines.{IsAsked}
use Rattle.tcc_cli.proofs.command_line.read.Goals as goal

pub returns : goal.returns
returns g c =
    let words = map string_bytes c.deref.result.now in
    inl (words, subst (λ start. IsAsked words start (g.W.Write.contents c.read_words.new.out) c.read_words.result) c.in_ok-words.ensures.quiet c.read_words.ensures)
