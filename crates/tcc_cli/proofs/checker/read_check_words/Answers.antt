-- Words that ask for nothing end the run by their fault, or out of memory.
use Rattle.std.proofs.Common.{ℕ, List, Option, Err, subst, inl, inr, map, string_bytes}
use Rattle.clap.specs.Words.{HasKind, fault_of, kind_of}
use Rattle.clap.specs.declared.error.Error.{Error}
use Rattle.tcc_cli.specs.Checkers.{AreAsked, checker_command}
use Rattle.tcc_cli.specs.CommandLines.{EndsUnasked}
use Rattle.tcc_cli.proofs.checker.read_check_words.Goals as goal

ended : (words : List (List ℕ)) (before after : Option (List ℕ)) (e : Error) (code : ℕ)
    → HasKind (fault_of checker_command words) e → EndsUnasked (kind_of e) before after code → AreAsked words before after (Err code)
ended words before after e code (inl memory) ends = inl (subst (λ kind. EndsUnasked kind before after code) memory ends)
ended words before after e code (inr among) ends = inr (kind_of e, among, ends)

pub returns-in-Err : goal.returns-in-Err
returns-in-Err g c =
    ended (map string_bytes c.args.words.now) (g.W.Write.contents c.args.out.now) (g.W.Write.contents c.end_unasked.new.out)
    c.in-Err.error c.end_unasked.result c.in-Err.ensures.fails c.end_unasked.ensures
