-- The command is the known one, of which clap says all.
use Rattle.std.proofs.Common.{◌≡◌, [], true, subst, map, string_bytes}
use Rattle.std.proofs.lemmas.Result.{IfOk-weaker}
use Rattle.clap.specs.Words.{HasKind, HasMatchesOf, fault_of, is_simple_and_free}
use Rattle.tcc_cli.specs.Checkers.{AsksFor}
use Rattle.tcc_cli.proofs.Parsing.{fails_again, only_memory}
use Rattle.tcc_cli.proofs.WorkedCheckerLines.{is_exact, is_simple_command}
use Rattle.tcc_cli.proofs.checker.parse.Goals as goal

pub returns-in_err-matches-clause-fails : goal.returns-in_err-matches-clause-fails
returns-in_err-matches-clause-fails c =
    fails_again _ c.in_err-matches.field-0.0 c.from_residual-in_err-matches.result
    (subst (λ a. is_simple_and_free a ≡ true → HasKind (fault_of a (map string_bytes c.args.words.now)) c.in_err-matches.field-0.0) c.in_ok-command.ensures
    c.in_err-matches.ensures.kinds is_exact)
    c.from_residual-in_err-matches.ensures.1

pub returns-clause-fails : goal.returns-clause-fails
returns-clause-fails c =
    only_memory _ c.asked_of.result
    (subst (λ a. is_simple_and_free a ≡ true → fault_of a (map string_bytes c.args.words.now) ≡ []) c.in_ok-command.ensures
    c.in_ok-matches.ensures.kinds is_exact)
    c.asked_of.ensures.fails

pub returns-clause-asked : goal.returns-clause-asked
returns-clause-asked c =
    let m = c.in_ok-matches.matches in
    let of_words = subst (λ a. HasMatchesOf a (map string_bytes c.args.words.now) m) c.in_ok-command.ensures c.in_ok-matches.ensures.matches in
    IfOk-weaker c.asked_of.result _ _ (λ files asks. subst (λ met. AsksFor met files) (of_words is_simple_command).1 asks)
    c.asked_of.ensures.asked
