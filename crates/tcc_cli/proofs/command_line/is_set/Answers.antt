-- The flag is read from the matches of the subcommand that was met.
use Rattle.std.proofs.Common.{◌≡◌, ◌∙◌, ap}
use Rattle.std.specs.Prelude.{option_and_then}
use Rattle.clap.specs.Matches.{found_of, one_text}
use Rattle.clap.specs.Walk.{one_of}
use Rattle.clap.specs.Words.{subcommand_rows_of}
use Rattle.clap.proofs.WalkLemmas.{one_text-rows}
use Rattle.tcc_cli.specs.CommandLines.{flag_text}
use Rattle.tcc_cli.proofs.command_line.is_set.Goals as goal

pub returns-in-Some : goal.returns-in-Some
returns-in-Some c =
    let found = found_of c.in-Some.explain.now in
    let text_is : one_text found c.args.id.now ≡ flag_text c.args.id.now (subcommand_rows_of c.args.matches.now)
    = one_text-rows found c.args.id.now ∙ ap (option_and_then (one_of c.args.id.now)) c.in-Some.ensures.rows in (
      (λ is. c.get_flag.ensures.value (text_is ∙ is)),
      ((λ is. c.get_flag.ensures.other (text_is ∙ is)), (λ is. c.get_flag.ensures.none (text_is ∙ is))),
    )
