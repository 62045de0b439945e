-- The word is read from the matches of the subcommand that was met.
use Rattle.std.proofs.Common.{◌∙◌, ap}
use Rattle.std.specs.Prelude.{option_and_then}
use Rattle.clap.specs.Matches.{found_of}
use Rattle.clap.specs.Walk.{first_of}
use Rattle.clap.proofs.WalkLemmas.{first_value-rows}
use Rattle.tcc_cli.proofs.command_line.word_for.Goals as goal

pub returns : goal.returns
returns c =
    c.get_str.ensures ∙ first_value-rows (found_of c.in_ok-_name.explain.now) c.args.id.now
    ∙ ap (option_and_then (first_of c.args.id.now)) c.in_ok-_name.ensures.rows
