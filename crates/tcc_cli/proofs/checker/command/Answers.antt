-- What each call adds to the command.
use Rattle.std.proofs.Common.{◌≡◌, ◌∙◌, ap, ap₂, rules, codes}
use Rattle.std.proofs.lemmas.Result.{IfOk-weaker}
use Rattle.clap.specs.Words.{App, app_of, new_app, with_subcommand}
use Rattle.clap.specs.Simple.{on_top}
use Rattle.tcc_cli.specs.CommandLines.{with_subcommand_required, with_version}
use Rattle.tcc_cli.proofs.PlainCommands.{no_globals}
use Rattle.tcc_cli.proofs.checker.command.Goals as goal

pub returns : goal.returns
returns c =
    let above_is : app_of c.subcommand_required.result ≡ on_top with_subcommand_required (on_top with_version (new_app (codes "tcc_checker"))) = search rules in
    IfOk-weaker c.subcommand.result _ _
    (λ made adds. adds.shape (no_globals _ _ _ _ (ap (λ (a : App). a.top.is_plain) c.in_ok-check.ensures))
    ∙ ap₂ with_subcommand above_is (ap (λ (a : App). a.top) c.in_ok-check.ensures))
    c.subcommand.ensures
