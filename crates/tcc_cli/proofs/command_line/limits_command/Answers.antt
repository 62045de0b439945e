-- What each call adds to the subcommand.
use Rattle.std.proofs.Common.{◌≡◌, ◌∙◌, ap₂, rules, codes}
use Rattle.std.proofs.lemmas.Result.{IfOk-weaker}
use Rattle.clap.specs.Words.{app_of, new_app, with_rule}
use Rattle.tcc_cli.proofs.command_line.limits_command.Goals as goal

pub returns : goal.returns
returns c =
    let bare_is : app_of c.after_help.result ≡ new_app (codes "limits") = search rules in
    IfOk-weaker c.arg.result _ _ (λ made adds. adds.shape c.flag-json.ensures.own ∙ ap₂ with_rule bare_is c.flag-json.ensures.rule) c.arg.ensures
