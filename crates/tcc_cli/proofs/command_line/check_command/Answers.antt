-- What each call adds to the subcommand.
use Rattle.std.proofs.Common.{◌≡◌, ◌∙◌, true, ap₂, rules, codes}
use Rattle.std.proofs.lemmas.Result.{IfOk-weaker}
use Rattle.clap.specs.Words.{app_of, new_app, with_rule}
use Rattle.tcc_cli.specs.CommandLines.{flag, path}
use Rattle.tcc_cli.proofs.command_line.check_command.Goals as goal

pub returns : goal.returns
returns c =
    let bare_is : app_of c.after_help.result ≡ new_app (codes "check") = search rules in
    let first_is : app_of c.in_ok-arg.field-0 ≡ with_rule (new_app (codes "check")) (flag (codes "large"))
    = c.in_ok-arg.ensures.shape c.flag-large.ensures.own ∙ ap₂ with_rule bare_is c.flag-large.ensures.rule in
    let second_is : app_of c.in_ok-arg-2.field-0 ≡ with_rule (with_rule (new_app (codes "check")) (flag (codes "large"))) (path (codes "history") true)
    = c.in_ok-arg-2.ensures.shape c.path-history.ensures.own ∙ ap₂ with_rule first_is c.path-history.ensures.rule in
    IfOk-weaker c.arg-3.result _ _
    (λ made adds. adds.shape c.path-certificate.ensures.own ∙ ap₂ with_rule second_is c.path-certificate.ensures.rule)
    c.arg-3.ensures
