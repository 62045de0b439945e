-- What each call adds to the subcommand.
use Rattle.std.proofs.Common.{◌≡◌, ◌∙◌, ap₂, rules, codes}
use Rattle.std.proofs.lemmas.Result.{IfOk-weaker}
use Rattle.clap.specs.Words.{app_of, new_app, with_rule}
use Rattle.tcc_cli.specs.CommandLines.{flag, level_option}
use Rattle.tcc_cli.proofs.command_line.survey_command.Goals as goal

pub returns : goal.returns
returns c =
    let bare_is : app_of c.after_help.result ≡ new_app (codes "survey") = search rules in
    let first_is : app_of c.in_ok-arg.field-0 ≡ with_rule (new_app (codes "survey")) (level_option c.args.levels)
    = c.in_ok-arg.ensures.shape c.level_option-level.ensures.own ∙ ap₂ with_rule bare_is c.level_option-level.ensures.rule in
    let second_is : app_of c.in_ok-arg-2.field-0 ≡ with_rule (with_rule (new_app (codes "survey")) (level_option c.args.levels)) (flag (codes "json"))
    = c.in_ok-arg-2.ensures.shape c.flag-json.ensures.own ∙ ap₂ with_rule first_is c.flag-json.ensures.rule in
    let third_is : app_of c.in_ok-arg-3.field-0 ≡ with_rule (with_rule (with_rule (new_app (codes "survey")) (level_option c.args.levels))
    (flag (codes "json"))) (flag (codes "large"))
    = c.in_ok-arg-3.ensures.shape c.large_flag-large.ensures.own ∙ ap₂ with_rule second_is c.large_flag-large.ensures.rule in
    IfOk-weaker c.arg-4.result _ _
    (λ made adds. adds.shape c.records_path-history.ensures.own ∙ ap₂ with_rule third_is c.records_path-history.ensures.rule)
    c.arg-4.ensures
