-- What each call adds to the subcommand.
use Rattle.std.proofs.Common.{◌≡◌, ◌∙◌, false, ap, ap₂, rules, codes}
use Rattle.std.proofs.lemmas.Result.{IfOk-weaker}
use Rattle.clap.specs.Words.{App, app_of, new_app, with_rule}
use Rattle.tcc_cli.specs.CommandLines.{certificate_option, flag, level_option, path, require_option, slice_option, workers_option}
use Rattle.tcc_cli.proofs.command_line.explain_command.Goals as goal

-- what is added after the flag
abbrev with_sizes : App → App
with_sizes a = with_rule (with_rule a (flag (codes "large"))) slice_option

abbrev with_added : App → App
with_added a = with_rule (with_rule (with_rule a certificate_option) require_option) (path (codes "history") false)

pub returns : goal.returns
returns c =
    let bare_is : app_of c.after_help.result ≡ new_app (codes "explain") = search rules in
    let first_is : app_of c.in_ok-arg.field-0 ≡ with_rule (new_app (codes "explain")) (level_option c.args.levels)
    = c.in_ok-arg.ensures.shape c.level_option-level.ensures.own ∙ ap₂ with_rule bare_is c.level_option-level.ensures.rule in
    let second_is : app_of c.in_ok-arg-2.field-0 ≡ with_rule (with_rule (new_app (codes "explain")) (level_option c.args.levels)) workers_option
    = c.in_ok-arg-2.ensures.shape c.workers_option-workers.ensures.own ∙ ap₂ with_rule first_is c.workers_option-workers.ensures.rule in
    let third_is : app_of c.in_ok-arg-3.field-0 ≡ with_rule (with_rule (with_rule (new_app (codes "explain")) (level_option c.args.levels)) workers_option)
    (flag (codes "json"))
    = c.in_ok-arg-3.ensures.shape c.flag-json.ensures.own ∙ ap₂ with_rule second_is c.flag-json.ensures.rule in
    let fourth_is : app_of c.in_ok-arg-4.field-0 ≡ with_rule (with_rule (with_rule (with_rule (new_app (codes "explain")) (level_option c.args.levels))
    workers_option) (flag (codes "json"))) (flag (codes "quiet"))
    = c.in_ok-arg-4.ensures.shape c.flag-quiet.ensures.own ∙ ap₂ with_rule third_is c.flag-quiet.ensures.rule in
    let fifth_is : app_of c.in_ok-explain.explain ≡ with_rule (with_rule (with_rule (with_rule (with_rule (new_app (codes "explain")) (level_option c.args.levels))
    workers_option) (flag (codes "json"))) (flag (codes "quiet"))) (flag (codes "full"))
    = c.in_ok-explain.ensures.shape c.flag-full.ensures.own ∙ ap₂ with_rule fourth_is c.flag-full.ensures.rule in
    IfOk-weaker c.with_places.result _ _ (λ made adds. adds ∙ ap with_added (c.in_ok-with_large.ensures ∙ ap with_sizes fifth_is)) c.with_places.ensures
