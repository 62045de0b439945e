-- What each call adds to the subcommand.
use Rattle.std.proofs.Common.{◌≡◌, ◌∙◌, ap₂, refl}
use Rattle.std.proofs.lemmas.Result.{IfOk-weaker}
use Rattle.clap.specs.Words.{app_of, with_rule}
use Rattle.tcc_cli.specs.CommandLines.{certificate_option, require_option}
use Rattle.tcc_cli.proofs.command_line.with_places.Goals as goal

pub returns : goal.returns
returns c =
    let first_is : app_of c.in_ok-arg.field-0 ≡ with_rule (app_of c.args.explain) certificate_option
    = c.in_ok-arg.ensures.shape c.path_option-certificate.ensures.own ∙ ap₂ with_rule refl c.path_option-certificate.ensures.rule in
    let second_is : app_of c.in_ok-arg-2.field-0 ≡ with_rule (with_rule (app_of c.args.explain) certificate_option) require_option
    = c.in_ok-arg-2.ensures.shape c.require_option-require.ensures.own ∙ ap₂ with_rule first_is c.require_option-require.ensures.rule in
    IfOk-weaker c.arg-3.result _ _
    (λ made adds. adds.shape c.records_path-history.ensures.own ∙ ap₂ with_rule second_is c.records_path-history.ensures.rule)
    c.arg-3.ensures
