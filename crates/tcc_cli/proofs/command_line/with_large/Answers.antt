-- What each call adds to the subcommand.
use Rattle.std.proofs.Common.{◌≡◌, ◌∙◌, ap₂, refl, codes}
use Rattle.std.proofs.lemmas.Result.{IfOk-weaker}
use Rattle.clap.specs.Words.{app_of, with_rule}
use Rattle.tcc_cli.specs.CommandLines.{flag}
use Rattle.tcc_cli.proofs.command_line.with_large.Goals as goal

pub returns : goal.returns
returns c =
    let first_is : app_of c.in_ok-arg.field-0 ≡ with_rule (app_of c.args.explain) (flag (codes "large"))
    = c.in_ok-arg.ensures.shape c.large_flag-large.ensures.own ∙ ap₂ with_rule refl c.large_flag-large.ensures.rule in
    IfOk-weaker c.arg-2.result _ _
    (λ made adds. adds.shape c.path_option-slice.ensures.own ∙ ap₂ with_rule first_is c.path_option-slice.ensures.rule)
    c.arg-2.ensures
