-- The pieces are the first lines, the test cases and the last line.
use Rattle.std.proofs.Common.{◌≡◌, ◌∙◌, ◌++◌, ap, ap₂, sym, length, map, codes}
use Rattle.std.proofs.lemmas.List.{length-map}
use Rattle.std.proofs.lemmas.Result.{IfOk-weaker}
use Rattle.std.specs.Prelude.{count_by}
use Rattle.tcc_batch.specs.Junit.{suite_text}
use Rattle.tcc_batch.specs.Reports.{is_anomaly, is_unjudged}
use Rattle.tcc_batch.proofs.junit.junit_text.Goals as goal

pub returns : goal.returns
returns g c =
    let reports = map (λ history. history.report) c.args.histories.now in
    let long : length reports ≡ length c.args.histories.now = length-map c.args.histories.now _ in
    let first : c.in_ok-suite.suite.items ≡ suite_text (length reports) (count_by is_anomaly reports) (count_by is_unjudged reports)
    = c.in_ok-suite.ensures ∙ ap (λ n. suite_text n (count_by is_anomaly reports) (count_by is_unjudged reports)) (sym long) in
    IfOk-weaker c.joined.result _ _
    (λ text is. is ∙ ap₂ ◌++◌ (c.deref.ensures.value ∙ first)
    (ap (λ cases. cases ++ codes "</testsuite>\n") (c.deref-2.ensures.value ∙ c.in_ok-cases.ensures)))
    c.joined.ensures
