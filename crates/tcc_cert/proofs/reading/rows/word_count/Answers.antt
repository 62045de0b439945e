-- One more word than there are spaces.
use Rattle.std.proofs.Common.{◌+◌, ◌<◌, eqb, length, sym, ap, ◌∙◌, arith, rules, tests}
use Rattle.std.proofs.lemmas.Bool.Decides.{nat_tests}
use Rattle.std.proofs.lemmas.Iterator.{YieldsList-from_slice}
use Rattle.std.proofs.lemmas.Iterator.Consumers.{YieldsList-from_filter, count_from_yields_List}
use Rattle.std.proofs.lemmas.List.Splits.{length-slice_split}
use Rattle.std.proofs.lemmas.List.Sums.{length-filter}
use Rattle.tcc_cert.proofs.WordFacts.{words_of-some}
use Rattle.tcc_cert.proofs.reading.rows.word_count.Goals as goal

pub returns : goal.returns
returns c =
    let some : 0 < length c.args.line.now = grind (arith, nat_tests) in
    let counted =
    count_from_yields_List c.filter.result _ c.count.ensures.ran
    (YieldsList-from_filter _ (λ byte. eqb byte 32) (YieldsList-from_slice c.args.line.now cc) c.filter.ensures.closure
    (λ x r q k. search (rules, tests))) in
    ap (λ n. n + 1) (counted ∙ length-filter (λ byte. eqb byte 32) c.args.line.now)
    ∙ sym (ap length (words_of-some c.args.line.now some) ∙ length-slice_split (λ byte. eqb byte 32) c.args.line.now)
