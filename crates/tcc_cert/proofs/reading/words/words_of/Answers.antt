-- The words are what the slice is split into.
use Rattle.std.proofs.Common.{◌<◌, length, arith, rules, tests}
use Rattle.std.proofs.lemmas.Bool.Decides.{nat_tests}
use Rattle.std.proofs.lemmas.Iterator.Consumers.{map_from_collect}
use Rattle.std.proofs.lemmas.Iterator.Splits.{YieldsList-from_slice_split}
use Rattle.tcc_cert.proofs.WordFacts.{words_of-some}
use Rattle.tcc_cert.proofs.reading.words.words_of.Goals as goal

pub returns : goal.returns
returns c =
    let some : 0 < length c.args.line.now = grind (arith, nat_tests) in
    rw (words_of-some c.args.line.now some)
    (map_from_collect _ c.collect.ensures.ran (YieldsList-from_slice_split _ _ c.args.line.now c.split.ensures.rest c.split.ensures.done
    c.split.ensures.closure (λ x r q k. search (rules, tests))))
