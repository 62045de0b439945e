use Rattle.std.proofs.Common.{◌∙◌, arith, take, drop}
use Rattle.std.specs.Ordering.{nat_cmp}
use Rattle.tcc_txn.proofs.WordOrder.{cmp-words, length-word, small-word}
use Rattle.tcc_txn.proofs.name.cmp_word.Goals as goal

pub returns : goal.returns
returns c =
    let one = c.args.one.now in
    let other = c.args.other.now in
    c.cmp.ensures
    ∙ (λ i. nat_cmp (c.word.ensures i) (c.word-2.ensures i))
    ∙ cmp-words (take 8 (drop c.args.at one)) (take 8 (drop c.args.at other))
    (length-word c.args.at one (omega (arith, c.told-one, c.requires)))
    (length-word c.args.at other (omega (arith, c.told-other, c.requires)))
    (small-word c.args.at one c.fits-one)
    (small-word c.args.at other c.fits-other)
