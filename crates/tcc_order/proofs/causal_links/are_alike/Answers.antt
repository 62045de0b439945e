use Rattle.std.proofs.Common.{rules, ◌≡◌, ◌<◌, true, length, arith}
use borrow.Author.Count.{below_more}
use Rattle.tcc_order.specs.private.ByKey.{AreAlikeAt, key_index_in}
use Rattle.tcc_order.proofs.causal_links.are_alike.Goals as goal

pub loop-index-preserved : goal.loop-index-preserved
loop-index-preserved c =
    let readings = c.args.readings.now in
    let others = c.args.others.now in
    let n = c.loop-index.index in
    let inside : n < length others = omega arith in
    let key : key_index_in readings n ≡ key_index_in others n = search rules in
    let known : c.are_same.result ≡ true = search rules in
    below_more (AreAlikeAt c.args.table.now readings others) n c.loop-index.invariant (inside, key, c.are_same.ensures known)
