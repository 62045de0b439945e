use Rattle.std.proofs.Common.{rules, ◌≡◌, arith}
use Rattle.tcc_order.proofs.NewsLemmas.{news_sorted}
use Rattle.tcc_order.proofs.news.find_news.Goals as goal

pub block_start-start-requires : goal.block_start-start-requires
block_start-start-requires c =
    let owners : c.as_slice-owners.result.now ≡ c.args.sweep.now.owners.items = search rules in
    rw (owners, c.requires.sweep.owners.long) c.requires.sweep.numbering.below

pub zeros_before-requires-clause-below : goal.zeros_before-requires-clause-below
zeros_before-requires-clause-below c = rw c.requires.table c.requires.sweep.numbering.below

pub returns-clause-news : goal.returns-clause-news
returns-clause-news c =
    let news = c.in_ok-add_along.ensures.news in
    news_sorted c.args.sweep.now.graph.now c.args.from c.add_along.new.table c.add_along.new.rows c.in_ok-rows.rows (omega (arith, c.in_ok-rows.ensures.same, news.long)) c.in_ok-rows.ensures.each
    news

pub sorted-requires : goal.sorted-requires
sorted-requires c = omega (arith, c.in_ok-add_along.ensures.news.long)
