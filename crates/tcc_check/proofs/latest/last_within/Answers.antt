use Rattle.tcc_check.proofs.Sessions.{none_within, last_within}
use Rattle.tcc_check.proofs.latest.last_within.Goals as goal

pub returns-then-count-eq0 : goal.returns-then-count-eq0
returns-then-count-eq0 c =
    none_within c.args.graph.now c.args.session c.args.place c.requires.numbered c.args.writers.now c.requires.writers
    c.count_within-count.result c.count_within-count.ensures c.if-count-eq0.true

pub returns : goal.returns
returns c =
    last_within c.args.graph.now c.args.session c.args.place c.requires.numbered c.args.writers.now c.requires.writers
    c.count_within-count.result c.count_within-count.ensures c.if-count-eq0.false
