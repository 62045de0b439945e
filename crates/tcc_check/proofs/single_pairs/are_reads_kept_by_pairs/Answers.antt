-- Its session, and its sources.
use Rattle.tcc_check.proofs.OnePair.{kept_by_pairs}
use Rattle.tcc_check.proofs.single_pairs.are_reads_kept_by_pairs.Goals as goal

pub returns : goal.returns
returns c = λ clocks t.
    kept_by_pairs c.args.graph.now c.args.positions.now c.args.c c.requires.positions c.requires.apart (c.sessions_stand.ensures c.if-not-sessions_stand.false)
    (c.in_ok-stand.ensures t) clocks
