use Rattle.tcc_forget.proofs.CounterLemmas.{put_back, put_taken}
use Rattle.tcc_forget.proofs.counters.Counters.take_op.Goals as goal

pub returns-in-Put-clause-taken : goal.returns-in-Put-clause-taken
returns-in-Put-clause-taken c written are zero is =
    put_taken _ written c.raise.new.self c.args.op.now c.in-Put.key c.in-Put.value c.in-Put.is zero (λ some. c.raise.ensures.raised written are some is)

pub returns-in-Put-clause-back : goal.returns-in-Put-clause-back
returns-in-Put-clause-back c written are zero isnt =
    put_back _ written c.args.op.now c.in-Put.key c.in-Put.value c.in-Put.is zero (λ some. c.raise.ensures.passed written are some isnt)
