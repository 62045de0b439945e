use Rattle.std.proofs.Common.{arith}
use Rattle.tcc_least.proofs.ReturnLemmas.{done_first, done_more, all_found, first_found}
use Rattle.tcc_least.proofs.returning.first_return.Goals as goal

pub loop-number-init : goal.loop-number-init
loop-number-init c = record {
  done = done_first c.args.graph.now c.initial.result c.through-least.result c.initial.ensures.sound c.initial.ensures.found c.through-least.ensures.more
      c.through-least.ensures.found;
  order = (omega arith, omega arith);
  cut = λ u v some few from below same. absurd (omega arith);
  session = λ less. absurd (omega arith);
}

pub loop-number-preserved : goal.loop-number-preserved
loop-number-preserved c = record {
  done = done_more c.args.graph.now c.loop-number.number c.loop-number.least c.between-least.result c.through-least-in-loop-number.result
      c.stale-least.result c.loop-number.auto.number c.loop-number.invariant.done c.between-least.ensures.more c.through-least-in-loop-number.ensures.more
      c.stale-least.ensures.more c.between-least.ensures.found c.through-least-in-loop-number.ensures.found c.stale-least.ensures.found;
  order = (omega (arith, c.session_at-session.ensures.number.0), omega (arith, c.session_at-session.ensures.number.1));
  cut = c.session_at-session.ensures.cut;
  session = λ less. c.session_at-session.ensures.session;
}

pub returns : goal.returns
returns c =
    first_found c.args.graph.now c.loop-number.least c.loop-number.invariant.done.sound
    (all_found c.args.graph.now c.loop-number.number c.loop-number.least (omega (arith, c.loop-number-test.false, c.count-count.ensures.value))
    c.loop-number.invariant.done)
