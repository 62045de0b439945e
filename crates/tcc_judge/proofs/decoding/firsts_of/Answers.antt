use Rattle.std.proofs.Common.{◌≡◌, ◌<◌, ◌++◌, ◌∷◌, [], length, ap, arith}
use Rattle.tcc_reads.specs.History.{count}
use Rattle.tcc_judge.proofs.Told.{firsts_none, firsts_push}
use Rattle.tcc_judge.proofs.decoding.firsts_of.Goals as goal

pub loop-session-init : goal.loop-session-init
loop-session-init c =
    let some : 0 < count c.args.graph.now = omega (arith, c.count.ensures.value, c.count.ensures.some) in
    rw c.new-firsts.ensures.items (firsts_none c.args.graph.now c.requires some)

pub loop-session-preserved : goal.loop-session-preserved
loop-session-preserved c =
    let firsts = c.loop-session.firsts.items in
    let pushed : c.push.new.self.items ≡ firsts ++ c.loop-session.first ∷ [] = c.in_ok-push.ensures.items in
    let w = firsts_push c.args.graph.now c.loop-session.session c.loop-session.first firsts c.loop-session.invariant in
    record {
      long = rw pushed w.0;
      each = λ s l. rw pushed (w.1 s l);
      here = c.end_of-first.ensures.first;
      some = c.end_of-first.ensures.some;
      within = c.end_of-first.ensures.within;
    }

pub returns : goal.returns
returns c =
    let h = c.args.graph.now in
    let firsts = c.loop-session.firsts.items in
    let pushed : c.push-2.new.self.items ≡ firsts ++ c.loop-session.first ∷ [] = c.in_ok-push-2.ensures.items in
    let w = firsts_push h c.loop-session.session c.loop-session.first firsts c.loop-session.invariant in
    let all : c.loop-session.session ≡ length h.sessions = omega (arith, ap length c.sessions-name-items.ensures.value, c.loop-session-test.false, c.loop-session.auto.session-end) in
    record {
      long = rw (pushed, ← all) w.0;
      each = λ s l. rw pushed (w.1 s (omega (arith, l, all)));
    }
