use Rattle.std.proofs.Common.{◌≡◌, ◌<◌, ◌+◌, true, false, get_or, take, drop, refl, subst, arith}
use Rattle.std.proofs.lemmas.List.{take_all, take_more, get_or_default}
use Rattle.std.proofs.lemmas.Bool.{false≢true}
use Rattle.tcc_cert.specs.declared.large.Run.{Run}
use Rattle.tcc_judge.specs.Runs.{AreWhole}
use Rattle.tcc_judge.specs.private.Decoding.{IsToldOn}
use Rattle.tcc_reads.specs.History.{count}
use Rattle.tcc_judge.proofs.Ordered.{told_ordered}
use Rattle.tcc_judge.proofs.Told.{split_at}
use Rattle.tcc_judge.proofs.decoding.decode_runs.Goals as goal

pub returns-then-not-branch-clause-whole : goal.returns-then-not-branch-clause-whole
returns-then-not-branch-clause-whole c =
    let runs = c.args.runs.now in
    let i = c.loop-run.run-index in
    let run : Run = get_or runs i (record { session = 0; count = 0 }) in
    let on : IsToldOn c.args.graph.now (take i runs) run c.tell.new.decoder.firsts.items c.tell.new.decoder.next.items c.tell.new.decoder.order.items false
    = rw c.if-not-branch.true at (c.in_ok-tell.ensures c.args.graph.now (take i runs) c.loop-run.invariant) in
    λ whole. on (drop (i + 1) runs) (subst (AreWhole c.args.graph.now) (split_at runs i run c.loop-run-test.true (get_or_default runs i run (record { session = 0; count = 0 }) c.loop-run-test.true)) whole)

pub returns-then-not-is_whole-clause-whole : goal.returns-then-not-is_whole-clause-whole
returns-then-not-is_whole-clause-whole c = λ whole.
    let runs = c.args.runs.now in
    let all : take c.loop-run.run-index runs ≡ runs = take_all c.loop-run.run-index runs c.loop-run-test.false in
    let is = (c.if-not-is_whole.ensures c.args.graph.now runs (rw all at c.loop-run.invariant)).1 whole in
    false≢true is

pub loop-run-preserved : goal.loop-run-preserved
loop-run-preserved c =
    let runs = c.args.runs.now in
    let i = c.loop-run.run-index in
    let run : Run = get_or runs i (record { session = 0; count = 0 }) in
    let on : IsToldOn c.args.graph.now (take i runs) run c.tell.new.decoder.firsts.items c.tell.new.decoder.next.items c.tell.new.decoder.order.items true
    = rw c.if-not-branch.false at (c.in_ok-tell.ensures c.args.graph.now (take i runs) c.loop-run.invariant) in
    rw (take_more runs i (record { session = 0; count = 0 }) c.loop-run-test.true) on

pub returns : goal.returns
returns c =
    let h = c.args.graph.now in
    let runs = c.args.runs.now in
    let all : take c.loop-run.run-index runs ≡ runs = take_all c.loop-run.run-index runs c.loop-run-test.false in
    let w = rw all at c.loop-run.invariant in
    let whole = (c.if-not-is_whole.ensures h runs w).0 refl in
    let some : 0 < count h = omega (arith, c.count.ensures.value, c.count.ensures.some) in
    let ordered =
    told_ordered h c.sessions.ensures.numbered some (λ n above l. rw c.sessions.ensures.value at (c.sessions.ensures.owners n above l)) runs whole in
    record { whole = (whole, w.so_far); ordered = rw w.so_far ordered }
