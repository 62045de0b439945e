use Rattle.std.proofs.Common.{arith}
use Rattle.tcc_order.proofs.Stepped.{put_some}
use Rattle.tcc_order.proofs.atomic_links.keep_last.Goals as goal

pub returns-in_ok-keep_one-clause-kept : goal.returns-in_ok-keep_one-clause-kept
returns-in_ok-keep_one-clause-kept c =
    put_some c.args.kept.now c.keep_one.new.kept c.args.last (omega (arith, c.if-last-gt0.true)) c.in_ok-keep_one.ensures.kept
