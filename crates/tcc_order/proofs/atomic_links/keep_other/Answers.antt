use Rattle.tcc_order.proofs.Stepped.{other_new}
use Rattle.tcc_order.proofs.atomic_links.keep_other.Goals as goal

pub returns-in_ok-keep_one-clause-kept : goal.returns-in_ok-keep_one-clause-kept
returns-in_ok-keep_one-clause-kept c =
    other_new c.args.writers.now c.args.a c.args.b c.args.kept.now c.keep_one.new.kept (c.is_other.ensures.0 c.if-is_other.true) c.in_ok-keep_one.ensures.kept
