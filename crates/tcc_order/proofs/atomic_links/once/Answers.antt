use Rattle.std.proofs.Common.{rules, ◌≡◌, ◌∙◌, [], refl}
use Rattle.std.proofs.lemmas.List.{take_all}
use Rattle.tcc_order.proofs.Stepped.{once_none, once_more}
use Rattle.tcc_order.proofs.atomic_links.once.Goals as goal

pub loop-number-init : goal.loop-number-init
loop-number-init c =
    let empty : c.new-row.result ≡ [] = search rules in
    rw empty (refl, once_none c.args.numbers.now)

pub loop-number-preserved : goal.loop-number-preserved
loop-number-preserved c = (
  c.in_ok-keep_one.ensures.same ∙ c.loop-number.invariant.0,
  once_more c.args.numbers.now c.loop-number.number-index c.loop-number-test.true c.loop-number.row c.keep_one.new.kept c.loop-number.invariant.1
      c.in_ok-keep_one.ensures.kept,
)

pub returns-clause-listed : goal.returns-clause-listed
returns-clause-listed c = rw (take_all c.loop-number.number-index c.args.numbers.now c.loop-number-test.false) at c.loop-number.invariant.1
