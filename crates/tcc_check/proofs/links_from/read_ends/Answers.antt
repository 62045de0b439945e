use Rattle.std.proofs.Common.{◌≡◌, [], ◌∷◌, ◌++◌, arith, rules, subst, ℕ}
use Rattle.tcc_reads.specs.History.{count}
use Rattle.tcc_check.specs.private.WeightsFrom.{AreEndsTo, ReadWeighs}
use Rattle.tcc_check.proofs.LinksFrom.{more-ends, no-ends}
use Rattle.tcc_check.proofs.links_from.read_ends.Goals as goal

pub loop-start-init : goal.loop-start-init
loop-start-init c = rw c.new-ends.ensures.items (no-ends (ReadWeighs c.args.graph.now) (count c.args.graph.now) c.args.least)

pub loop-start-preserved : goal.loop-start-preserved
loop-start-preserved c =
    let pushed : c.push.new.self.items ≡ c.loop-start.ends.items ++ c.in_ok-read_ends_of.field-0 ∷ [] = search rules in
    rw pushed (more-ends c.loop-start.start (ReadWeighs c.args.graph.now)
    (count c.args.graph.now) c.args.least c.loop-start.ends.items c.in_ok-read_ends_of.field-0 (search rules) c.loop-start.invariant)

pub returns : goal.returns
returns c =
    subst (λ (i : ℕ). AreEndsTo i (ReadWeighs c.args.graph.now) (count c.args.graph.now) c.args.least c.loop-start.ends.items)
    (omega (arith, c.loop-start-test.false, c.loop-start.auto.start-end, c.count-start-end.ensures.value)) c.loop-start.invariant
