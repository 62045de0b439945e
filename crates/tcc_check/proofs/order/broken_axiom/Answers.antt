-- Row by row.
use Rattle.std.proofs.Common.{◌≡◌, arith, rules}
use Rattle.tcc_reads.specs.History.{count}
use Rattle.tcc_cert.specs.OrderRules.{BreaksAxiom}
use Rattle.tcc_check.proofs.First.{first_in_row, holds_more, nowhere}
use Rattle.tcc_check.proofs.order.broken_axiom.Goals as goal

pub loop-b-init : goal.loop-b-init
loop-b-init c = λ a b l p. absurd (omega (arith, l))

pub returns-in-Some : goal.returns-in-Some
returns-in-Some c =
    let first = rw c.in-Some.is at c.in_ok-a.ensures in
    first_in_row _ c.loop-b.b c.in-Some.a c.loop-b.invariant first.here first.first

pub loop-b-preserved : goal.loop-b-preserved
loop-b-preserved c =
    let h = c.args.graph.now in
    let k = c.args.claim.now in
    let none = rw c.in_default.is at c.in_ok-a.ensures in
    holds_more c.loop-b.b (BreaksAxiom h k) c.loop-b.invariant (λ a (broken : BreaksAxiom h k (c.loop-b.b, a)). none a broken.2.1.0 broken)

pub returns : goal.returns
returns c =
    let h = c.args.graph.now in
    let k = c.args.claim.now in
    let all : c.loop-b.b ≡ count h = search rules in
    nowhere c.loop-b.b (BreaksAxiom h k) (λ a b (broken : BreaksAxiom h k (a, b)). omega (arith, all, broken.2.2.0)) c.loop-b.invariant
