use Rattle.std.proofs.Common.{rules, ◌≡◌, [], length, arith}
use Rattle.tcc_bits.proofs.Lists.{nothing_in}
use Rattle.tcc_order.proofs.QueuedLemmas.{pushed_here, roots_none, roots_skip, roots_more}
use Rattle.tcc_order.proofs.kahn.roots.Goals as goal
use Rattle.tcc_order.proofs.kahn.roots.Goals.{then-parent-eq0+in_ok-push, else-parent-eq0}

pub loop-number-init : goal.loop-number-init
loop-number-init c =
    let empty : c.new-roots.result.items ≡ [] = search rules in
    roots_none c.args.parents.now c.new-roots.result.items (λ x there. nothing_in x (rw empty at there))

pub loop-number-preserved : goal.loop-number-preserved
loop-number-preserved c =
    let ps = c.args.parents.now in
    let roots = c.loop-number.roots.items in
    let n = c.loop-number.number in
    elim c.if-parent-eq0.branch [
      | then-parent-eq0+in_ok-push w ↦ rw w.roots-is (roots_more ps roots w.push.new.self.items n c.loop-number.invariant w.if-parent-eq0.true (λ x. pushed_here roots w.push.new.self.items n (search rules) x))
      | else-parent-eq0 w ↦ rw w.roots-is (roots_skip ps roots n c.loop-number.invariant w.if-parent-eq0.false)
    ]

pub returns : goal.returns
returns c =
    let all : c.loop-number.number ≡ length c.args.parents.now = omega (arith, c.loop-number-test.false, c.loop-number.auto.number-end) in
    rw all at c.loop-number.invariant
