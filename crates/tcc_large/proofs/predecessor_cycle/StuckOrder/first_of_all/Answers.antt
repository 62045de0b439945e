use Rattle.std.proofs.Common.{below_more, ◌≡◌, ◌∙◌, true, sym, subst, arith, List, ℕ}
use Rattle.std.proofs.lemmas.Bool.{false≢true}
use Rattle.tcc_bits.specs.Bits.{is_marked}
use Rattle.tcc_large.proofs.predecessor_cycle.StuckOrder.first_of_all.Goals as goal

pub loop-number-preserved : goal.loop-number-preserved
loop-number-preserved c =
    below_more (λ v. is_marked c.args.self.now.stuck.now.placed.items v ≡ true) c.loop-number.number c.loop-number.invariant
    (subst (λ (words : List ℕ). is_marked words c.loop-number.number ≡ true) c.deref.ensures.value (sym c.is_marked.ensures ∙ c.if-not-is_marked.false))

pub unreachable-requires : goal.unreachable-requires
unreachable-requires c =
    let some = c.requires.some in
    false≢true (
    sym some.1.1
    ∙ c.loop-number.invariant some.0 (omega (arith, some.1.0, c.loop-number-test.false, c.count-number-end.ensures.value)))
