use Rattle.std.proofs.Common.{ℕ, ◌≡◌, ◌<◌, ◌≤◌, ◌++◌, ◌∙◌, false, List, length, take, refl, sym, ap, subst, arith}
use Rattle.std.proofs.lemmas.Bool.{false≢true}
use Rattle.std.proofs.lemmas.List.{take_all}
use Rattle.tcc_txn.specs.Transactions.{writes_zero}
use Rattle.tcc_txn.specs.declared.op.Op.{Op}
use Rattle.tcc_forget.specs.Counters.{AreHighest, WritesPassed, values_written}
use Rattle.tcc_forget.proofs.CounterLemmas.{count_more, first_back}
use Rattle.tcc_forget.proofs.counters.Counters.take.Goals as goal

pub returns-then-not-take_op-clause-taken : goal.returns-then-not-take_op-clause-taken
returns-then-not-take_op-clause-taken c written are zeros =
    let i = c.loop-before.before in
    let ops = c.args.ops.now in
    let op : Op = c.index-ops-before.result in
    let inside : i < length ops = omega arith in
    let far = written ++ values_written (take i ops) in
    let w = c.loop-before.invariant.so_far written are zeros in
    let zero : writes_zero op ≡ false = ap writes_zero c.index-ops-before.is ∙ zeros i op inside in
    let back : WritesPassed (length c.loop-before.next) far op
    = c.take_op.ensures.back far w.1 zero (λ p. false≢true (sym c.if-not-take_op.true ∙ p)) in
    let same : WritesPassed (length c.args.self.now) far op = subst (λ (m : ℕ). WritesPassed m far op) c.loop-before.invariant.long back in
    (refl, first_back (length c.args.self.now) written ops i op inside c.index-ops-before.is w.0 same)

pub loop-before-preserved : goal.loop-before-preserved
loop-before-preserved c = record {
  long = c.take_op.ensures.long ∙ c.loop-before.invariant.long;
  so_far = λ written are zeros.
      let i = c.loop-before.before in
      let ops = c.args.ops.now in
      let op : Op = c.index-ops-before.result in
      let inside : i < length ops = omega arith in
      let far = written ++ values_written (take i ops) in
      let w = c.loop-before.invariant.so_far written are zeros in
      let zero : writes_zero op ≡ false = ap writes_zero c.index-ops-before.is ∙ zeros i op inside in
      let taken = c.take_op.ensures.taken far w.1 zero c.if-not-take_op.false in
      let not_back : WritesPassed (length c.args.self.now) far op → ⊥
      = λ back. taken.0 (subst (λ (m : ℕ). WritesPassed m far op) (sym c.loop-before.invariant.long) back) in
      count_more (length c.args.self.now) written ops i op inside c.index-ops-before.is w.0 c.take_op.new.self not_back taken.1;
}

pub returns-clause-taken : goal.returns-clause-taken
returns-clause-taken c written are zeros =
    let ops = c.args.ops.now in
    let i = c.loop-before.before in
    let past : length ops ≤ i = omega arith in
    let w = c.loop-before.invariant.so_far written are zeros in (
      (λ k low inside back. w.0 k (omega (arith, low, past)) inside back),
      subst (λ (z : List Op). AreHighest (written ++ values_written z) c.loop-before.next) (take_all i ops past) w.1,
    )
