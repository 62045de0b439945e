use Rattle.std.proofs.Common.{ℕ, ◌≤◌, get_or, refl, arith}
use Rattle.std.proofs.lemmas.List.{get_or_default}
use Rattle.tcc_derive.proofs.LimitLemmas.{all_next, all_end}
use Rattle.tcc_derive.proofs.cost_limit.has_dearer.Goals as goal

pub loop-other-preserved : goal.loop-other-preserved
loop-other-preserved c =
    let xs = c.args.others.now in
    let i = c.loop-other.other-index in
    let x = get_or xs i (0, 0) in
    all_next (λ (p : ℕ × ℕ). p.1 ≤ c.args.limit) xs i x c.loop-other-test.true (get_or_default xs i (0, 0) x c.loop-other-test.true) c.loop-other.invariant
    (omega (arith, c.if-other-from.false, c.from.ensures))

pub returns : goal.returns
returns c =
    (λ same. all_end (λ (p : ℕ × ℕ). p.1 ≤ c.args.limit) c.args.others.now c.loop-other.other-index c.loop-other-test.false c.loop-other.invariant, λ all. refl)
