use Rattle.std.proofs.Common.{◌≡◌, ◌-◌, ◌+◌, ◌++◌, ◌∷◌, [], ℕ, List, append_assoc, sym, ap, ◌∙◌, arith}
use Rattle.std.specs.List.{range_with_len}
use Rattle.std.proofs.lemmas.List.{append-nil}
use Rattle.tcc_judge.proofs.Told.{range_last}
use Rattle.tcc_judge.proofs.decoding.push_all.Goals as goal

pub loop-number-init : goal.loop-number-init
loop-number-init c =
    let none : c.args.from - c.args.from ≡ 0 = omega arith in
    rw none (sym (append-nil c.args.numbers.now.items))

pub loop-number-preserved : goal.loop-number-preserved
loop-number-preserved c =
    let order = c.args.numbers.now.items in
    let from = c.args.from in
    let n : ℕ = c.loop-number.number - from in
    let pushed : c.push.new.self.items ≡ c.loop-number.numbers.items ++ c.loop-number.number ∷ [] = c.in_ok-push.ensures.items in
    let next : (c.loop-number.number + 1) - from ≡ n + 1 = omega arith in
    let last : from + n ≡ c.loop-number.number = omega arith in
    rw (next, range_last from n, last)
    (pushed ∙ (ap (λ (xs : List ℕ). xs ++ c.loop-number.number ∷ []) c.loop-number.invariant
    ∙ append_assoc order (range_with_len from n) (c.loop-number.number ∷ [])))

pub returns : goal.returns
returns c =
    let same : c.loop-number.number ≡ c.args.end = omega arith in
    rw (← same) c.loop-number.invariant
