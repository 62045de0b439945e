use Rattle.std.proofs.Common.{◌≡◌, ℕ, [], ◌∷◌, ◌++◌, get_or, arith, rules}
use Rattle.std.proofs.lemmas.List.Sorted.{IsNonDecreasingBy-from_sort_by_key}
use Rattle.tcc_check.proofs.links_from.light_ends.Goals.{then-from+in_ok-push, else-from}
use Rattle.tcc_check.proofs.LinksFrom.{no-light, light-inside, light-skipped, light-added, all-light}
use Rattle.tcc_check.proofs.links_from.light_ends.Goals as goal

pub loop-end-init : goal.loop-end-init
loop-end-init c = rw c.new-ends.ensures.items (no-light c.args.weights.now c.args.least)

pub new-requires : goal.new-requires
new-requires c =
    let by = IsNonDecreasingBy-from_sort_by_key (λ (end : ℕ × ℕ). end.1) _ c.in_ok-sort_by_key.ensures.sorted (λ a r q k. search rules) in
    rw c.deref.ensures.value (record {
      inside = light-inside c.args.weights.now c.args.least 65536 _ (omega (arith, c.requires))
          (all-light c.args.weights.now c.args.least c.loop-end.end c.loop-end.ends.items _ c.loop-end-test.false c.in_ok-sort_by_key.ensures.permutation by
          c.loop-end.invariant);
    })

pub returns : goal.returns
returns c =
    let by = IsNonDecreasingBy-from_sort_by_key (λ (end : ℕ × ℕ). end.1) _ c.in_ok-sort_by_key.ensures.sorted (λ a r q k. search rules) in
    rw (c.in_ok-new.ensures, c.deref.ensures.value)
    (all-light c.args.weights.now c.args.least c.loop-end.end c.loop-end.ends.items _ c.loop-end-test.false c.in_ok-sort_by_key.ensures.permutation by
    c.loop-end.invariant)

pub loop-end-preserved : goal.loop-end-preserved
loop-end-preserved c =
    let i = c.loop-end.end in
    elim c.if-from.branch [
      | then-from+in_ok-push w ↦
          (let pushed : c.if-from.ends.items ≡ c.loop-end.ends.items ++ (i, get_or c.args.weights.now i 0) ∷ [] = rw w.ends-is (search rules) in
          rw pushed (light-added c.args.weights.now c.args.least i c.loop-end.ends.items c.loop-end-test.true
          (omega (arith, w.if-from.true, c.from.ensures, c.from-in-loop-end.ensures)) c.loop-end.invariant))
      | else-from w ↦ rw w.ends-is (light-skipped c.args.weights.now c.args.least i c.loop-end.ends.items
          (λ light. absurd (omega (arith, light, w.if-from.false, c.from.ensures, c.from-in-loop-end.ensures))) c.loop-end.invariant)
    ]
