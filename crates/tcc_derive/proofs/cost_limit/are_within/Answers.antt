use Rattle.std.proofs.Common.{ℕ, ◌≤◌, ◌∙◌, List, refl, sym, subst, true≢false}
use Rattle.std.specs.Prelude.{All}
use Rattle.tcc_derive.proofs.LimitLemmas.{all_next, all_end}
use Rattle.tcc_derive.proofs.cost_limit.are_within.Goals as goal

pub returns-then-has_dearer : goal.returns-then-has_dearer
returns-then-has_dearer c =
    let P : List (ℕ × ℕ) → Type 0 = λ row. All (λ (p : ℕ × ℕ). p.1 ≤ c.args.limit) row in
    let row = c.row-item.result in (
      λ same. absurd cc,
      λ all. absurd (true≢false (sym c.if-has_dearer.true ∙ c.has_dearer.ensures.1
          (subst P (sym c.as_slice.ensures) (subst P (sym c.row-item.is) (all c.loop-row.row-index row c.loop-row-test.true))))),
    )

pub loop-row-preserved : goal.loop-row-preserved
loop-row-preserved c =
    let P : List (ℕ × ℕ) → Type 0 = λ row. All (λ (p : ℕ × ℕ). p.1 ≤ c.args.limit) row in
    all_next P c.args.others.now c.loop-row.row-index c.row-item.result c.loop-row-test.true c.row-item.is c.loop-row.invariant
    (subst P c.as_slice.ensures (c.has_dearer.ensures.0 c.if-has_dearer.false))

pub returns : goal.returns
returns c =
    let P : List (ℕ × ℕ) → Type 0 = λ row. All (λ (p : ℕ × ℕ). p.1 ≤ c.args.limit) row in
    (λ same. all_end P c.args.others.now c.loop-row.row-index c.loop-row-test.false c.loop-row.invariant, λ all. refl)
