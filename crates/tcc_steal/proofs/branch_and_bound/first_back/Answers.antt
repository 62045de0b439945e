use Rattle.std.proofs.Common.{◌≡◌, ◌<◌, ◌+◌, ◌⊎◌, inl, inr, ℕ, List, Option, Some, true≢false, sym, ◌∙◌, subst, arith}
use Rattle.std.proofs.lemmas.Bool.{cases_order}
use Rattle.tcc_core.specs.Rows.{in_row}
use Rattle.tcc_steal.specs.private.Working.{CameBack}
use Rattle.tcc_steal.proofs.Settling.{row_here}
use Rattle.tcc_steal.proofs.branch_and_bound.first_back.Goals as goal

-- if no number below n has it, nor n, then no number below n + 1 has it
one_more : (P : ℕ → Type 0) (n : ℕ) → ((k : ℕ) → k < n → P k → ⊥) → (P n → ⊥) → (k : ℕ) → k < n + 1 → P k → ⊥
one_more P n below here k l = go (cases_order k n)
  where
    go : (k ≡ n) ⊎ ((k < n) ⊎ (n < k)) → P k → ⊥
    go (inl same) p = here (subst P same p)
    go (inr (inl lower)) p = below k lower p
    go (inr (inr higher)) p = absurd (omega arith)

pub loop-start-preserved : goal.loop-start-preserved
loop-start-preserved c =
    let es = c.args.searches.now in
    let n = c.loop-start.start in
    let e = c.index-searches-start.result in
    one_more (λ k. CameBack es k c.args.cost) n c.loop-start.invariant (λ back.
    let here : in_row e.row 0 ≡ Some c.args.cost =
    subst (λ (row : List (Option ℕ)). in_row row 0 ≡ Some c.args.cost) (row_here es n e c.loop-start-test.true c.index-searches-start.is) back in
    absurd (true≢false (sym (c.came_back_at.ensures.1 here) ∙ c.if-came_back_at.false)))
