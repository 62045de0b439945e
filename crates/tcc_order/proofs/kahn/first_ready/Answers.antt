use Rattle.std.proofs.Common.{◌≡◌, ◌<◌, ◌∙◌, ◌⊎◌, inl, inr, ℕ, true, false, sym, arith}
use Rattle.std.specs.Prelude.{Contains}
use Rattle.std.proofs.lemmas.Bool.{false≢true}
use Rattle.tcc_bits.specs.Bits.{is_marked}
use Rattle.tcc_order.proofs.kahn.first_ready.Goals as goal

pub returns-then-not-is_marked-clause-least : goal.returns-then-not-is_marked-clause-least
returns-then-not-is_marked-clause-least c = λ y there less. go y less (c.loop-number.invariant.1 y there)
  where
    go : (y : ℕ) → y < c.in-Some.number → (is_marked c.args.placed.now y ≡ true) ⊎ Contains c.loop-number.ready y → is_marked c.args.placed.now y ≡ true
    go y less (inl done) = done
    go y less (inr left) = absurd (omega (arith, less, c.in-Some.ensures.least y left))

pub returns-then-not-is_marked-clause-rest : goal.returns-then-not-is_marked-clause-rest
returns-then-not-is_marked-clause-rest c = λ y there new. go y new (c.loop-number.invariant.1 y there)
  where
    go : (y : ℕ) → is_marked c.args.placed.now y ≡ false → (is_marked c.args.placed.now y ≡ true) ⊎ Contains c.loop-number.ready y
        → (y ≡ c.in-Some.number) ⊎ Contains c.pop.new.self y
    go y new (inl done) = absurd (false≢true (sym new ∙ done))
    go y new (inr left) = c.in-Some.ensures.rest y left

pub loop-number-preserved : goal.loop-number-preserved
loop-number-preserved c = (
  λ y there. c.loop-number.invariant.0 y (c.in-Some.ensures.still y there),
  λ y there. go y (c.loop-number.invariant.1 y there),
)
  where
    by : (y : ℕ) → (y ≡ c.in-Some.number) ⊎ Contains c.pop.new.self y → (is_marked c.args.placed.now y ≡ true) ⊎ Contains c.pop.new.self y
    by y (inl at) = inl (rw at (sym c.is_marked.ensures ∙ c.if-not-is_marked.false))
    by y (inr left) = inr left

    go : (y : ℕ) → (is_marked c.args.placed.now y ≡ true) ⊎ Contains c.loop-number.ready y → (is_marked c.args.placed.now y ≡ true) ⊎ Contains c.pop.new.self y
    go y (inl done) = inl done
    go y (inr left) = by y (c.in-Some.ensures.rest y left)

pub returns-clause-none : goal.returns-clause-none
returns-clause-none c = λ y there. go y (c.loop-number.invariant.1 y there)
  where
    go : (y : ℕ) → (is_marked c.args.placed.now y ≡ true) ⊎ Contains c.loop-number.ready y → is_marked c.args.placed.now y ≡ true
    go y (inl done) = done
    go y (inr left) = absurd (c.in_default.ensures y left)
