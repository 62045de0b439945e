use Rattle.std.proofs.Common.{ℕ, ◌+◌, ◌<◌, ◌≤◌, ◌⊎◌, inl, inr, subst, arith}
use Rattle.std.proofs.lemmas.Bool.{cases_lt}
use Rattle.tcc_reads.specs.History.{History}
use Rattle.tcc_first.specs.private.Ways.{IsLastFrom}
use Rattle.tcc_first.proofs.LastLemmas.{from_below}
use Rattle.tcc_first.proofs.short.last_start.Goals as goal

lowest : (h : History) (s v n m : ℕ) → ((u q : ℕ) → s ≤ u → u < m → IsLastFrom h s v n u q → ⊥) → (u q : ℕ) → s ≤ u → IsLastFrom h s v n u q → m ≤ u
lowest h s v n m none u q up last = go (cases_lt u m)
  where
    go : (u < m) ⊎ (m ≤ u) → m ≤ u
    go (inl less) = absurd (none u q up less last)
    go (inr more) = more

more : (h : History) (s v n m : ℕ) → ((u q : ℕ) → s ≤ u → u < m → IsLastFrom h s v n u q → ⊥) → ((q : ℕ) → IsLastFrom h s v n m q → ⊥) → (u q : ℕ) → s ≤ u
    → u < m + 1 → IsLastFrom h s v n u q → ⊥
more h s v n m none here u q up low last = go (cases_lt u m)
  where
    go : (u < m) ⊎ (m ≤ u) → ⊥
    go (inl less) = none u q up less last
    go (inr over) = here q (subst (λ (z : ℕ). IsLastFrom h s v n z q) (omega (arith, low, over)) last)

pub loop-from-preserved : goal.loop-from-preserved
loop-from-preserved c =
    more c.args.graph.now c.args.start c.args.end c.args.left c.loop-from.from c.loop-from.invariant c.in_default.ensures

pub returns-in-Some : goal.returns-in-Some
returns-in-Some c = (
  omega (arith, c.loop-from-test.true, c.count-from-end.ensures.value),
  c.in-Some.ensures,
  lowest c.args.graph.now c.args.start c.args.end c.args.left c.loop-from.from c.loop-from.invariant,
)

pub returns : goal.returns
returns c = λ u q up last.
    c.loop-from.invariant u q up
    (omega (arith, from_below c.args.graph.now c.args.start c.args.end c.args.left u q last, c.loop-from-test.false, c.count-from-end.ensures.value)) last
