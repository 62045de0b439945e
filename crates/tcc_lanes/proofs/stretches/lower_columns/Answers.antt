use Rattle.std.proofs.Common.{◌≡◌, ◌≢◌, ◌≤◌, ◌<◌, ◌+◌, ◌⊎◌, inl, inr, ℕ, length, get_or, sym, subst, ◌∙◌, arith}
use Rattle.std.specs.Prelude.{min}
use Rattle.std.proofs.lemmas.Bool.{cases_eq}
use Rattle.tcc_lanes.proofs.BucketLemmas.{queued_more, queued_same}
use Rattle.tcc_lanes.proofs.stretches.lower_columns.Goals as goal

pub loop-v-init : goal.loop-v-init
loop-v-init c = record {
  same = Rattle.std.proofs.Common.refl;
  each = λ k from l. absurd (omega (arith, from, l));
  rest = λ k q. Rattle.std.proofs.Common.refl;
  queued = queued_same c.args.costs.now c.args.buckets.now.items;
}

pub loop-v-preserved : goal.loop-v-preserved
loop-v-preserved c =
    let old = c.args.costs.now in
    let now = c.loop-v in
    let mid = now.costs in
    let new = c.lower_at.new.costs in
    let v = now.v in
    let here : get_or new v 0 ≡ min (get_or old v 0) (c.args.level + c.args.price)
    = omega (arith, c.in_ok-lower_at.ensures.here, now.invariant.rest v (inr (omega arith))) in
    let apart : (k : ℕ) → k ≢ v → get_or new k 0 ≡ get_or mid k 0 = c.in_ok-lower_at.ensures.rest in
    record {
      same = c.lower_at.ensures.same ∙ now.invariant.same;
      each = λ k from l. elim (cases_eq k v) [
        | inl is ↦ subst (λ (z : ℕ). get_or new z 0 ≡ min (get_or old z 0) (c.args.level + c.args.price)) (sym is) here
        | inr other ↦ apart k other ∙ now.invariant.each k from (omega (arith, l, other))
      ];
      rest = λ k q. elim q [
        | inl before ↦ apart k (λ e. omega (arith, e, before, now.auto.v)) ∙ now.invariant.rest k (inl before)
        | inr after ↦ apart k (λ e. omega (arith, e, after)) ∙ now.invariant.rest k (inr (omega (arith, after)))
      ];
      queued = queued_more old mid new c.args.buckets.now.items now.buckets.items c.lower_at.new.buckets.items now.invariant.same now.invariant.queued
          c.in_ok-lower_at.ensures.queued;
    }

pub returns-then-not-any_dearer-clause-each : goal.returns-then-not-any_dearer-clause-each
returns-then-not-any_dearer-clause-each c = λ v from l. omega (arith, c.any_dearer.ensures c.if-not-any_dearer.true v from l, c.saturating_add.ensures)

pub returns-then-not-any_dearer-clause-queued : goal.returns-then-not-any_dearer-clause-queued
returns-then-not-any_dearer-clause-queued c = queued_same c.args.costs.now c.args.buckets.now.items
