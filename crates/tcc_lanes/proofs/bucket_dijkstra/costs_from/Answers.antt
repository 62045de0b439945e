use Rattle.std.proofs.Common.{◌≡◌, ◌<◌, ◌≤◌, ◌+◌, ℕ, List, [], length, get_or, replicate, set, sym, ap, subst, ◌∙◌, arith, ⊎_elim}
use Rattle.std.specs.Prelude.{min}
use Rattle.std.specs.List.{Contains}
use Rattle.std.proofs.lemmas.List.{get_or-replicate, get_or_default, get_or_past, get_or_read, length-replicate}
use Rattle.tcc_bits.proofs.Lists.{nothing_in}
use Rattle.tcc_graph.specs.Tables.{row_of}
use Rattle.tcc_lanes.specs.declared.pricing.TheConstants.{NONE}
use Rattle.tcc_lanes.specs.private.Buckets.{AreQueuedOn}
use Rattle.tcc_lanes.specs.private.Pricing.{IsSettled}
use Rattle.tcc_txn.proofs.Lists.{whole}
use Rattle.tcc_lanes.proofs.Attained.{attained, attained_first, attained_more}
use Rattle.tcc_lanes.proofs.BucketLemmas.{not_in_past, queued_above, queued_none, was_in}
use Rattle.tcc_lanes.proofs.SettledCosts.{costs_of_row, reached_first, reached_more, reached_on}
use Rattle.tcc_lanes.proofs.bucket_dijkstra.costs_from.Goals as goal

pub loop-level-init : goal.loop-level-init
loop-level-init c =
    let rows = c.args.rows.now in
    let start = c.args.start in
    let costs = c.in_ok-costs.costs in
    let new = c.relax.new.costs in
    let after = c.relax.new.buckets.items in
    let row = get_or rows start [] in
    let none : costs.items ≡ replicate (length rows) NONE = c.in_ok-costs.ensures.items_if_clones_equal (λ y e. e) in
    let is : c.index-rows-start.result ≡ row = get_or_read rows start c.index-rows-start.result c.requires.start c.index-rows-start.is [] in
    let same : length new ≡ length costs.items = rw c.deref_mut.ensures.value at c.relax.ensures.same in
    let each : (v : ℕ) → v < length costs.items → get_or new v 0 ≡ min (get_or costs.items v 0) (0 + get_or row v 0)
    = rw (c.deref_mut.ensures.value, is) at c.in_ok-relax.ensures.each in
    let queued : AreQueuedOn costs.items [] new after = rw (c.deref_mut.ensures.value, c.new-buckets.ensures.items) at c.in_ok-relax.ensures.queued in
    let back = whole new costs.items costs.len same costs.ok.0 in
    let first : new ≡ row
    = costs_of_row row costs.items new (length rows) none (c.requires.table.long start c.requires.start) same
    (λ v l. c.requires.table.high start v c.requires.start l) each in
    let wide : length costs.items ≡ length rows = ap length none ∙ length-replicate {A = ℕ} (length rows) NONE in
    let nothing : (v : ℕ) → v < length costs.items → get_or costs.items v 0 ≡ NONE
    = λ v l. ap (λ (z : List ℕ). get_or z v 0) none ∙ get_or-replicate {A = ℕ} (length rows) v NONE 0 (omega (arith, l, wide)) in
    rw (back, first) (record {
      same = c.requires.table.long start c.requires.start;
      inside = λ k v h.
          ⊎_elim (λ before. absurd (nothing_in v (subst (λ (z : List ℕ). Contains z v) (get_or_past [] k [] (omega arith)) before)))
          (λ low. omega (arith, low, wide)) (queued.inside k v h);
      queued = rw first at (queued.queued 1 (queued_none 1 costs.items [] nothing));
      reached = λ j members are. reached_first j members c.args.most rows are start (omega (arith, c.requires.start, are.long));
      attained = λ v l. attained_first rows start v;
    })

pub settle-requires-clause-inside : goal.settle-requires-clause-inside
settle-requires-clause-inside c =
    let here : c.as_slice.result.now ≡ row_of c.loop-level.buckets.items c.loop-level.level = c.as_slice.ensures ∙ c.take-here.ensures.taken in
    rw here (λ i d l. c.loop-level.invariant.inside c.loop-level.level (get_or (row_of c.loop-level.buckets.items c.loop-level.level) i d)
    (i, l, get_or_default (row_of c.loop-level.buckets.items c.loop-level.level) i (get_or (row_of c.loop-level.buckets.items c.loop-level.level) i d) d l))

pub loop-level-preserved : goal.loop-level-preserved
loop-level-preserved c =
    let now = c.loop-level in
    let level = now.level in
    let rows = c.args.rows.now in
    let start = c.args.start in
    let old = now.costs.items in
    let new = c.settle.new.costs in
    let mid = c.take-here.new.buckets.items in
    let after = c.settle.new.buckets.items in
    let taken : c.as_slice.result.now ≡ row_of now.buckets.items level = c.as_slice.ensures ∙ c.take-here.ensures.taken in
    let left : mid ≡ set now.buckets.items level [] = c.take-here.ensures.left in
    let Is : ℕ → Type 0 = Contains (row_of now.buckets.items level) in
    let same : length new ≡ length old = rw c.deref_mut-in-loop-level.ensures.value at c.settle.ensures.same in
    let settled : IsSettled rows level Is old new = rw (c.deref_mut-in-loop-level.ensures.value, taken) at c.in_ok-settle.ensures.settled in
    let queued : AreQueuedOn old mid new after = rw c.deref_mut-in-loop-level.ensures.value at c.in_ok-settle.ensures.queued in
    let back = whole new old now.costs.len same now.costs.ok.0 in
    let few : level < NONE = omega (arith, c.loop-level-test.true, c.ranges.most.fits) in
    let all : (u : ℕ) → u < length old → get_or old u 0 ≡ level → Is u
    = λ u l e. subst (λ (z : ℕ). Contains (row_of now.buckets.items z) u) e (now.invariant.queued u l (omega (arith, e)) (omega (arith, e, few))) in
    rw back (record {
      same = same ∙ now.invariant.same;
      inside = λ k v h.
          ⊎_elim (λ before. now.invariant.inside k v (was_in level now.buckets.items mid left k v before)) (λ low. omega (arith, low, now.invariant.same))
          (queued.inside k v h);
      queued = queued.queued (level + 1) (queued_above level old now.buckets.items mid now.invariant.queued left);
      reached = λ j members are.
          reached_more j members c.args.most rows are start (omega (arith, c.requires.start, are.long)) level Is old new few all (now.invariant.reached j members are)
          settled;
      attained = λ v l. attained_more rows c.requires.table start level Is old new (sym now.invariant.same) settled v l (now.invariant.attained v l);
    })

pub returns-then-is_past-clause-reached : goal.returns-then-is_past-clause-reached
returns-then-is_past-clause-reached c = λ j members are.
    let now = c.loop-level in
    let inside : c.args.start < length members = omega (arith, c.requires.start, are.long) in
    let past : length now.buckets.items ≤ now.level = rw c.deref.ensures.value at (c.is_past.ensures.0 c.if-is_past.true) in
    let above : (v : ℕ) → v < length now.costs.items → now.level ≤ get_or now.costs.items v 0 → c.args.most ≤ get_or now.costs.items v 0
    = λ v l more. not_in_past now.level now.costs.items now.buckets.items now.invariant.queued past c.args.most (omega (arith, c.ranges.most.fits)) v l more in (
      c.args.most,
      omega arith,
      reached_on j members c.args.most c.args.rows.now are c.args.start inside now.level c.args.most now.costs.items above
          (now.invariant.reached j members are),
    )

pub returns-then-is_past-clause-attained : goal.returns-then-is_past-clause-attained
returns-then-is_past-clause-attained c = λ v l.
    attained c.args.rows.now c.args.start c.loop-level.level c.loop-level.costs.items v (c.loop-level.invariant.attained v l)

pub returns-clause-reached : goal.returns-clause-reached
returns-clause-reached c = λ j members are.
    (c.loop-level.level, omega (arith, c.loop-level-test.false), c.loop-level.invariant.reached j members are)

pub returns-clause-attained : goal.returns-clause-attained
returns-clause-attained c = λ v l.
    attained c.args.rows.now c.args.start c.loop-level.level c.loop-level.costs.items v (c.loop-level.invariant.attained v l)
