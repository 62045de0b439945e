use Rattle.std.proofs.Common.{◌≡◌, ◌<◌, ◌+◌, ◌⊎◌, inl, inr, ℕ, [], length, get_or, take, refl, sym, ◌∙◌, arith, ⊎_elim}
use Rattle.std.specs.Prelude.{min}
use Rattle.std.specs.List.{Contains}
use Rattle.std.proofs.lemmas.List.{get_or_read, take_all}
use Rattle.tcc_bits.proofs.Lists.{nothing_in, one_of_taken}
use Rattle.tcc_lanes.proofs.BucketLemmas.{queued_more, queued_same}
use Rattle.tcc_lanes.proofs.SettledCosts.{settled_more, settled_none, settled_same}
use Rattle.tcc_lanes.proofs.bucket_dijkstra.settle.Goals.{then-costs-member+in_ok-relax, else-costs-member}
use Rattle.tcc_lanes.proofs.bucket_dijkstra.settle.Goals as goal

pub loop-member-init : goal.loop-member-init
loop-member-init c = record {
  same = refl;
  settled = settled_none c.args.rows.now c.requires.table c.args.level c.args.costs.now c.requires.same (Contains []) (λ u h. nothing_in u h);
  queued = queued_same c.args.costs.now c.args.buckets.now.items;
}

pub loop-member-preserved : goal.loop-member-preserved
loop-member-preserved c =
    let rows = c.args.rows.now in
    let old = c.args.costs.now in
    let here = c.args.here.now in
    let now = c.loop-member in
    let mid = now.costs in
    let k = now.member-index in
    let member : ℕ = get_or here k 0 in
    let within : member < length rows = c.requires.inside k 0 c.loop-member-test.true in
    let inside : member < length old = omega (arith, within, c.requires.same) in
    let one : (u : ℕ) → Contains (take (k + 1) here) u → Contains (take k here) u ⊎ (u ≡ member)
    = λ u h. ⊎_elim inl (λ e. inr (sym e)) (one_of_taken here k c.loop-member-test.true u h) in
    elim c.if-costs-member.branch [
      | then-costs-member+in_ok-relax w ↦
          let row : w.index-rows-member.result ≡ get_or rows member [] = get_or_read rows member w.index-rows-member.result within w.index-rows-member.is [] in
          let each : (v : ℕ) → v < length mid → get_or w.relax.new.costs v 0 ≡ min (get_or mid v 0) (c.args.level + get_or (get_or rows member []) v 0)
          = rw row at w.in_ok-relax.ensures.each in
          rw (w.costs-is, w.buckets-is) (record {
            same = w.relax.ensures.same ∙ now.invariant.same;
            settled = settled_more rows c.requires.table c.args.level old c.requires.same (Contains (take k here)) (Contains (take (k + 1) here)) member one mid
                now.invariant.settled inside w.if-costs-member.true w.relax.new.costs w.relax.ensures.same each;
            queued = queued_more old mid w.relax.new.costs c.args.buckets.now.items now.buckets.items w.relax.new.buckets.items now.invariant.same
                now.invariant.queued w.in_ok-relax.ensures.queued;
          })
      | else-costs-member w ↦ rw (w.costs-is, w.buckets-is) (record {
        same = now.invariant.same;
        settled = settled_same rows c.requires.table c.args.level old c.requires.same (Contains (take k here)) (Contains (take (k + 1) here)) member one mid
            now.invariant.settled w.if-costs-member.false;
        queued = now.invariant.queued;
      })
    ]

pub returns-clause-settled : goal.returns-clause-settled
returns-clause-settled c = rw (take_all c.loop-member.member-index c.args.here.now c.loop-member-test.false) at c.loop-member.invariant.settled
