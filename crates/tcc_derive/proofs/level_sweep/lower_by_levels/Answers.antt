use Rattle.std.proofs.Common.{rules, ◌≡◌, ◌<◌, ◌+◌, ◌∙◌, ℕ, length, replicate, refl, sym, ap, arith, subst, take_at}
use Rattle.std.specs.Prelude.{Contains}
use Rattle.std.proofs.lemmas.Bool.{false≢true}
use Rattle.std.proofs.lemmas.List.{length-replicate}
use Rattle.tcc_bits.proofs.BitLemmas.{none_marked}
use Rattle.tcc_derive.specs.private.Sources.{LowersUpTo}
use Rattle.tcc_derive.specs.declared.read.Read.{Read}
use Rattle.tcc_derive.proofs.LevelLemmas.{upto_none, upto_next, upto_whole, covered_later}
use Rattle.tcc_derive.proofs.SourceLemmas.{of_all}
use Rattle.tcc_derive.proofs.level_sweep.lower_by_levels.Goals as goal

pub loop-distance-init : goal.loop-distance-init
loop-distance-init c =
    let n = c.words_for.result in
    let zeros : c.in_ok-seen.seen.items ≡ replicate n 0 = search rules in (
      ap length zeros ∙ (length-replicate {A = ℕ} n 0 ∙ c.words_for.ensures),
      refl,
      rw zeros (λ a mark. absurd (false≢true (sym (none_marked n a) ∙ mark))),
      upto_none c.args.reads.now c.args.steps.now c.args.nearest.now,
      λ a. omega (arith, c.type_inv.nearest a),
    )

pub loop-distance-preserved : goal.loop-distance-preserved
loop-distance-preserved c =
    let inv = c.loop-distance.invariant in
    let d = c.loop-distance.distance in
    let reads = c.args.reads.now in
    let steps = c.args.steps.now in
    let below : (r : Read) → Contains reads r → r.reader < length steps =
    λ r there. of_all (λ (x : Read). x.reader < length steps) reads r c.requires.readers there in
    let long : c.loop-distance.seen.len ≡ length c.loop-distance.seen.items = search rules in
    let same : length c.take_level.new.seen ≡ length c.loop-distance.seen.items = c.take_level.ensures.same ∙ ap length c.deref_mut.ensures.value in
    rw (take_at c.take_level.new.seen _ c.loop-distance.seen.len (same ∙ sym long)) (
      same ∙ inv.0,
      c.take_level.ensures.long ∙ inv.1,
      covered_later c.take_level.new.seen c.take_level.new.nearest d (d + 1) (omega arith) c.in_ok-take_level.ensures.covered,
      upto_next reads steps below d c.args.nearest.now c.take_level.new.nearest (c.in_ok-take_level.ensures.lowered reads c.args.nearest.now c.requires.rows inv.3),
      inv.4,
    )

pub returns : goal.returns
returns c =
    let inv = c.loop-distance.invariant in
    let reads = c.args.reads.now in
    let steps = c.args.steps.now in
    let below : (r : Read) → Contains reads r → r.reader < length steps =
    λ r there. of_all (λ (x : Read). x.reader < length steps) reads r c.requires.readers there in
    let all : c.loop-distance.distance ≡ c.args.levels = omega (arith, c.loop-distance-test.false, c.loop-distance.auto.distance-end) in
    let whole : LowersUpTo reads steps c.args.levels 0 c.args.nearest.now c.loop-distance.nearest =
    subst (λ (n : ℕ). LowersUpTo reads steps n 0 c.args.nearest.now c.loop-distance.nearest) all inv.3 in
    upto_whole reads steps below c.args.levels c.args.nearest.now c.loop-distance.nearest c.requires.levels inv.4 whole
