use Rattle.std.proofs.Common.{◌≤◌, ◌+◌, ℕ, inr, slice_index, length, refl, arith}
use Rattle.std.proofs.lemmas.List.Elements.{All-contains}
use Rattle.tcc_reads.specs.History.{count}
use Rattle.tcc_survey.proofs.BesideLemmas.{there_at}
use Rattle.tcc_survey.proofs.CallingLemmas.{later_trans}
use Rattle.tcc_survey.proofs.ManyLemmas.{all_readers_met, beyond_met, early_met, further, readers_more, source_below, stopped_met}
use Rattle.tcc_survey.proofs.calling.Calling.with_reader.Goals as goal

pub loop-source-init : goal.loop-source-init
loop-source-init c = record {
  far = omega arith;
  within = c.count_before-next.ensures.within;
  called = c.requires.one;
  kept = inr (refl, omega arith);
  met = early_met c.args.self.now c.requires.calling c.args.lane c.requires.lane c.count_before-next.result c.count_before-next.ensures.less c.args.one;
}

pub is_beyond-requires-clause-inside : goal.is_beyond-requires-clause-inside
is_beyond-requires-clause-inside c =
    source_below c.args.self.now c.requires.calling c.loop-source.next (omega (arith, c.loop-source.invariant.within, c.if-next-self.false))

pub is_on-requires-clause-inside : goal.is_on-requires-clause-inside
is_on-requires-clause-inside c =
    source_below c.args.self.now c.requires.calling c.loop-source.next (omega (arith, c.loop-source.invariant.within, c.if-next-self.false))

pub is_first_from-requires-clause-inside : goal.is_first_from-requires-clause-inside
is_first_from-requires-clause-inside c =
    source_below c.args.self.now c.requires.calling c.loop-source.next (omega (arith, c.loop-source.invariant.within, c.if-next-self.false))

pub with_listed-best-requires-clause-one : goal.with_listed-best-requires-clause-one
with_listed-best-requires-clause-one c = c.loop-source.invariant.called

pub returns-then-next-self-clause-met : goal.returns-then-next-self-clause-met
returns-then-next-self-clause-met c =
    all_readers_met c.args.self.now c.requires.calling c.args.lane c.requires.lane c.loop-source.next (omega (arith, c.if-next-self.true)) c.loop-source.best
    c.loop-source.invariant.met

pub returns-then-is_beyond-clause-met : goal.returns-then-is_beyond-clause-met
returns-then-is_beyond-clause-met c =
    let b : ℕ = slice_index c.args.self.now.sources.now c.loop-source.next in
    beyond_met c.args.self.now c.requires.calling c.args.lane c.requires.lane c.loop-source.next b refl c.loop-source.best c.loop-source.invariant.met
    (c.if-is_beyond.ensures.0 refl)

pub returns-then-is_first_from-clause-met : goal.returns-then-is_first_from-clause-met
returns-then-is_first_from-clause-met c =
    let s = c.args.self.now in
    let b : ℕ = slice_index s.sources.now c.loop-source.next in
    stopped_met s c.requires.calling c.args.lane c.requires.lane c.loop-source.next b refl c.loop-source.best c.loop-source.invariant.met
    (slice_index s.knowledge.owners.now b) (c.if-is_on.ensures.0 refl) (c.if-is_first_from.ensures refl)

pub loop-source-preserved : goal.loop-source-preserved
loop-source-preserved c =
    let s = c.args.self.now in
    let was = c.loop-source.invariant in
    let n : ℕ = c.loop-source.next in
    let b : ℕ = slice_index s.sources.now n in
    let new = c.with_listed-best in
    let next = c.count_before-next-in-loop-source in
    record {
      far = omega (arith, was.far, further s n next.result (omega (arith, was.within, c.if-next-self.false)) (rw (← c.following.ensures) next.ensures.others));
      within = next.ensures.within;
      called = new.ensures.called;
      kept = later_trans new.result c.loop-source.best c.args.one new.ensures.kept was.kept;
      met = readers_more s c.requires.calling c.args.lane c.requires.lane n b refl c.loop-source.best was.met next.result (rw (← c.following.ensures) next.ensures.less) next.ensures.within
          new.result new.ensures.kept new.ensures.met;
    }

pub returns-clause-met : goal.returns-clause-met
returns-clause-met c =
    all_readers_met c.args.self.now c.requires.calling c.args.lane c.requires.lane c.loop-source.next
    (omega (arith, c.loop-source.invariant.far, c.loop-source-test.false)) c.loop-source.best c.loop-source.invariant.met

pub returns-then-next-self-clause-called : goal.returns-then-next-self-clause-called
returns-then-next-self-clause-called c = c.loop-source.invariant.called

pub returns-then-next-self-clause-kept : goal.returns-then-next-self-clause-kept
returns-then-next-self-clause-kept c = c.loop-source.invariant.kept

pub returns-then-is_beyond-clause-called : goal.returns-then-is_beyond-clause-called
returns-then-is_beyond-clause-called c = c.loop-source.invariant.called

pub returns-then-is_beyond-clause-kept : goal.returns-then-is_beyond-clause-kept
returns-then-is_beyond-clause-kept c = c.loop-source.invariant.kept

pub returns-then-is_first_from-clause-called : goal.returns-then-is_first_from-clause-called
returns-then-is_first_from-clause-called c = c.loop-source.invariant.called

pub returns-then-is_first_from-clause-kept : goal.returns-then-is_first_from-clause-kept
returns-then-is_first_from-clause-kept c = c.loop-source.invariant.kept

pub returns-clause-called : goal.returns-clause-called
returns-clause-called c = c.loop-source.invariant.called

pub returns-clause-kept : goal.returns-clause-kept
returns-clause-kept c = c.loop-source.invariant.kept

pub following-requires : goal.following-requires
following-requires c =
    source_below c.args.self.now c.requires.calling c.loop-source.next (omega (arith, c.loop-source.invariant.within, c.if-next-self.false))
