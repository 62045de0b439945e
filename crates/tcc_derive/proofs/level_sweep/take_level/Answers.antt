use Rattle.std.proofs.Common.{◌≡◌, ◌<◌, ◌∙◌, ℕ, [], true, length, arith, subst}
use Rattle.std.proofs.lemmas.List.{get_or_read}
use Rattle.tcc_bits.specs.Bits.{is_marked}
use Rattle.tcc_derive.specs.private.Buckets.{bucket}
use Rattle.tcc_derive.specs.private.Sources.{LowersEach, LowersUpTo}
use Rattle.tcc_derive.proofs.LevelLemmas.{upto_skip, upto_row}
use Rattle.tcc_derive.proofs.level_sweep.take_level.Goals.{then-steps-reader+in_ok-take_reader, else-steps-reader}
use Rattle.tcc_derive.proofs.level_sweep.take_level.Goals as goal

pub loop-reader-preserved : goal.loop-reader-preserved
loop-reader-preserved c =
    let k = c.loop-reader.reader in
    let rows = c.args.rows.now in
    let steps = c.args.steps.now in
    let inv = c.loop-reader.invariant in
    let inside : k < length rows = c.loop-reader-test.true in
    let below : k < length steps = omega (arith, inside, c.requires.sources.1.long) in
    elim c.if-steps-reader.branch [
      | then-steps-reader+in_ok-take_reader w ↦
          let row : w.as_slice.result.now ≡ bucket rows k = w.as_slice.ensures ∙ get_or_read rows k c.index-rows-reader.result inside c.index-rows-reader.is [] in
          let lowers : LowersEach (λ a. is_marked (bucket rows k) a ≡ true) c.args.distance c.loop-reader.nearest w.take_reader.new.nearest =
          rw row at w.in_ok-take_reader.ensures.lowered in
          rw (w.nearest-is, w.seen-is) (
            w.take_reader.ensures.same ∙ inv.0,
            w.take_reader.ensures.long ∙ inv.1,
            w.in_ok-take_reader.ensures.covered,
            λ reads old are from. upto_row reads steps (length steps) rows c.args.distance k old c.loop-reader.nearest w.take_reader.new.nearest are below
                w.if-steps-reader.true (inv.3 reads old are from) lowers,
          )
      | else-steps-reader w ↦
          rw (w.nearest-is, w.seen-is) (
            inv.0,
            inv.1,
            inv.2,
            λ reads old are from. upto_skip reads steps c.args.distance k old c.loop-reader.nearest w.if-steps-reader.false (inv.3 reads old are from),
          )
    ]

pub returns-clause-lowered : goal.returns-clause-lowered
returns-clause-lowered c = λ reads old are from.
    let all : c.loop-reader.reader ≡ length c.args.steps.now = omega (arith, c.loop-reader-test.false, c.loop-reader.auto.reader-end, are.long) in
    subst (λ (n : ℕ). LowersUpTo reads c.args.steps.now c.args.distance n old c.loop-reader.nearest) all (c.loop-reader.invariant.3 reads old are from)
