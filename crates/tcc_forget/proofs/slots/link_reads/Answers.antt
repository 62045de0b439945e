use Rattle.std.proofs.Common.{Bool, true, ◌≤◌, ◌∙◌, length, sym, subst, arith}
use Rattle.tcc_forget.specs.private.Linking.{IsDoneBy, IsOutcome}
use Rattle.tcc_forget.proofs.ListedLinks.{keeps_on}
use Rattle.tcc_forget.proofs.ReadLinks.{all_reads, reads_more, reads_one}
use Rattle.tcc_forget.proofs.slots.link_reads.Goals as goal

pub loop-read-init : goal.loop-read-init
loop-read-init g c = record {
  between = c.requires.linking.between;
  keeps = λ u i at_u below p. p;
  wide = c.requires.linking.wide;
  done = λ i d low. absurd (omega (arith, low));
}

pub link_read-requires : goal.link_read-requires
link_read-requires g c =
    reads_one g.on c.args.rows.now c.loop-read.rows c.args.ats.now c.args.clock.now c.args.reads.now c.requires c.loop-read.read-index c.read-item.result
    c.loop-read-test.true c.read-item.is c.loop-read.invariant.between c.loop-read.invariant.wide

pub loop-read-preserved : goal.loop-read-preserved
loop-read-preserved g c =
    let read = c.read-item.result in
    let old = c.loop-read.rows in
    let new = c.link_read.new.rows in
    let w = c.loop-read.invariant in
    let right : IsOutcome g.on old new (IsDoneBy g.on new read) true
    = subst (λ (z : Bool). IsOutcome g.on old new (IsDoneBy g.on new read) z) c.if-not-branch.false c.in_ok-link_read.ensures.done in
    record {
      between = right.0;
      keeps = keeps_on g.on.history c.args.rows.now old new (w.between.long ∙ sym c.requires.linking.between.long) w.keeps right.1;
      wide = c.in_ok-link_read.ensures.wide;
      done = reads_more g.on c.args.rows.now old c.args.ats.now c.args.clock.now c.args.reads.now c.requires c.loop-read.read-index read c.loop-read-test.true
          c.read-item.is w.between w.wide new right.1 right.2 w.done;
    }

pub returns-clause-done : goal.returns-clause-done
returns-clause-done g c =
    let past : length c.args.reads.now ≤ c.loop-read.read-index = omega (arith, c.loop-read-test.false) in (
      c.loop-read.invariant.between,
      c.loop-read.invariant.keeps,
      all_reads g.on c.args.rows.now c.loop-read.rows c.args.ats.now c.args.clock.now c.args.reads.now c.requires c.loop-read.read-index past
          c.loop-read.invariant.done,
    )
