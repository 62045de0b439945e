use Rattle.std.proofs.Common.{get_or, sym, arith}
use Rattle.std.proofs.lemmas.Grind.{common_steps}
use Rattle.tcc_reads.specs.private.Verdicts.{writers_in}
use Rattle.tcc_reads.proofs.ByIndex.{more_named, more_within}
use Rattle.tcc_reads.proofs.Tables.{own_ahead}
use Rattle.tcc_reads.proofs.KeyNumbers.{first_numbers, number_of}
use Rattle.tcc_reads.proofs.judging.judge.Goals as goal

pub loop-before-preserved : goal.loop-before-preserved
loop-before-preserved c =
    let keys = c.args.writers.now.keys in
    let op = c.index-ops-before.result in
    let number = number_of keys c.args.indices.now c.args.ops.now c.requires.indices c.loop-before.before 0 op c.loop-before-test.true c.index-ops-before.is in
    let named = more_named keys c.loop-before.reads.items c.note.new.reads.items op (get_or c.args.indices.now c.loop-before.before 0) number c.judgement_of-judgement.result
    c.in_ok-note.ensures.read in
    record {
      writes = λ distinct. own_ahead c.args.ops.now c.loop-before.before c.index-ops-before.result
          c.loop-before-test.true (sym c.index-ops-before.is) (writers_in c.args.writers.now) c.args.located.now (c.loop-before.invariant.writes distinct);
      faults = grind (arith, common_steps);
      reads = grind (arith, common_steps);
      within = more_within keys c.loop-before.reads.items c.note.new.reads.items op (get_or c.args.indices.now c.loop-before.before 0) number c.judgement_of-judgement.result
          c.in_ok-note.ensures.read c.loop-before.invariant.within;
    }

pub judgement_of-judgement-requires-clause-index : goal.judgement_of-judgement-requires-clause-index
judgement_of-judgement-requires-clause-index c =
    number_of c.args.writers.now.keys c.args.indices.now c.args.ops.now c.requires.indices c.loop-before.before 0 c.index-ops-before.result
    c.loop-before-test.true c.index-ops-before.is

pub judgement_of-judgement-requires-clause-earlier : goal.judgement_of-judgement-requires-clause-earlier
judgement_of-judgement-requires-clause-earlier c =
    first_numbers c.args.writers.now.keys c.args.indices.now c.args.ops.now c.loop-before.before c.loop-before-test.true c.requires.indices
