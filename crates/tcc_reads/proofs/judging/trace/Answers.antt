use Rattle.std.proofs.Common.{get_or, arith}
use Rattle.std.proofs.lemmas.Grind.{common_steps}
use Rattle.tcc_txn.specs.Transactions.{op_key, op_value}
use Rattle.tcc_reads.specs.private.Tracings.{is_outside}
use Rattle.tcc_reads.proofs.ByIndex.{kept_named, kept_within}
use Rattle.tcc_reads.proofs.KeyNumbers.{first_numbers, number_of}
use Rattle.tcc_reads.proofs.judging.trace.Goals as goal

pub loop-before-preserved : goal.loop-before-preserved
loop-before-preserved c =
    let keys = c.args.writers.now.keys in
    let op = c.index-ops-before.result in
    let number = number_of keys c.args.indices.now c.args.ops.now c.requires.indices c.loop-before.before 0 op c.loop-before-test.true c.index-ops-before.is in
    let passes = is_outside c.args.rewrites.now (op_key op, op_value op) in
    let named = kept_named keys c.loop-before.reads.items c.note_traced.new.reads.items op (get_or c.args.indices.now c.loop-before.before 0) number passes
    c.judgement_of-judgement.result c.in_ok-note_traced.ensures in
    record {
      reads = grind (arith, common_steps);
      within = kept_within keys c.loop-before.reads.items c.note_traced.new.reads.items op (get_or c.args.indices.now c.loop-before.before 0) number passes
          c.judgement_of-judgement.result c.in_ok-note_traced.ensures c.loop-before.invariant.within;
    }

pub judgement_of-judgement-requires-clause-index : goal.judgement_of-judgement-requires-clause-index
judgement_of-judgement-requires-clause-index c =
    number_of c.args.writers.now.keys c.args.indices.now c.args.ops.now c.requires.indices c.loop-before.before 0 c.index-ops-before.result
    c.loop-before-test.true c.index-ops-before.is

pub judgement_of-judgement-requires-clause-earlier : goal.judgement_of-judgement-requires-clause-earlier
judgement_of-judgement-requires-clause-earlier c =
    first_numbers c.args.writers.now.keys c.args.indices.now c.args.ops.now c.loop-before.before c.loop-before-test.true c.requires.indices
