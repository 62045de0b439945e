-- Each row is one of the table; at last all of them.
use Rattle.std.proofs.Common.{◌≡◌, ℕ, [], arith, subst, sym, ◌∙◌}
use Rattle.std.proofs.lemmas.List.{get_or_read}
use Rattle.tcc_reads.specs.History.{count}
use Rattle.tcc_check.specs.private.Judged.{AreNearRowsTo}
use Rattle.tcc_check.proofs.LinksFrom.{orderly-none}
use Rattle.tcc_check.proofs.Rules.{near-answer}
use Rattle.tcc_check.proofs.near_rows.near_table.Goals as goal

pub loop-start-init : goal.loop-start-init
loop-start-init c = record {
  rows = c.no_rows-rows.ensures.rows c.args.graph.now c.args.level c.args.least c.args.near.now;
  long = rw c.no_rows-rows.ensures.none (omega arith);
  orderly = rw c.no_rows-rows.ensures.none (orderly-none (count c.args.graph.now));
}

pub loop-start-preserved : goal.loop-start-preserved
loop-start-preserved c =
    let below = c.loop-start-test.true in
    let here =
    c.as_slice-row.ensures ∙ get_or_read c.args.near.now c.loop-start.start c.index-near-start.result
    (omega (arith, c.requires.size.long, c.count-start-end.ensures.value)) c.index-near-start.is [] in
    record {
      rows = c.in_ok-take_row.ensures.taken c.args.near.now (sym here) c.loop-start.invariant.rows;
      long = omega (arith, c.in_ok-take_row.ensures.long, c.loop-start.invariant.long);
      orderly = c.in_ok-take_row.ensures.orderly;
    }

pub returns : goal.returns
returns c =
    let h = c.args.graph.now in
    let whole : c.loop-start.start ≡ count h = omega (arith, c.loop-start-test.false, c.loop-start.auto.start-end, c.count-start-end.ensures.value) in
    let all : AreNearRowsTo h c.args.level c.args.least c.args.near.now (count h) c.loop-start.rows =
    subst (λ (i : ℕ). AreNearRowsTo h c.args.level c.args.least c.args.near.now i c.loop-start.rows) whole c.loop-start.invariant.rows in
    record {
      judged = rw c.judged.ensures (record { answer = near-answer h c.args.level c.args.near.now c.loop-start.rows.faults all.found; links = all.links });
      orderly =
          rw c.judged.ensures
          (record { runs = c.in_ok-pairs.ensures.runs; long = c.loop-start.invariant.long ∙ whole; links = c.loop-start.invariant.orderly });
    }
