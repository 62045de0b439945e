-- The next row, or another part; at last all of them.
use Rattle.std.proofs.Common.{◌≡◌, ◌≤◌, [], ◌∷◌, ◌++◌, ℕ, length, sym, subst, ◌∙◌, arith}
use Rattle.std.specs.Prelude.{All}
use Rattle.std.proofs.lemmas.Bool.{iff_false}
use Rattle.tcc_reads.specs.History.{count}
use Rattle.tcc_cert.specs.declared.part.Part.TheVariants as part
use Rattle.tcc_check.specs.private.Judged.{AreNearRowsTo}
use Rattle.tcc_check.proofs.ComingFacts.{first-fault, first-line}
use Rattle.tcc_check.proofs.LinksFrom.{orderly-none}
use Rattle.tcc_check.proofs.NearBehind.{AreNearBehind, near-begun, near-ended, near-goes-on, near-other, near-row}
use Rattle.tcc_check.proofs.Rules.{near-answer}
use Rattle.tcc_check.proofs.near_rows.judge_near.Goals as goal

pub loop-start-init : goal.loop-start-init
loop-start-init g c = record {
  rows =
      λ ahead is. (
        ahead,
        [],
        near-begun (count c.args.graph.now) c.args.least
            (λ near i state. AreNearRowsTo c.args.graph.now c.args.level c.args.least near i state) c.no_rows-rows.result ahead
            (λ near. c.no_rows-rows.ensures.rows c.args.graph.now c.args.level c.args.least near),
        is,
      );
  long = rw c.no_rows-rows.ensures.none (omega arith);
  orderly = rw c.no_rows-rows.ensures.none (orderly-none (count c.args.graph.now));
}

pub returns-in_default : goal.returns-in_default
returns-in_default g c = record {
  orderly = tt;
  parts = λ ahead is.
      let now = c.loop-start.invariant.rows ahead is in
      let taken = c.in_ok-row.ensures.parts now.0 now.3 in (
        taken.0,
        first-line c.in_ok-row.field-0 now.0 taken.0 taken.1 ∙ now.2.behind.line,
        first-fault c.in_ok-row.field-0 now.0 taken.0 taken.1 ∙ now.2.behind.fault,
        taken.2,
        λ near far long split right.
            near-other now.1 (count c.args.graph.now) c.in_ok-row.field-0 ahead now.0 taken.0 c.in_default.not-Near
            (omega (arith, now.2.long, c.loop-start-test.true, c.count-start-end.ensures.value)) now.2.behind taken.1 near far long split,
      );
}

pub returns-then-not-is_row_right-clause-parts : goal.returns-then-not-is_row_right-clause-parts
returns-then-not-is_row_right-clause-parts g c ahead is =
    let now = c.loop-start.invariant.rows ahead is in
    let taken = rw c.in-Near.is at (c.in_ok-row.ensures.parts now.0 now.3) in (
      taken.0,
      first-line (part.Near c.in-Near.row) now.0 taken.0 taken.1 ∙ now.2.behind.line,
      first-fault (part.Near c.in-Near.row) now.0 taken.0 taken.1 ∙ now.2.behind.fault,
      taken.2,
      λ near far long split right.
          iff_false c.is_row_right.ensures c.if-not-is_row_right.true (rw (c.as_slice-row.ensures, c.count.ensures.value)
          (near-row now.1 (count c.args.graph.now) c.args.least c.in-Near.row ahead now.0 taken.0 now.2.behind taken.1 near far long split right)),
    )

pub loop-start-preserved : goal.loop-start-preserved
loop-start-preserved g c =
    let h = c.args.graph.now in
    let right : (length c.in-Near.row ≡ count h) × All (λ value. value ≤ c.args.least) c.in-Near.row =
    rw (← c.as_slice-row.ensures, ← c.count.ensures.value) (c.is_row_right.ensures.0 c.if-not-is_row_right.false) in
    record {
      rows = λ ahead is.
          let now = c.loop-start.invariant.rows ahead is in
          let taken = rw c.in-Near.is at (c.in_ok-row.ensures.parts now.0 now.3) in (
            taken.0,
            now.1 ++ c.in-Near.row ∷ [],
            near-goes-on (count h) c.args.least (λ near i state. AreNearRowsTo h c.args.level c.args.least near i state) c.loop-start.start
                c.loop-start.rows c.take_row.new.rows now.1 c.in-Near.row ahead now.0 taken.0 now.2 taken.1 right.0 right.1
                (λ near here before. c.in_ok-take_row.ensures.taken near (here ∙ sym c.as_slice-row.ensures) before),
            taken.2,
          );
      long = omega (arith, c.in_ok-take_row.ensures.long, c.loop-start.invariant.long);
      orderly = c.in_ok-take_row.ensures.orderly;
    }

pub returns : goal.returns
returns g c =
    let h = c.args.graph.now in
    let whole : c.loop-start.start ≡ count h = omega (arith, c.loop-start-test.false, c.loop-start.auto.start-end, c.count-start-end.ensures.value) in
    record {
      orderly =
          rw c.judged.ensures
          (record { runs = c.in_ok-pairs.ensures.runs; long = c.loop-start.invariant.long ∙ whole; links = c.loop-start.invariant.orderly });
      parts = λ ahead is.
          let now = c.loop-start.invariant.rows ahead is in (
            now.0,
            now.2.behind.line,
            now.2.behind.fault,
            now.3,
            λ near far long split.
                let all =
                near-ended (count h) c.args.least (λ near i state. AreNearRowsTo h c.args.level c.args.least near i state) c.loop-start.rows now.1 ahead now.0
                (subst (λ (i : ℕ). AreNearBehind (count h) c.args.least
                (λ near i state. AreNearRowsTo h c.args.level c.args.least near i state) i c.loop-start.rows now.1 ahead now.0) whole now.2) near far
                long split in (
                  all.0,
                  rw c.judged.ensures (record { answer = near-answer h c.args.level near c.loop-start.rows.faults all.1.found; links = all.1.links }),
                  all.2,
                ),
          );
    }
