-- The next row, or another part; at last all of them.
use Rattle.std.proofs.Common.{◌≡◌, ◌≤◌, ◌-◌, ℕ, length, sym, subst, ◌∙◌, arith}
use Rattle.std.specs.Prelude.{All}
use Rattle.std.proofs.lemmas.Bool.{iff_false}
use Rattle.tcc_reads.specs.History.{count}
use Rattle.tcc_cert.specs.Tables.{lowest}
use Rattle.tcc_cert.specs.declared.part.Part.TheVariants as part
use Rattle.tcc_check.specs.private.Coming.{AreFoundBefore}
use Rattle.tcc_check.proofs.ComingFacts.{first-fault, first-line}
use Rattle.tcc_check.proofs.FarBehind.{AreFarBehind, far-all, far-more, far-other, far-row}
use Rattle.tcc_check.proofs.Rules.{far-answer}
use Rattle.tcc_check.proofs.far_rows.judge_far.Goals as goal

pub returns-in_default : goal.returns-in_default
returns-in_default g c ahead is =
    let h = c.args.graph.now in
    let now = c.loop-start.invariant ahead is in
    let taken = c.in_ok-row.ensures.parts now.0 now.3 in (
      taken.0,
      first-line c.in_ok-row.field-0 now.0 taken.0 taken.1 ∙ now.1,
      first-fault c.in_ok-row.field-0 now.0 taken.0 taken.1 ∙ now.2,
      taken.2,
      λ table far of split right.
          far-other c.args.version c.args.least (count h) (λ far i faults. AreFoundBefore h c.args.version c.args.least table far i faults)
          c.loop-start.start c.loop-start.faults c.in_ok-row.field-0 ahead now.0 taken.0 c.in_default.not-Far
          (omega (arith, c.loop-start-test.true, c.count-count.ensures.value)) (now.4 table of) taken.1 far split right,
    )

pub returns-then-not-is_row_right : goal.returns-then-not-is_row_right
returns-then-not-is_row_right g c ahead is =
    let h = c.args.graph.now in
    let now = c.loop-start.invariant ahead is in
    let taken = rw c.in-Far.is at (c.in_ok-row.ensures.parts now.0 now.3) in (
      taken.0,
      first-line (part.Far c.in-Far.row) now.0 taken.0 taken.1 ∙ now.1,
      first-fault (part.Far c.in-Far.row) now.0 taken.0 taken.1 ∙ now.2,
      taken.2,
      λ table far of split right.
          iff_false c.is_row_right.ensures c.if-not-is_row_right.true (rw (c.as_slice-row.ensures, c.lowest.ensures.value, c.count-count.ensures.value)
          (far-row c.args.version c.args.least (count h) (λ far i faults. AreFoundBefore h c.args.version c.args.least table far i faults)
          c.loop-start.start c.loop-start.faults c.in-Far.row ahead now.0 taken.0 (now.4 table of) taken.1 far split right)),
    )

pub loop-start-preserved : goal.loop-start-preserved
loop-start-preserved g c ahead is =
    let h = c.args.graph.now in
    let now = c.loop-start.invariant ahead is in
    let taken = rw c.in-Far.is at (c.in_ok-row.ensures.parts now.0 now.3) in
    let right : (length c.in-Far.row ≡ count h - lowest c.args.version c.loop-start.start) × All (λ value. value ≤ c.args.least) c.in-Far.row =
    rw (← c.as_slice-row.ensures, ← c.lowest.ensures.value, ← c.count-count.ensures.value) (c.is_row_right.ensures.0 c.if-not-is_row_right.false) in (
      taken.0,
      first-line (part.Far c.in-Far.row) now.0 taken.0 taken.1 ∙ now.1,
      first-fault (part.Far c.in-Far.row) now.0 taken.0 taken.1 ∙ now.2,
      taken.2,
      λ table of.
          far-more c.args.version c.args.least (count h) (λ far i faults. AreFoundBefore h c.args.version c.args.least table far i faults)
          c.loop-start.start c.loop-start.faults c.with_row-faults.result c.in-Far.row ahead now.0 taken.0 (now.4 table of) taken.1 right.0 right.1
          (λ far here before. c.with_row-faults.ensures table far of (here ∙ sym c.as_slice-row.ensures) before),
    )

pub returns : goal.returns
returns g c ahead is =
    let h = c.args.graph.now in
    let now = c.loop-start.invariant ahead is in
    let whole : c.loop-start.start ≡ count h = omega (arith, c.loop-start-test.false, c.loop-start.auto.start-end, c.count-count.ensures.value) in (
      now.0,
      now.1,
      now.2,
      now.3,
      λ table far of split.
          let all =
          far-all c.args.version c.args.least (count h) (λ far i faults. AreFoundBefore h c.args.version c.args.least table far i faults)
          c.loop-start.faults ahead now.0
          (subst (λ (i : ℕ). AreFarBehind c.args.version c.args.least (count h)
          (λ far i faults. AreFoundBefore h c.args.version c.args.least table far i faults) i c.loop-start.faults ahead now.0) whole (now.4 table of))
          far split in
          record {
            right = λ end. let found =
                all.0 end in (found.0, rw c.far_verdict.ensures (far-answer h c.args.version c.args.least table far c.loop-start.faults found.1));
            more = all.1;
          },
    )
