-- Each search of the row is one of the table.
use Rattle.std.proofs.Common.{◌≡◌, ◌<◌, ◌+◌, ℕ, None, List, [], length, ap, subst, arith, ◌∙◌}
use Rattle.std.specs.Prelude.{All}
use Rattle.std.proofs.lemmas.List.{get_or_read}
use Rattle.tcc_reads.specs.History.{count}
use Rattle.tcc_graph.specs.declared.level.Level.TheVariants as level
use Rattle.tcc_cert.specs.CycleRules.{BreaksNearPair, BreaksNearStep}
use Rattle.tcc_check.specs.private.Coming.{IsFoundBefore}
use Rattle.tcc_check.specs.private.Searches.{IsFirstLong, IsFoundBelow, IsLongSingle}
use Rattle.tcc_check.specs.private.WeightsFrom.{ReadWeighs, ends_of}
use Rattle.tcc_check.proofs.LinksFrom.{ends-inside, orderly-all}
use Rattle.tcc_check.proofs.RowRules.{at-level, found-more, found-next, near-pair-row, near-step-none, near-step-row}
use Rattle.tcc_check.proofs.near_rows.with_row.Goals as goal
use Rattle.tcc_check.proofs.near_rows.with_row.Goals.{in-Causal, in-Atomic}

pub long_link-pair-requires-clause-inside : goal.long_link-pair-requires-clause-inside
long_link-pair-requires-clause-inside c =
    let h = c.args.graph.now in
    let reads = c.args.pairs.now.reads.items in
    let same =
    get_or_read c.as_slice-reads.result.now c.args.start c.index-reads-start.result
    (omega (arith, ap length c.as_slice-reads.ensures.value, c.requires.pairs.reads.long, c.requires.start)) c.index-reads-start.is []
    ∙ ap (λ (r : List (List (ℕ × ℕ))). ends_of r c.args.start) c.as_slice-reads.ensures.value in
    rw same (ends-inside (count h) c.args.least (ReadWeighs h c.args.start) (ends_of reads c.args.start)
    (c.requires.pairs.reads.rows c.args.start c.requires.start))

pub long_link-pair-requires-clause-sorted : goal.long_link-pair-requires-clause-sorted
long_link-pair-requires-clause-sorted c =
    let same =
    get_or_read c.as_slice-reads.result.now c.args.start c.index-reads-start.result
    (omega (arith, ap length c.as_slice-reads.ensures.value, c.requires.pairs.reads.long, c.requires.start)) c.index-reads-start.is []
    ∙ ap (λ (r : List (List (ℕ × ℕ))). ends_of r c.args.start) c.as_slice-reads.ensures.value in
    rw same (c.requires.pairs.reads.rows c.args.start c.requires.start).sorted

pub first_long_step-step-requires-clause-inside : goal.first_long_step-step-requires-clause-inside
first_long_step-step-requires-clause-inside c =
    let h = c.args.graph.now in
    let reads = c.args.pairs.now.reads.items in
    let whole : count h ≡ 0 + length c.args.row.now = omega (arith, c.requires.long) in
    rw c.as_slice-reads.ensures.value (subst (λ (n : ℕ). All (λ (ends : List (ℕ × ℕ)). All (λ (link : ℕ × ℕ). link.0 < n) ends) reads) whole
    (orderly-all (count h) c.args.least (ReadWeighs h) reads c.requires.pairs.reads).inside)

pub first_long_step-step-requires-clause-sorted : goal.first_long_step-step-requires-clause-sorted
first_long_step-step-requires-clause-sorted c =
    let h = c.args.graph.now in
    rw c.as_slice-reads.ensures.value (orderly-all (count h) c.args.least (ReadWeighs h) c.args.pairs.now.reads.items c.requires.pairs.reads).sorted

pub returns : goal.returns
returns c near is before =
    let h = c.args.graph.now in
    let reads = c.args.pairs.now.reads.items in
    let row = c.args.row.now in
    let start = c.args.start in
    let same =
    get_or_read c.as_slice-reads.result.now start c.index-reads-start.result
    (omega (arith, ap length c.as_slice-reads.ensures.value, c.requires.pairs.reads.long, c.requires.start)) c.index-reads-start.is []
    ∙ ap (λ (r : List (List (ℕ × ℕ))). ends_of r start) c.as_slice-reads.ensures.value in
    let single : IsFoundBelow (count h) (IsLongSingle h (ends_of reads start) row 0 start) c.long_link-pair.result =
    subst (λ (e : List (ℕ × ℕ)). IsFoundBelow (count h) (IsLongSingle h e row 0 start) c.long_link-pair.result) same c.long_link-pair.ensures in
    let step : IsFoundBefore (start + 1) (BreaksNearStep h c.args.level near) c.match-level.step = elim c.match-level.branch [
      | in-Causal w ↦
          (let first : IsFirstLong c.args.faults.step start c.args.pairs.now.begins.items reads row 0 w.first_long_step-step.result =
          rw (← w.deref.ensures.value, ← c.as_slice-reads.ensures.value) w.first_long_step-step.ensures in
          rw w.step-is (found-next start (BreaksNearStep h c.args.level near) c.args.pairs.now.begins.items reads row 0 c.args.faults.step
          w.first_long_step-step.result
          (λ end found. at-level h near start c.args.level level.Causal end w.in-Causal.is
          (near-step-row h c.args.least near start row is c.requires.start c.requires.long c.requires.capped reads c.requires.pairs.reads
          c.args.pairs.now.begins.items c.requires.pairs.runs end found)) first before.steps))
      | in-Atomic w ↦ rw w.step-is
          (λ a b l broken. at-level h near a c.args.level level.Atomic None w.in-Atomic.is (near-step-none h near a) b broken)
    ] in
    record {
      pairs = rw c.first_of.ensures (found-more start (BreaksNearPair h near) c.args.faults.pair c.long_link-pair.result before.pairs
          (near-pair-row h c.args.least near start row is c.requires.start c.requires.long c.requires.capped reads c.requires.pairs.reads
          c.long_link-pair.result single));
      steps = step;
    }
