use Rattle.std.proofs.Common.{rules, ℕ, arith}
use Rattle.std.specs.Prelude.{slice_index_or}
use Rattle.std.proofs.lemmas.Bool.{false≢true}
use Rattle.tcc_graph.specs.Keys.{key_at}
use Rattle.tcc_least.proofs.ReadLemmas.{AreReadsAt}
use Rattle.tcc_least.proofs.ReturnLemmas.{read_at}
use Rattle.tcc_first.proofs.Around.{none_over}
use Rattle.tcc_first.proofs.starts.is_around_by_pairs.Goals as goal

pub returns-then-has_pairs : goal.returns-then-has_pairs
returns-then-has_pairs c =
    let h = c.args.graph.now in
    let reads = c.reads_at-read-items.result.now in
    let are : AreReadsAt h c.args.start reads = record { value = c.reads_at-read-items.ensures.value; within = c.reads_at-read-items.ensures.within } in
    let k : ℕ = c.loop-read.read-index in (
      (λ _. (
        (slice_index_or reads k (0, 0)).1,
        (key_at h (slice_index_or reads k (0, 0)).0, read_at h c.args.start reads are c.requires.start k c.loop-read-test.true),
        c.if-start-read.true,
        (_, omega (arith, c.requires.some), c.has_pairs.ensures.0 c.if-has_pairs.true),
      )),
      (λ _. search rules),
    )

pub returns : goal.returns
returns c =
    let h = c.args.graph.now in
    let reads = c.reads_at-read-items.result.now in
    let are : AreReadsAt h c.args.start reads = record { value = c.reads_at-read-items.ensures.value; within = c.reads_at-read-items.ensures.within } in (
      (λ e. absurd (false≢true e)),
      (λ found. absurd (none_over h c.args.steps c.args.start reads are c.requires.start c.loop-read.read-index
          (omega (arith, c.loop-read-test.false)) c.loop-read.invariant found)),
    )
