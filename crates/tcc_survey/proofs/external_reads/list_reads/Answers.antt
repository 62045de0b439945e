use Rattle.std.proofs.Common.{◌≡◌, ℕ, length, ap, sym, ◌∙◌, arith}
use Rattle.std.proofs.lemmas.List.{length-map}
use Rattle.tcc_reads.specs.History.{entry_at}
use Rattle.tcc_graph.specs.Keys.{key_at}
use Rattle.tcc_survey.proofs.ListLemmas.{reads_more, reads_next}
use Rattle.tcc_survey.proofs.external_reads.list_reads.Goals as goal

pub loop-index-preserved : goal.loop-index-preserved
loop-index-preserved c =
    let h = c.args.graph.now in
    let reads = c.reads_at-read-items.result.now in
    let i = c.loop-index.index in
    rw c.in_ok-list_read.ensures
    (reads_more h c.args.reader i reads c.reads_at-read-items.ensures.value c.reads_at-read-items.ensures.within c.requires.below c.loop-index-test.true c.loop-index.all.items
    c.loop-index.invariant)

pub returns : goal.returns
returns c =
    let h = c.args.graph.now in
    let reads = c.reads_at-read-items.result.now in
    let long : length (entry_at h c.args.reader).reads ≡ length reads
    = ap length (sym c.reads_at-read-items.ensures.value) ∙ length-map reads (λ (read : ℕ × ℕ). (key_at h read.0, read.1)) in
    reads_next h c.args.reader c.loop-index.index c.loop-index.all.items (omega (arith, long, c.loop-index-test.false)) c.loop-index.invariant
