use Rattle.std.proofs.Common.{◌≡◌, true, sym, ◌∙◌, arith}
use Rattle.std.proofs.lemmas.Bool.{false≢true}
use Rattle.tcc_derive.specs.private.LeadingBack.{stands_at}
use Rattle.tcc_least.proofs.ReadLemmas.{AreReadsAt}
use Rattle.tcc_first.proofs.LastSteps.{starts_none, starts_more, starts_same, all_starts}
use Rattle.tcc_first.proofs.first_walks.lowest_start.Goals.{then-stands_at, else-stands_at}
use Rattle.tcc_first.proofs.first_walks.lowest_start.Goals as goal

pub loop-read-init : goal.loop-read-init
loop-read-init c =
    starts_none c.args.graph.now (λ u. stands_at c.args.lengths.now c.args.from u c.args.left ≡ true) c.args.end c.reads_at-read-items.result.now
    c.lowest_before-lowest.result c.lowest_before-lowest.ensures

pub loop-read-preserved : goal.loop-read-preserved
loop-read-preserved c =
    let h = c.args.graph.now in
    let reads = c.reads_at-read-items.result.now in
    elim c.if-stands_at.branch [
      | then-stands_at w ↦ rw w.lowest-is
          (starts_more h (λ u. stands_at c.args.lengths.now c.args.from u c.args.left ≡ true) c.args.end reads c.loop-read.read-index
          (sym c.stands_at.ensures ∙ w.if-stands_at.true) c.loop-read.lowest w.lower-lowest.result w.lower-lowest.ensures c.loop-read.invariant)
      | else-stands_at w ↦ rw w.lowest-is
          (starts_same h (λ u. stands_at c.args.lengths.now c.args.from u c.args.left ≡ true) c.args.end reads c.loop-read.read-index
          (λ is. false≢true (sym w.if-stands_at.false ∙ (c.stands_at.ensures ∙ is))) c.loop-read.lowest c.loop-read.invariant)
    ]

pub returns : goal.returns
returns c =
    let reads = c.reads_at-read-items.result.now in
    let are : AreReadsAt c.args.graph.now c.args.end reads = record { value = c.reads_at-read-items.ensures.value; within = c.reads_at-read-items.ensures.within } in
    all_starts c.args.graph.now (λ u. stands_at c.args.lengths.now c.args.from u c.args.left ≡ true) c.args.end reads are c.requires.end
    c.loop-read.read-index (omega (arith, c.loop-read-test.false)) (omega (arith, c.loop-read-test.false)) c.loop-read.lowest c.loop-read.invariant
