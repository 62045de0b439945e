use Rattle.std.proofs.Common.{below_more, ℕ, sym, ◌∙◌, arith}
use Rattle.std.proofs.lemmas.Bool.{false≢true}
use Rattle.tcc_least.proofs.ReadLemmas.{AreReadsAt}
use Rattle.tcc_least.proofs.PlaceLemmas.{one_more}
use Rattle.tcc_least.proofs.ReturnLemmas.{initial_return, initial_all}
use Rattle.tcc_least.proofs.returning.initial.Goals as goal
use Rattle.tcc_least.proofs.returning.initial.Goals.{then-is_source, else-is_source}

pub loop-read-preserved : goal.loop-read-preserved
loop-read-preserved c =
    let h = c.args.graph.now in
    let reads = c.reads_at-read-items.result.now in
    let are : AreReadsAt h 0 reads = record { value = c.reads_at-read-items.ensures.value; within = c.reads_at-read-items.ensures.within } in
    let k : ℕ = c.loop-read.read-index in
    elim c.if-is_source.branch [
      | then-is_source w ↦
          let back = initial_return h reads are c.requires k c.loop-read-test.true (c.is_source.ensures.0 w.if-is_source.true) in
          let more = one_more h c.loop-read.least w.earlier-least.result 0 _ back w.earlier-least.ensures.either w.earlier-least.ensures.kept in
          rw w.least-is (
            more.sound c.loop-read.invariant.0,
            below_more _ _ (λ i less is. w.earlier-least.ensures.kept _ _ (c.loop-read.invariant.1 i less is)) (λ is. w.earlier-least.ensures.here),
          )
      | else-is_source w ↦
          rw w.least-is (
            c.loop-read.invariant.0,
            below_more _ _ c.loop-read.invariant.1 (λ is. absurd (false≢true (sym w.if-is_source.false ∙ c.is_source.ensures.1 is))),
          )
    ]

pub returns-clause-found : goal.returns-clause-found
returns-clause-found c =
    let reads = c.reads_at-read-items.result.now in
    let are : AreReadsAt c.args.graph.now 0 reads = record { value = c.reads_at-read-items.ensures.value; within = c.reads_at-read-items.ensures.within } in
    initial_all c.args.graph.now reads are c.requires c.loop-read.read-index c.loop-read.least (omega (arith, c.loop-read-test.false)) c.loop-read.invariant.1
