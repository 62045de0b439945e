use Rattle.std.proofs.Common.{below_more, ℕ, List, inr, sym, ◌∙◌, arith}
use Rattle.std.specs.Prelude.{slice_index_or}
use Rattle.std.proofs.lemmas.Bool.{false≢true}
use Rattle.tcc_graph.specs.Keys.{key_at}
use Rattle.tcc_least.specs.Shapes.{IsReturn}
use Rattle.tcc_least.proofs.ReadLemmas.{AreReadsAt}
use Rattle.tcc_least.proofs.PlaceLemmas.{better_on, one_more}
use Rattle.tcc_least.proofs.ReturnLemmas.{read_at, through_read_all}
use Rattle.tcc_least.proofs.returning.through_read.Goals as goal
use Rattle.tcc_least.proofs.returning.through_read.Goals.{then-is_through, else-is_through}

pub loop-other-preserved : goal.loop-other-preserved
loop-other-preserved c =
    let h = c.args.graph.now in
    let reads = c.reads_at-other-items.result.now in
    let are : AreReadsAt h c.args.reader reads
    = record { value = c.reads_at-other-items.ensures.value; within = c.reads_at-other-items.ensures.within } in
    let k : ℕ = c.loop-other.other-index in
    let other : ℕ × ℕ = slice_index_or reads k (0, 0) in
    let a : ℕ = c.args.read.1 in
    let x : List ℕ = key_at h c.args.read.0 in
    let told = c.is_through.ensures c.args.reader c.requires.is in
    elim c.if-is_through.branch [
      | then-is_through w ↦
          let is = told.0 w.if-is_through.true in
          let back : IsReturn h other.1 a
          = ((x, c.args.reader, is.0, inr (key_at h other.0, read_at h c.args.reader reads are c.requires.within.2 k c.loop-other-test.true)), is.1) in
          rw w.least-is (
            better_on h c.args.best c.loop-other.least w.earlier-least.result c.loop-other.invariant.0
                (one_more h c.loop-other.least w.earlier-least.result other.1 a back w.earlier-least.ensures.either w.earlier-least.ensures.kept),
            below_more _ _ (λ i less both. w.earlier-least.ensures.kept _ _ (c.loop-other.invariant.1 i less both)) (λ both. w.earlier-least.ensures.here),
          )
      | else-is_through w ↦
          rw w.least-is (c.loop-other.invariant.0, below_more _ _ c.loop-other.invariant.1 (λ both. absurd (false≢true (sym w.if-is_through.false ∙ told.1 both))))
    ]

pub returns-clause-found : goal.returns-clause-found
returns-clause-found c =
    let reads = c.reads_at-other-items.result.now in
    let are : AreReadsAt c.args.graph.now c.args.reader reads
    = record { value = c.reads_at-other-items.ensures.value; within = c.reads_at-other-items.ensures.within } in
    through_read_all c.args.graph.now c.args.reader reads are c.requires.within.2 c.args.read.1 (key_at c.args.graph.now c.args.read.0)
    c.loop-other.other-index c.loop-other.least (omega (arith, c.loop-other-test.false)) c.loop-other.invariant.1
