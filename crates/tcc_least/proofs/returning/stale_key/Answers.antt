use Rattle.std.proofs.Common.{below_more, ℕ, List, inl, inr, sym, ◌∙◌, arith}
use Rattle.std.specs.Prelude.{slice_index_or}
use Rattle.std.proofs.lemmas.Bool.{false≢true}
use Rattle.tcc_graph.specs.Keys.{key_at}
use Rattle.tcc_graph.specs.Links.{MayContradict}
use Rattle.tcc_least.specs.Shapes.{IsReturn}
use Rattle.tcc_least.proofs.ReadLemmas.{AreReadsAt}
use Rattle.tcc_least.proofs.PlaceLemmas.{better_on, one_more}
use Rattle.tcc_least.proofs.ReturnLemmas.{read_at, stale_key_all}
use Rattle.tcc_least.proofs.returning.stale_key.Goals as goal
use Rattle.tcc_least.proofs.returning.stale_key.Goals.{then-is_read_later, else-is_read_later}

pub loop-read-preserved : goal.loop-read-preserved
loop-read-preserved c =
    let h = c.args.graph.now in
    let b : ℕ = c.args.writer in
    let reads = c.reads_at-read-items.result.now in
    let are : AreReadsAt h b reads = record { value = c.reads_at-read-items.ensures.value; within = c.reads_at-read-items.ensures.within } in
    let k : ℕ = c.loop-read.read-index in
    let read : ℕ × ℕ = slice_index_or reads k (0, 0) in
    let x : List ℕ = key_at h c.args.key_index in
    let pairs = c.readings_of.ensures in
    elim c.if-is_read_later.branch [
      | then-is_read_later w ↦
          let (other, (d, there, past, below)) = c.is_read_later.ensures.0 w.if-is_read_later.true in
          let against : MayContradict h b read.1 x d = (other, (pairs.each read.1 d).0 there, c.requires.key.1) in
          let back : IsReturn h b read.1
          = ((x, d, against, inl ((c.requires.session d).1 (past, below))), inr (key_at h read.0, read_at h b reads are c.requires.writer.2 k c.loop-read-test.true)) in
          rw w.least-is (
            better_on h c.args.best c.loop-read.least w.earlier-least.result c.loop-read.invariant.0
                (one_more h c.loop-read.least w.earlier-least.result b read.1 back w.earlier-least.ensures.either w.earlier-least.ensures.kept),
            below_more _ _ (λ i less d against pair. w.earlier-least.ensures.kept _ _ (c.loop-read.invariant.1 i less d against pair))
                (λ d against pair. w.earlier-least.ensures.here),
          )
      | else-is_read_later w ↦
          rw w.least-is (
            c.loop-read.invariant.0,
            below_more _ _ c.loop-read.invariant.1
                (λ d against pair.
                let within = (c.requires.session d).0 pair in
                absurd (false≢true (
                sym w.if-is_read_later.false
                ∙ c.is_read_later.ensures.1 (against.0, (d, (pairs.each read.1 d).1 against.1, within.0, within.1))))),
          )
    ]

pub returns-clause-found : goal.returns-clause-found
returns-clause-found c =
    let reads = c.reads_at-read-items.result.now in
    let are : AreReadsAt c.args.graph.now c.args.writer reads
    = record { value = c.reads_at-read-items.ensures.value; within = c.reads_at-read-items.ensures.within } in
    stale_key_all c.args.graph.now c.args.writer reads are c.requires.writer.2 (key_at c.args.graph.now c.args.key_index) c.loop-read.read-index
    c.loop-read.least (omega (arith, c.loop-read-test.false)) c.loop-read.invariant.1
