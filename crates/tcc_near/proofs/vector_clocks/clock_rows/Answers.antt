use Rattle.std.proofs.Common.{rules, ◌≡◌, ◌∷◌, ◌++◌, [], map, slice_index, ◌∙◌, arith}
use Rattle.tcc_reads.specs.History.{count}
use Rattle.tcc_near.proofs.ClockLemmas.{clocks_from_lasts}
use Rattle.tcc_near.proofs.RowLemmas.{rows_pushed}
use Rattle.tcc_near.proofs.vector_clocks.clock_rows.Goals as goal

pub loop-t-preserved : goal.loop-t-preserved
loop-t-preserved c =
    let pushed : c.push.new.self.items ≡ c.loop-t.rows.items ++ c.in_ok-column.field-0 ∷ [] = search rules in
    rw pushed (rows_pushed (λ i row. row ≡ map (λ row. slice_index row i) c.args.lasts.now) c.loop-t.rows.items c.in_ok-column.field-0 c.loop-t.t
    c.loop-t.invariant c.in_ok-column.ensures)

pub returns : goal.returns
returns c =
    let inv = c.loop-t.invariant in
    let all : c.loop-t.t ≡ count c.args.graph.now = omega (arith, c.loop-t-test.false, c.loop-t.auto.t-end, c.count-t-end.ensures.value) in
    clocks_from_lasts c.args.graph.now c.args.lasts.now c.loop-t.rows.items c.requires (inv.0 ∙ all) (λ t d below. inv.1 t d (omega (arith, all)))
