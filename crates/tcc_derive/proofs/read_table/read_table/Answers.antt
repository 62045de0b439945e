use Rattle.std.proofs.Common.{rules, ◌≡◌, [], ◌∷◌, ◌++◌, length, arith}
use Rattle.tcc_graph.specs.Keys.{keys}
use Rattle.tcc_near.proofs.RowLemmas.{rows_pushed}
use Rattle.tcc_derive.specs.private.KeyTables.{AreReadsAt}
use Rattle.tcc_derive.proofs.read_table.read_table.Goals as goal

pub loop-key_index-preserved : goal.loop-key_index-preserved
loop-key_index-preserved c =
    let pushed : c.push.new.self.items ≡ c.loop-key_index.reads.items ++ c.in_ok-reads_at.field-0 ∷ [] = search rules in
    rw pushed (rows_pushed (AreReadsAt c.args.graph.now) c.loop-key_index.reads.items c.in_ok-reads_at.field-0 c.loop-key_index.key_index
    c.loop-key_index.invariant c.in_ok-reads_at.ensures)

pub returns : goal.returns
returns c =
    let inv = c.loop-key_index.invariant in
    let whole : c.loop-key_index.key_index ≡ length (keys c.args.graph.now) = search rules in
    record { long = omega (arith, inv.0, whole); each = λ k l. inv.1 k [] (omega (arith, l, whole)) }
