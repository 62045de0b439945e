-- By pairs.
use Rattle.std.proofs.Common.{Bool, sym, subst}
use Rattle.std.specs.Prelude.{IfOk, IsTrue}
use Rattle.tcc_graph.specs.declared.level.Level.{Level}
use Rattle.tcc_check.specs.private.Latest.{AreReadsKept}
use Rattle.tcc_check.proofs.latest.is_reader_right.Goals as goal

pub returns-in-Atomic : goal.returns-in-Atomic
returns-in-Atomic c =
    subst (λ (l : Level). IfOk c.are_reads_kept_by_pairs.result
    (λ (kept : Bool). IsTrue kept → AreReadsKept c.args.graph.now l c.args.positions.now c.args.clocks.now c.args.c)) (sym c.in-Atomic.is)
    (c.are_reads_kept_by_pairs.ensures c.args.clocks.now)
