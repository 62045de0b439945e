use Rattle.std.proofs.Common.{◌≡◌, ℕ, List, subst, arith}
use Rattle.tcc_graph.specs.Levels.{Judged, judged}
use Rattle.tcc_graph.specs.Tables.{row_of}
use Rattle.tcc_clocks.specs.Clocks.{AreLatestOf, IsBefore}
use Rattle.tcc_survey.proofs.ScanLemmas.{kept_least, none_least, same_none}
use Rattle.tcc_survey.proofs.scanning.ReadSweep.is_settled.Goals as goal

pub returns-then-known-gt0-clause-yes : goal.returns-then-known-gt0-clause-yes
returns-then-known-gt0-clause-yes c = λ t.
    kept_least (judged c.args.self.now.block.graph.now c.args.self.now.level) c.requires.block.numbered c.args.self.now.block.from c.args.reading c.args.known
    c.requires.known (omega (arith, c.if-known-gt0.true))

pub returns-clause-yes : goal.returns-clause-yes
returns-clause-yes c = λ t.
    let h = c.args.self.now.block.graph.now in
    let j : Judged = judged h c.args.self.now.level in
    let r = c.args.reading in
    let from = c.args.self.now.block.from in
    let rows = c.args.self.now.clocks.now in
    let source : AreLatestOf h (IsBefore h r.source) from (row_of rows r.source) = c.requires.block.clock.each r.source c.requires.read.pair.0 c.requires.read.pair.0 in
    let reader : AreLatestOf h (IsBefore h r.reader) from (row_of rows r.reader) = c.requires.block.clock.each r.reader c.requires.read.pair.1 c.requires.read.pair.1 in
    let same : row_of rows r.source ≡ row_of rows r.reader = c.are_same.ensures t in
    let moved : AreLatestOf h (IsBefore h r.source) from (row_of rows r.reader)
    = subst (λ (row : List ℕ). AreLatestOf h (IsBefore h r.source) from row) same source in
    none_least j from r c.args.known c.requires.known
    (same_none j c.requires.block.numbered c.requires.block.acyclic from r c.requires.read (row_of rows r.reader) reader moved)
