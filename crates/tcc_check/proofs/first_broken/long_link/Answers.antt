-- The lesser of both.
use Rattle.std.proofs.Common.{ℕ, subst}
use Rattle.tcc_reads.specs.History.{count}
use Rattle.tcc_check.specs.private.Searches.{IsFoundBelow, IsLongPair, IsOvershot}
use Rattle.tcc_check.proofs.Found.{found_either}
use Rattle.tcc_check.proofs.first_broken.long_link.Goals as goal

pub returns : goal.returns
returns c =
    let h = c.args.graph.now in
    let row = c.args.row.now in
    let others = c.args.others.now in
    let over : IsFoundBelow (count h) (IsOvershot others row c.args.low 0) c.overshot.result =
    subst (λ (n : ℕ). IsFoundBelow n (IsOvershot others row c.args.low 0) c.overshot.result) c.requires.long c.overshot.ensures in
    rw c.lesser.ensures (found_either (count h) (IsLongPair h row c.args.low c.args.start) (IsOvershot others row c.args.low 0) c.long_pair-pair.result
    c.overshot.result c.long_pair-pair.ensures over)
