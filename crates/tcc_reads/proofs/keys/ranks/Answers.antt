use Rattle.std.proofs.Common.{ℕ, List, sym, subst, ◌∙◌}
use Rattle.tcc_txn.specs.Symbols.{IsNumber}
use Rattle.tcc_reads.proofs.KeyNumbers.{listed_there, one_behind}
use Rattle.tcc_reads.proofs.Indices.{stands_at}
use Rattle.tcc_reads.proofs.keys.ranks.Goals as goal

pub index-requires : goal.index-requires
index-requires c =
    c.requires c.name-item.result ∙ listed_there c.args.names.now c.loop-name.name-index c.name-item.result c.loop-name-test.true c.name-item.is

pub loop-name-preserved : goal.loop-name-preserved
loop-name-preserved c =
    let x : List ℕ = c.name-item.result in
    let there = c.requires x ∙ listed_there c.args.names.now c.loop-name.name-index x c.loop-name-test.true c.name-item.is in
    rw c.in_ok-push.ensures.items
    (one_behind c.args.keys.now c.loop-name.ranks.items c.args.names.now c.loop-name.name-index x c.index.result c.loop-name-test.true c.name-item.is
    (subst (IsNumber c.args.keys.now x) (sym c.index.ensures) (stands_at c.args.keys.now x there)) c.loop-name.invariant)
