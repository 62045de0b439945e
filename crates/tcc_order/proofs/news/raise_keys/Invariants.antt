use Rattle.std.proofs.Common.{◌≡◌, length, take}
use Rattle.tcc_order.specs.private.News.{AreRaised, HasHeads, KeepHeads}
use Rattle.tcc_order.proofs.news.raise_keys.Given as goal

abbrev pub invariant-loop-key_index : goal.invariant-loop-key_index
invariant-loop-key_index l =
    (length l.last ≡ length l.initial.last)
    × (length l.heads ≡ length l.initial.heads)
    × AreRaised (take l.key_index-index l.key_indices) l.session l.c l.initial.last l.last
    × KeepHeads l.block.graph.now l.block.from l.block.floor l.initial.last l.initial.heads l.heads
    × HasHeads l.block.graph.now l.block.floor l.c (take l.key_index-index l.key_indices) l.heads
