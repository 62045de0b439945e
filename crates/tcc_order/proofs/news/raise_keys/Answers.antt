use Rattle.std.proofs.Common.{rules, ◌≡◌, ◌<◌, ◌%◌, ◌∙◌, ℕ, ap, length, get_or, refl, sym, slice_index, arith}
use Rattle.std.proofs.lemmas.List.{take_all, length-set}
use Rattle.tcc_graph.specs.Tables.{row_of}
use Rattle.tcc_order.specs.private.News.{AreRaised, HasHeads, KeepsHead}
use Rattle.tcc_order.proofs.NewsLemmas.{raised_none, raised_more, heads_none, heads_kept, heads_own}
use Rattle.tcc_order.proofs.news.raise_keys.Goals as goal

pub loop-key_index-init : goal.loop-key_index-init
loop-key_index-init c =
    let none = heads_none c.args.block.now.graph.now c.args.block.now.from c.args.block.now.floor c.args.c c.args.last.now c.args.heads.now c.args.key_indices.now in (
      refl,
      refl,
      raised_none c.args.key_indices.now c.args.session c.args.c c.args.last.now,
      none.0,
      none.1,
    )

pub loop-key_index-preserved : goal.loop-key_index-preserved
loop-key_index-preserved c =
    let h = c.args.block.now.graph.now in
    let mid = c.loop-key_index.last in
    let heads = c.loop-key_index.heads in
    let keys = c.args.key_indices.now in
    let i = c.loop-key_index.key_index-index in
    let inv = c.loop-key_index.invariant in
    let slot : ℕ = get_or keys i 0 % length mid in
    let z = c.head_after.result in
    let low : slot < length mid = search rules in
    let wide : c.args.session < length (row_of mid slot) = search rules in
    let beside : length heads ≡ length mid = omega (arith, inv.0, inv.1, c.requires.beside) in
    let is_slot : slot ≡ get_or keys i 0 % length heads = ap (λ (n : ℕ). get_or keys i 0 % n) (sym beside) in
    let inside : slot < length heads = omega (arith, low, beside) in
    let kept : KeepsHead h c.args.block.now.from c.args.block.now.floor (row_of mid slot) (slice_index heads slot) z = c.head_after.ensures.kept in (
      length-set mid slot _ ∙ inv.0,
      length-set heads slot z ∙ inv.1,
      rw c.max.ensures (raised_more keys i c.args.session c.args.c c.args.last.now mid c.loop-key_index-test.true slot refl low wide inv.2),
      heads_kept h c.args.block.now.from c.args.block.now.floor c.args.c keys i c.args.last.now mid c.args.heads.now heads c.loop-key_index-test.true slot z is_slot inside inv.2.0
          inv.3 inv.4 c.head_after.ensures.own kept,
      heads_own h c.args.block.now.from c.args.block.now.floor c.args.c keys i c.args.last.now mid c.args.heads.now heads c.loop-key_index-test.true slot z is_slot inside inv.2.0
          inv.3 inv.4 c.head_after.ensures.own kept,
    )

pub returns-clause-raised : goal.returns-clause-raised
returns-clause-raised c =
    let raised : AreRaised c.args.key_indices.now c.args.session c.args.c c.args.last.now c.loop-key_index.last
    = rw (take_all c.loop-key_index.key_index-index c.args.key_indices.now c.loop-key_index-test.false) at c.loop-key_index.invariant.2 in
    raised

pub returns-clause-kept : goal.returns-clause-kept
returns-clause-kept c = c.loop-key_index.invariant.3

pub returns-clause-own : goal.returns-clause-own
returns-clause-own c =
    let own : HasHeads c.args.block.now.graph.now c.args.block.now.floor c.args.c c.args.key_indices.now c.loop-key_index.heads
    = rw (take_all c.loop-key_index.key_index-index c.args.key_indices.now c.loop-key_index-test.false) at c.loop-key_index.invariant.4 in
    own
