use Rattle.std.proofs.Common.{rules, ◌≡◌, ◌<◌, ◌∙◌, ℕ, false, length, get_or, sym, arith, take_at}
use Rattle.tcc_reads.specs.History.{count, owner}
use Rattle.tcc_order.specs.private.CausalLinks.{Overwrites}
use Rattle.tcc_order.proofs.Finding.{none_derived, block_kept, block_passed}
use Rattle.tcc_order.proofs.causal_links.links_from.Goals as goal

pub loop-block-init : goal.loop-block-init
loop-block-init c =
    let h = c.args.sweep.now.graph.now in
    let kept = c.in_ok-kept.kept in
    let long : length kept ≡ count h = search rules in (
      search rules,
      long,
      none_derived (Overwrites h) kept c.in_ok-kept.ensures.none,
      (λ a b over some meant. absurd (omega (arith, meant.0, meant.1))),
      search rules,
      search rules,
    )

pub loop-block-preserved-then-not-is_needed : goal.loop-block-preserved-then-not-is_needed
loop-block-preserved-then-not-is_needed c =
    let h = c.args.sweep.now.graph.now in
    let inv = c.loop-block.invariant in
    let unmarked : get_or c.args.sweep.now.needed.items c.loop-block.block false ≡ false = rw c.deref.ensures.value at (c.is_needed.ensures c.if-not-is_needed.true) in (
      inv.0,
      inv.1,
      inv.2,
      block_passed h c.loop-block.kept c.args.sweep.now.needed.items c.requires.needed c.args.first c.loop-block.block unmarked inv.3,
      inv.4,
      inv.5,
    )

pub loop-block-preserved : goal.loop-block-preserved
loop-block-preserved c =
    let h = c.args.sweep.now.graph.now in
    let old = c.loop-block.kept in
    let inv = c.loop-block.invariant in
    let last = c.find_news.new.last in
    let kept_last : length last ≡ length c.loop-block.last.items = rw c.deref_mut.ensures.value at c.find_news.ensures.rows in
    let long_last : c.loop-block.last.len ≡ length c.loop-block.last.items = search rules in
    let heads = c.find_news.new.heads in
    let kept_heads : length heads ≡ length c.loop-block.heads.items = rw c.deref_mut-in-loop-block.ensures.value at c.find_news.ensures.heads in
    let long_heads : c.loop-block.heads.len ≡ length c.loop-block.heads.items = search rules in
    rw (
      take_at last _ c.loop-block.last.len (kept_last ∙ sym long_last),
      take_at heads _ c.loop-block.heads.len (kept_heads ∙ sym long_heads),
    ) (
      c.in_ok-readings.ensures.clocks.long,
      c.in_ok-kept-2.ensures.same ∙ inv.1,
      c.in_ok-kept-2.ensures.derived,
      block_kept h old _ c.args.first c.loop-block.block c.in_ok-kept-2.ensures.still inv.3
          c.in_ok-kept-2.ensures.enough,
      kept_last ∙ inv.4,
      kept_heads ∙ inv.5,
    )

pub returns : goal.returns
returns c =
    let h = c.args.sweep.now.graph.now in
    let inv = c.loop-block.invariant in
    let owned : (b : ℕ) → 0 < b → b < count h → owner h b < length c.sessions.result.now = c.sessions.ensures.owners in
    record {
      long = inv.1;
      derived = inv.2;
      enough = λ a b over some meant. inv.3 a b over some (omega (arith, meant.0), omega (arith, meant.1, owned b some over.1, c.loop-block-test.false, c.div_ceil-blocks.ensures));
    }

pub find_news-requires-clause-table : goal.find_news-requires-clause-table
find_news-requires-clause-table c = c.loop-block.invariant.0
