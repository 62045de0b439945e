use Rattle.std.proofs.Common.{◌≡◌, ◌+◌, ◌*◌, sym, subst, arith}
use Rattle.tcc_clocks.specs.declared.latest.TheConstants.{WIDE}
use Rattle.tcc_order.specs.private.CausalLinks.{AreLinksFrom, Overwrites}
use Rattle.tcc_order.specs.private.Sweeps.{Links, start_of}
use Rattle.tcc_order.proofs.Finding.{none_derived}
use Rattle.tcc_order.proofs.ShareLemmas.{joined_links}
use Rattle.tcc_order.proofs.shares.joined.Goals as goal

pub loop-part-init : goal.loop-part-init
loop-part-init c =
    let none : start_of c.args.shares.now 0 ≡ 0 = omega arith in
    record {
      long = omega (arith, c.in_ok-kept.ensures.long, c.count.ensures.value);
      derived = none_derived (Overwrites c.args.graph.now) c.in_ok-kept.kept c.in_ok-kept.ensures.none;
      enough = λ a b over some meant. absurd (omega (arith, meant.1, none));
    }

pub loop-part-preserved : goal.loop-part-preserved
loop-part-preserved c =
    let h = c.args.graph.now in
    let s = c.args.shares.now in
    let n = c.loop-part.part-index in
    let old = c.loop-part.kept in
    let part = c.part-item.result in
    let after : AreLinksFrom h (start_of s n * WIDE) (start_of s (n + 1) * WIDE) part
    = subst (λ (kept : Links). AreLinksFrom h (start_of s n * WIDE) (start_of s (n + 1) * WIDE) kept) (sym c.part-item.is)
    (c.requires.each n part (omega (arith, c.loop-part-test.true, c.requires.long))) in
    joined_links h old part _ c.in_ok-kept-2.ensures.joined 0 (start_of s n * WIDE) (start_of s (n + 1) * WIDE) (omega (arith, c.in_ok-kept-2.ensures.same, c.loop-part.invariant.long, c.count-in-loop-part.ensures.value)) c.loop-part.invariant after
