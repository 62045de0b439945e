use Rattle.std.proofs.Common.{rules, ◌≡◌, ◌<◌, ◌+◌, ◌*◌, ◌^◌, slice_index, arith}
use Rattle.tcc_bits.proofs.BitLemmas.{joined_all, fresh_more, fresh_whole}
use Rattle.tcc_bits.proofs.Ascending.{ascending_below}
use Rattle.tcc_bits.proofs.bits.take_fresh.Goals as goal

pub loop-place-preserved : goal.loop-place-preserved
loop-place-preserved c =
    let inv = c.loop-place.invariant in
    let n = c.loop-place.place in
    let seen = c.args.seen.now in
    let kept : slice_index c.loop-place.seen n ≡ slice_index seen n = inv.2 n (omega arith) in
    let small : slice_index seen n < 2 ^ 64 = rw (← kept) (search rules) in (
      search rules,
      search rules,
      search rules,
      fresh_more seen c.args.marks.now c.loop-place.fresh.items c.push_marked.new.numbers.items n small inv.3
          (rw (← kept) c.in_ok-push_marked.ensures.each),
      ascending_below (n * 64 + 64) (64 * (n + 1)) c.push_marked.new.numbers.items (omega arith)
          (c.in_ok-push_marked.ensures.ascending (ascending_below (64 * n) (n * 64) c.loop-place.fresh.items (omega arith) inv.4)),
    )

pub returns-clause-seen : goal.returns-clause-seen
returns-clause-seen c =
    let inv = c.loop-place.invariant in
    joined_all c.args.seen.now c.args.marks.now c.loop-place.seen inv.0 c.requires.same (λ k inside. inv.1 k (omega (arith, inv.0)))

pub returns-clause-fresh : goal.returns-clause-fresh
returns-clause-fresh c =
    let inv = c.loop-place.invariant in
    fresh_whole c.args.seen.now c.args.marks.now c.loop-place.fresh.items c.loop-place.place (omega (arith, inv.0, c.requires.same)) inv.3
