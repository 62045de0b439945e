use Rattle.std.proofs.Common.{rules, refl, arith, w64}
use Rattle.std.specs.Int.{trailing_zeros}
use Rattle.std.proofs.lemmas.Nat.Bits.{bit_at-lt, bit_at-trailing_zeros}
use Rattle.tcc_bits.proofs.BitLemmas.{cleared}
use Rattle.tcc_core.proofs.MarkedWays.{word_none, word_less, word_next, word_all}
use Rattle.tcc_core.proofs.marked.offer_word.Goals as goal

pub loop-left-init : goal.loop-left-init
loop-left-init c = record {
  within = λ i small. omega arith;
  floor = refl;
  offered = word_none c.args.word c.args.first c.args.cost c.args.queue.now.floor c.args.queue.now.costs;
}

pub loop-left-smaller : goal.loop-left-smaller
loop-left-smaller c =
    let lowest = bit_at-trailing_zeros w64 c.loop-left.left (omega arith) (search rules) in
    (cleared c.loop-left.left _ lowest.0 lowest.1).0

pub offer-requires : goal.offer-requires
offer-requires c =
    let lowest = bit_at-trailing_zeros w64 c.loop-left.left (omega arith) (search rules) in
    let t = trailing_zeros w64 c.loop-left.left in
    let inv = c.loop-left.invariant in
    let one = inv.within t lowest.0 in
    let below = c.requires.within t lowest.0 (omega (arith, one, lowest.1, bit_at-lt c.args.word t)) in
    omega (arith, below, inv.offered.lower.long)

pub loop-left-preserved : goal.loop-left-preserved
loop-left-preserved c =
    let lowest = bit_at-trailing_zeros w64 c.loop-left.left (omega arith) (search rules) in
    let t = trailing_zeros w64 c.loop-left.left in
    let inv = c.loop-left.invariant in
    let old = c.args.queue.now in
    let one = inv.within t lowest.0 in
    let below = c.requires.within t lowest.0 (omega (arith, one, lowest.1, bit_at-lt c.args.word t)) in
    rw (c.offer.ensures, inv.floor) (record {
      within = word_less c.args.word c.loop-left.left c.args.first c.args.cost t old.floor old.costs c.loop-left.queue.costs lowest.0 lowest.1 inv.within;
      floor = refl;
      offered =
          word_next c.args.word c.loop-left.left c.args.first c.args.cost t old.floor old.costs c.loop-left.queue.costs lowest.0 lowest.1 inv.within
          inv.offered below c.requires.window;
    })

pub returns : goal.returns
returns c =
    let inv = c.loop-left.invariant in
    record {
      floor = inv.floor;
      offered =
          word_all c.args.word c.loop-left.left c.args.first c.args.cost c.args.queue.now.floor c.args.queue.now.costs c.loop-left.queue.costs
          c.loop-left-test.false inv.offered;
    }
