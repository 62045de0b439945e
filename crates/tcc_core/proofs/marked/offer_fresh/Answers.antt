use Rattle.std.proofs.Common.{rules, ◌<◌, ◌^◌, length-set, refl, slice_index}
use Rattle.tcc_bits.proofs.BitLemmas.{fresh_bits}
use Rattle.tcc_core.proofs.MarkedWays.{fresh_offered, fresh_met, fresh_none}
use Rattle.tcc_core.proofs.marked.offer_fresh.Goals as goal

pub offer_word-requires-clause-within : goal.offer_word-requires-clause-within
offer_word-requires-clause-within c = λ i small one.
    let few : slice_index c.args.met.now c.args.index < 2 ^ 64 = search rules in
    c.requires.within i small ((fresh_bits c.args.word (slice_index c.args.met.now c.args.index) i few small).0 one).0

pub returns-then-fresh-ne0 : goal.returns-then-fresh-ne0
returns-then-fresh-ne0 c =
    let met = c.args.met.now in
    let few : slice_index met c.args.index < 2 ^ 64 = search rules in
    let is = c.offer_word.ensures.offered in
    record {
      same = length-set met c.args.index _;
      floor = c.offer_word.ensures.floor;
      met = fresh_met c.args.word c.args.index c.args.cost _ met _ _ c.requires.above few c.requires.met is c.requires.index;
      offered = fresh_offered c.args.word c.args.index c.args.cost _ met _ _ c.requires.above few c.requires.met is;
    }

pub returns-else-fresh-ne0 : goal.returns-else-fresh-ne0
returns-else-fresh-ne0 c =
    let met = c.args.met.now in
    let few : slice_index met c.args.index < 2 ^ 64 = search rules in
    record {
      same = refl;
      floor = refl;
      met = c.requires.met;
      offered = fresh_none c.args.word c.args.index c.args.cost _ met _ c.requires.above few c.requires.met c.if-fresh-ne0.false;
    }
