use Rattle.std.proofs.Common.{length, arith}
use Rattle.std.proofs.lemmas.Grind.{common_steps}
use Rattle.tcc_core.proofs.Joining.{IsBegun, search_begun, bounded_begun}
use Rattle.tcc_core.proofs.search.Search.begin.Goals.{In_ok-row}
use Rattle.tcc_core.proofs.search.Search.begin.Goals as goal

begun : (c : In_ok-row) → IsBegun (length c.args.prices.now.prices) c.args.start c.in_ok-row.row.items c.in_ok-frontier.frontier
begun c = record {
  below = c.requires;
  empty = record { long = grind (arith, common_steps); empty = λ v. grind (arith, common_steps) };
  frontier = rw c.count-count.ensures.value at c.in_ok-frontier.ensures;
}

pub invariant_of-result : goal.invariant_of-result
invariant_of-result c =
    bounded_begun (begun (goal.at.invariant_of-result c).In_ok-row) (omega (arith, c.count-count.ensures.few, c.count-count.ensures.value))

pub returns-clause-search : goal.returns-clause-search
returns-clause-search c = λ j priced. search_begun (begun (goal.at.returns-clause-search c).In_ok-row) j priced.prices.long
