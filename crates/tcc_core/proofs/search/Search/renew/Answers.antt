use Rattle.std.proofs.Common.{rules, ◌≡◌, length, arith, take_at, sym, ◌∙◌}
use Rattle.tcc_core.proofs.Joining.{IsBegun, joined_reached, search_begun, bounded_begun}
use Rattle.tcc_core.proofs.search.Search.renew.Goals.{After-clear}
use Rattle.tcc_core.proofs.search.Search.renew.Goals as goal

there : (c : After-clear) → length c.self.inside.row.items ≡ length c.args.prices.now.prices
there c = rw (← c.self.view_is) at c.requires.long

begun : (c : After-clear) → IsBegun (length c.args.prices.now.prices) c.args.start c.empty.new.row c.clear.new.self
begun c = record {
  below = c.requires.start;
  empty = rw (c.deref_mut.ensures.value, there c) at c.empty.ensures;
  frontier = rw (c.self.invariant.long, there c) at c.clear.ensures;
}

-- the row is as long as it was
whole : (c : After-clear) → length c.empty.new.row ≡ c.self.inside.row.len
whole c =
    let long : c.self.inside.row.len ≡ length c.self.inside.row.items = search rules in
    (begun c).empty.long ∙ sym (there c) ∙ sym long

pub empty-requires-clause-each : goal.empty-requires-clause-each
empty-requires-clause-each c = rw c.deref_mut.ensures.value (joined_reached c.self.invariant c.reached.result.now c.reached.ensures.each)

pub invariant_of-self : goal.invariant_of-self
invariant_of-self c =
    let after = (goal.at.invariant_of-self c).After-clear in
    rw (take_at c.empty.new.row _ c.self.inside.row.len (whole after))
    (bounded_begun (begun after) (omega (arith, c.self.invariant.few, there after)))

pub returns-clause-empty : goal.returns-clause-empty
returns-clause-empty c =
    let after = (goal.at.returns-clause-empty c).After-clear in
    rw (take_at c.empty.new.row _ c.self.inside.row.len (whole after)) (begun after).empty

pub returns-clause-search : goal.returns-clause-search
returns-clause-search c =
    let after = (goal.at.returns-clause-search c).After-clear in
    rw (take_at c.empty.new.row _ c.self.inside.row.len (whole after)) (λ j priced. search_begun (begun after) j priced.prices.long)
