use Rattle.std.proofs.Common.{rules, slice_index, refl, sym, ◌∙◌, arith}
use Rattle.tcc_core.specs.Searches.{IsSearchOf}
use Rattle.tcc_core.proofs.Offered.{lower_same}
use Rattle.tcc_core.proofs.Kept.{search_in}
use Rattle.tcc_core.proofs.Joining.{IsJoining, nothing_near, joins_small, bounded_after, nearest_joins, start_joins, led_on, led_on_start, search_after}
use Rattle.tcc_core.proofs.search.Search.join_nearest.Goals.{In-Some}
use Rattle.tcc_core.proofs.search.Search.join_nearest.Goals as goal

joining : (c : In-Some) → IsJoining (search_in c.self.inside) c.self.inside.frontier.floor c.args.cap c.in-Some.next
joining c = record {
  bounds = c.self.invariant;
  next = c.in-Some.ensures.some;
  known = rw (← c.self.view_is) at c.requires.known;
  few = search rules;
}

pub returns-in_default-clause-settled : goal.returns-in_default-clause-settled
returns-in_default-clause-settled c =
    rw (← c.self.view_is)
    (λ j s priced is. (
      refl,
      refl,
      nothing_near c.self.invariant is c.args.cap (rw (← c.self.view_is) at c.requires.known) (search rules) c.in_default.ensures.none,
    ))

pub invariant_of-self : goal.invariant_of-self
invariant_of-self c =
    let next = joining (goal.at.invariant_of-self c).In-Some in
    let s = c.settle-distance.ensures in
    rw (s.costs, s.floor, s.cost) (bounded_after next (lower_same _ _))

pub returns-then-next-start-clause-search : goal.returns-then-next-start-clause-search
returns-then-next-start-clause-search c =
    let next = joining (goal.at.returns-then-next-start-clause-search c).In-Some in
    rw (c.settle-distance.ensures.costs, c.settle-distance.ensures.cost)
    (λ j s priced known.
    let is : IsSearchOf j s (search_in c.self.inside) = rw (← c.self.view_is) at known in
    search_after next is priced (led_on_start next is priced (c.if-next-start.true ∙ is.start)))

pub returns-then-next-start-clause-settled : goal.returns-then-next-start-clause-settled
returns-then-next-start-clause-settled c =
    let next = joining (goal.at.returns-then-next-start-clause-settled c).In-Some in
    rw (c.settle-distance.ensures.cost, ← c.self.view_is) (λ j s priced is. start_joins next is c.if-next-start.true)

pub lead_on-requires-clause-small : goal.lead_on-requires-clause-small
lead_on-requires-clause-small c = omega (arith, c.settle-distance.ensures.floor, joins_small (joining (goal.at.lead_on-requires-clause-small c).In-Some))

pub invariant_of-self-2 : goal.invariant_of-self-2
invariant_of-self-2 c =
    let next = joining (goal.at.invariant_of-self-2 c).In-Some in
    let s = c.settle-distance.ensures in
    rw (c.lead_on.ensures.floor, s.floor, s.cost) (bounded_after next (rw (s.costs, s.floor) at c.lead_on.ensures.lower))

pub returns-clause-search : goal.returns-clause-search
returns-clause-search c =
    let next = joining (goal.at.returns-clause-search c).In-Some in
    let settled = c.settle-distance.ensures in
    rw settled.cost
    (λ j s priced known.
    let is : IsSearchOf j s (search_in c.self.inside) = rw (← c.self.view_is) at known in
    search_after next is priced (led_on next is priced (rw (settled.costs, settled.floor, settled.cost) at (c.lead_on.ensures.offered j priced))))

pub returns-clause-settled : goal.returns-clause-settled
returns-clause-settled c =
    let next = joining (goal.at.returns-clause-settled c).In-Some in
    rw (c.settle-distance.ensures.cost, ← c.self.view_is)
    (λ j s priced is. (
      c.in-Some.next,
      slice_index c.self.inside.frontier.costs c.in-Some.next,
      λ here. c.if-next-start.false (here ∙ sym is.start),
      nearest_joins next is,
    ))
