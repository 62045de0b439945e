use Rattle.std.proofs.Common.{◌≡◌, refl, arith}
use Rattle.tcc_core.specs.Searches.{IsSearchOf}
use Rattle.tcc_core.proofs.Kept.{search_in}
use Rattle.tcc_core.proofs.Catching.{IsCaught, caught_opening, caught_again, bounded_caught, search_caught}
use Rattle.tcc_core.proofs.search.Search.catch_up.Goals.{Joined-self-gt0, then-self-gt0, else-self-gt0}
use Rattle.tcc_core.proofs.search.Search.catch_up.Goals as goal

-- nothing but the costs has changed
stays : (c : Joined-self-gt0) → c.if-self-gt0.self-inside ≡ record {
  start = c.self.inside.start;
  row = c.self.inside.row;
  frontier = record { costs = c.if-self-gt0.self-inside.frontier.costs; floor = c.self.inside.frontier.floor };
  limit = c.self.inside.limit;
}
stays c = elim c.if-self-gt0.branch [
  | then-self-gt0 w ↦ rw (w.self-inside-is, w.lead_on_again.ensures.floor, c.lead_on.ensures.floor) refl
  | else-self-gt0 w ↦ rw (w.self-inside-is, c.lead_on.ensures.floor) refl
]

caught : (c : Joined-self-gt0)
    → IsCaught c.args.prices.now (search_in c.self.inside) c.self.inside.frontier.floor c.args.cap c.if-self-gt0.self-inside.frontier.costs
caught c = elim c.if-self-gt0.branch [
  | then-self-gt0 w ↦ rw w.self-inside-is
      (caught_again c.self.invariant c.lead_on.ensures.lower (rw c.lead_on.ensures.floor at w.lead_on_again.ensures.lower) c.lead_on.ensures.offered
      (λ j priced. rw (w.deref.ensures.value, c.lead_on.ensures.floor) at (w.lead_on_again.ensures.offered j priced)))
  | else-self-gt0 w ↦ rw w.self-inside-is
      (caught_opening c.self.invariant (omega (arith, w.if-self-gt0.false)) c.lead_on.ensures.lower c.lead_on.ensures.offered)
]

pub invariant_of-self : goal.invariant_of-self
invariant_of-self c =
    let after = (goal.at.invariant_of-self c).Joined-self-gt0 in
    rw (stays after) (bounded_caught (caught after) c.self.invariant (omega (arith, rw (← c.self.view_is) at c.requires.above)))

pub returns-clause-search : goal.returns-clause-search
returns-clause-search c =
    let after = (goal.at.returns-clause-search c).Joined-self-gt0 in
    rw (stays after)
    (λ j s priced known.
    let is : IsSearchOf j s (search_in c.self.inside) = rw (← c.self.view_is) at known in
    search_caught (caught after) c.self.invariant priced is)
