use Rattle.std.proofs.Common.{ℕ, List, ◌∙◌, inl, slice_index, subst, sym}
use Rattle.std.proofs.lemmas.Bool.{leb-true}
use Rattle.tcc_watch.specs.private.Rows.{last_in}
use Rattle.tcc_watch.specs.private.Links.{IsLastWithin, NoneWithin, IsSettled, IsLinkedIn}
use Rattle.tcc_watch.proofs.Settled.{places_rise, all_passed, none_reaches, all_before, can_settle, settled_all, if_ok}
use Rattle.tcc_watch.proofs.linking.link_session.Goals as goal

pub returns-then-are_before : goal.returns-then-are_before
returns-then-are_before g c = (
  c.requires.reading.closure,
  (λ u v at_u at_v up. up),
  all_passed g.read c.args.closure.now c.args.stands.now c.args.members.now c.args.writers.now c.args.clock.now c.args.a c.requires
      (leb-true c.args.writers.now.last (last_in c.args.closure.now c.args.a c.args.writers.now.session)
      (sym c.are_before.ensures ∙ c.if-are_before.true)),
)

pub last_within-requires : goal.last_within-requires
last_within-requires g c =
    rw c.as_slice.ensures
    (places_rise g.read c.args.closure.now c.args.stands.now c.args.members.now c.args.writers.now c.args.clock.now c.args.a c.requires)

pub returns-in-None : goal.returns-in-None
returns-in-None g c =
    let w = c.args.writers.now in
    let first : NoneWithin c.args.stands.now w.numbers c.at.result = subst (λ (z : List ℕ). NoneWithin c.args.stands.now z c.at.result) c.as_slice.ensures c.in-None.ensures in
    let none : NoneWithin c.args.stands.now w.numbers (slice_index c.args.clock.now w.session)
    = subst (λ (z : ℕ). NoneWithin c.args.stands.now w.numbers z) c.at.ensures first in (
      c.requires.reading.closure,
      (λ u v at_u at_v up. up),
      none_reaches g.read c.args.closure.now c.args.stands.now c.args.members.now w c.args.clock.now c.args.a c.requires none,
    )

pub returns-then-b-a : goal.returns-then-b-a
returns-then-b-a g c =
    let w = c.args.writers.now in
    let first : IsLastWithin c.args.stands.now w.numbers c.at.result c.in-Some.b
    = subst (λ (z : List ℕ). IsLastWithin c.args.stands.now z c.at.result c.in-Some.b) c.as_slice.ensures c.in-Some.ensures in
    let last : IsLastWithin c.args.stands.now w.numbers (slice_index c.args.clock.now w.session) c.in-Some.b
    = subst (λ (z : ℕ). IsLastWithin c.args.stands.now w.numbers z c.in-Some.b) c.at.ensures first in (
      c.requires.reading.closure,
      (λ u v at_u at_v up. up),
      all_before g.read c.args.closure.now c.args.stands.now c.args.members.now w c.args.clock.now c.args.a c.requires c.in-Some.b last c.args.closure.now
          c.requires.reading.closure (inl c.if-b-a.true),
    )

pub settle-requires : goal.settle-requires
settle-requires g c =
    let w = c.args.writers.now in
    let first : IsLastWithin c.args.stands.now w.numbers c.at.result c.in-Some.b
    = subst (λ (z : List ℕ). IsLastWithin c.args.stands.now z c.at.result c.in-Some.b) c.as_slice.ensures c.in-Some.ensures in
    let last : IsLastWithin c.args.stands.now w.numbers (slice_index c.args.clock.now w.session) c.in-Some.b
    = subst (λ (z : ℕ). IsLastWithin c.args.stands.now w.numbers z c.in-Some.b) c.at.ensures first in
    can_settle g.read c.args.closure.now c.args.stands.now c.args.members.now w c.args.clock.now c.args.a c.requires c.in-Some.b last c.if-b-a.false

pub returns-else-b-a : goal.returns-else-b-a
returns-else-b-a g c =
    let w = c.args.writers.now in
    let first : IsLastWithin c.args.stands.now w.numbers c.at.result c.in-Some.b
    = subst (λ (z : List ℕ). IsLastWithin c.args.stands.now z c.at.result c.in-Some.b) c.as_slice.ensures c.in-Some.ensures in
    let last : IsLastWithin c.args.stands.now w.numbers (slice_index c.args.clock.now w.session) c.in-Some.b
    = subst (λ (z : ℕ). IsLastWithin c.args.stands.now w.numbers z c.in-Some.b) c.at.ensures first in
    if_ok c.settle.result (IsSettled g.read.history c.args.closure.now c.settle.new.closure c.in-Some.b c.args.a)
    (IsLinkedIn g.read c.args.closure.now c.settle.new.closure w c.args.a) c.settle.ensures
    (settled_all g.read c.args.closure.now c.args.stands.now c.args.members.now w c.args.clock.now c.args.a c.requires c.in-Some.b last c.settle.new.closure)
