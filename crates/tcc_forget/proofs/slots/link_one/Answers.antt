use Rattle.std.proofs.Common.{◌∙◌, slice_index, sym}
use Rattle.tcc_graph.specs.Tables.{row_of}
use Rattle.tcc_watch.proofs.Settled.{if_ok}
use Rattle.tcc_forget.specs.Slots.{Reaches}
use Rattle.tcc_forget.specs.private.Linking.{IsOutcome, OrdersOne}
use Rattle.tcc_forget.proofs.ListedLinks.{one_itself, one_settle, one_unseen, outcome_more}
use Rattle.tcc_forget.proofs.slots.link_one.Goals as goal

pub returns-then-b-a-clause-done : goal.returns-then-b-a-clause-done
returns-then-b-a-clause-done g c =
    one_itself g.on c.args.rows.now c.args.ats.now c.args.clock.now c.args.b c.args.a c.requires c.if-b-a.true

pub returns-then-not-goes_to-clause-done : goal.returns-then-not-goes_to-clause-done
returns-then-not-goes_to-clause-done g c =
    one_unseen g.on c.args.rows.now c.args.ats.now c.args.clock.now c.args.b c.args.a c.requires (sym c.goes_to.ensures ∙ c.if-not-goes_to.true)

pub settle-requires : goal.settle-requires
settle-requires g c =
    one_settle g.on c.args.rows.now c.args.ats.now c.args.clock.now c.args.b c.args.a c.requires c.if-b-a.false (sym c.goes_to.ensures ∙ c.if-not-goes_to.false)

pub returns-clause-done : goal.returns-clause-done
returns-clause-done g c =
    let old = c.args.rows.now in
    let new = c.settle.new.rows in
    if_ok c.settle.result (IsOutcome g.on old new (Reaches g.on.history (row_of new c.args.a) (slice_index g.on.numbers c.args.b)))
    (IsOutcome g.on old new (OrdersOne g.on new c.args.b c.args.a)) c.settle.ensures.done
    (outcome_more g.on old new (Reaches g.on.history (row_of new c.args.a) (slice_index g.on.numbers c.args.b)) (OrdersOne g.on new c.args.b c.args.a)
    (λ r apart observed. r))
