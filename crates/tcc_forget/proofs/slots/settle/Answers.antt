use Rattle.std.proofs.Common.{ℕ, ◌≡◌, ◌<◌, ◌∙◌, List, [], length, sym, subst, arith}
use Rattle.std.proofs.lemmas.List.{get_or_default}
use Rattle.tcc_graph.specs.Tables.{row_of}
use Rattle.tcc_forget.specs.private.Linking.{AreRaised}
use Rattle.tcc_forget.proofs.RaisedRows.{at_of, goes_false, goes_true, settled_cycle, settled_now}
use Rattle.tcc_forget.proofs.slots.settle.Goals as goal

pub returns-then-goes_to-2-clause-done : goal.returns-then-goes_to-2-clause-done
returns-then-goes_to-2-clause-done g c =
    let r = c.requires in
    let inside : c.args.b < length c.args.rows.now = omega (arith, r.from, r.between.long) in
    settled_cycle g.on.history g.on.entry g.on.numbers c.args.rows.now c.args.b c.args.a r.between r.from r.to (r.slots.below c.args.a r.to) r.link
    (goes_true g.on.history g.on.numbers c.args.ats.now c.args.rows.now c.args.a c.args.b c.index-rows-b.result r.slots r.to inside
    (sym c.goes_to-2.ensures ∙ c.if-goes_to-2.true))

pub returns-clause-done : goal.returns-clause-done
returns-clause-done g c =
    let r = c.requires in
    let old = c.args.rows.now in
    let new = c.raise.new.rows in
    let inside : c.args.b < length old = omega (arith, r.from, r.between.long) in
    let row : c.in_ok-row.row ≡ row_of old c.args.b = c.in_ok-row.ensures ∙ get_or_default old c.args.b c.index-rows-b-2.result [] inside in
    let raised : AreRaised (at_of c.args.ats.now c.args.a) (row_of old c.args.b) old new
    = subst (λ (z : List ℕ). AreRaised (at_of c.args.ats.now c.args.a) z old new) row c.raise.ensures in
    settled_now g.on.history g.on.entry g.on.numbers c.args.ats.now old new c.args.b c.args.a r.slots r.between r.from r.to raised
    (goes_false g.on.history g.on.numbers c.args.ats.now old c.args.a c.args.b c.index-rows-b.result r.slots r.to inside
    (sym c.goes_to-2.ensures ∙ c.if-goes_to-2.false)) r.link
