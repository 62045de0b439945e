use Rattle.std.proofs.Common.{ℕ, ◌≡◌, ◌==◌, List, ◌∷◌, ◌++◌, [], sym, subst}
use Rattle.std.specs.Prelude.{if◌then◌else◌}
use Rattle.tcc_graph.specs.Tables.{row_of}
use Rattle.tcc_graph.specs.Links.{link_from, link_to}
use Rattle.tcc_watch.specs.declared.at.At.{At}
use Rattle.tcc_watch.specs.private.Rows.{AreStands, IsRowOver, IsUpTo}
use Rattle.tcc_watch.specs.private.Links.{IsClosure}
use Rattle.tcc_watch.specs.private.Tables.{AreClocks, after}
use Rattle.tcc_watch.proofs.Arrived.{delivered_more}
use Rattle.tcc_watch.proofs.TableLemmas.{parents_below, more_stands, more_members, more_clocks, more_closure, more_links}
use Rattle.tcc_watch.proofs.tables.Tables.arrive.Goals as goal

pub row_over-requires : goal.row_over-requires
row_over-requires g c =
    let laid = c.requires.tables.laid in
    rw (c.deref.ensures.value, laid.clocked.ordered.held.long)
    (parents_below g.arriving.history g.arriving.entry c.args.parents.now laid.delivered c.requires.may c.requires.right)

pub row_over-requires-2 : goal.row_over-requires-2
row_over-requires-2 g c =
    let laid = c.requires.tables.laid in
    rw (c.deref-2.ensures.value, laid.closed.ordered.held.long)
    (parents_below g.arriving.history g.arriving.entry c.args.parents.now laid.delivered c.requires.may c.requires.right)

pub returns : goal.returns
returns g c =
    let h = g.arriving.history in
    let e = g.arriving.entry in
    let r = c.requires in
    let laid = r.tables.laid in
    let t = c.args.self.now in
    let stands : c.push-3.new.self.items ≡ t.stands.items ++ c.args.at ∷ [] = c.in_ok-push-3.ensures.items in
    let clocks : c.push.new.self.items ≡ t.clocks.items ++ c.in_ok-clock.clock ∷ [] = c.in_ok-push.ensures.items in
    let closure : c.push-2.new.self.items ≡ t.closure.items ++ c.in_ok-row.row ∷ [] = c.in_ok-push-2.ensures.items in
    let first : IsRowOver t.clocks.items c.args.parents.now c.args.at.session c.args.at.place c.in_ok-clock.clock
    = subst (λ (z : List (List ℕ)). IsRowOver z c.args.parents.now c.args.at.session c.args.at.place c.in_ok-clock.clock) c.deref.ensures.value c.in_ok-clock.ensures in
    let second : IsRowOver t.closure.items c.args.parents.now c.args.at.session c.args.at.place c.in_ok-row.row
    = subst (λ (z : List (List ℕ)). IsRowOver z c.args.parents.now c.args.at.session c.args.at.place c.in_ok-row.row) c.deref-2.ensures.value c.in_ok-row.ensures in
    let clock_over : IsRowOver t.clocks.items c.args.parents.now e.owner e.place c.in_ok-clock.clock
    = subst (λ (z : ℕ). IsRowOver t.clocks.items c.args.parents.now z e.place c.in_ok-clock.clock) r.session
    (subst (λ (z : ℕ). IsRowOver t.clocks.items c.args.parents.now c.args.at.session z c.in_ok-clock.clock) r.place first) in
    let row_is_over : IsRowOver t.closure.items c.args.parents.now e.owner e.place c.in_ok-row.row
    = subst (λ (z : ℕ). IsRowOver t.closure.items c.args.parents.now z e.place c.in_ok-row.row) r.session
    (subst (λ (z : ℕ). IsRowOver t.closure.items c.args.parents.now c.args.at.session z c.in_ok-row.row) r.place second) in
    let members = more_members h e t.members.items laid.delivered r.may laid.listed c.add_member.new.members.items c.args.at.session r.session
    (subst (λ (z : ℕ). (other : ℕ) → row_of c.add_member.new.members.items other
    ≡ (if other == c.args.at.session then row_of t.members.items other ++ z ∷ [] else row_of t.members.items other)) r.numbered c.in_ok-add_member.ensures) in
    record {
      laid = record {
        delivered = delivered_more h e laid.delivered r.may;
        placed = subst (λ (z : List At). AreStands (after g.arriving) z) (sym stands)
            (more_stands h e t.members.items laid.delivered r.may laid.listed t.stands.items c.args.at r.session r.place laid.placed);
        listed = members;
        clocked = subst (λ (z : List (List ℕ)). AreClocks (after g.arriving) z) (sym clocks)
            (more_clocks h e t.members.items laid.delivered r.may laid.listed t.clocks.items c.in_ok-clock.clock c.args.parents.now r.right clock_over laid.clocked);
        closed = subst (λ (z : List (List ℕ)). IsClosure (after g.arriving) z) (sym closure)
            (more_closure h e t.members.items laid.delivered r.may laid.listed t.closure.items c.in_ok-row.row c.args.parents.now r.right row_is_over laid.closed);
      };
      old = λ l is. subst (λ (z : List (List ℕ)). IsUpTo (after g.arriving) z (link_from l) (link_to l)) (sym closure)
          (more_links h e t.members.items laid.delivered r.may laid.listed t.closure.items c.in_ok-row.row c.args.parents.now r.right row_is_over laid.closed
          r.tables.links l is);
    }
