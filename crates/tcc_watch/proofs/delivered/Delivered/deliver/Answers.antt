use Rattle.std.proofs.Common.{ℕ, List, ◌+◌, ◌≡◌, ◌<◌, [], length, get_or, refl, rules, sym, ap, subst, ◌∙◌, arith}
use Rattle.std.specs.List.{Contains}
use Rattle.std.proofs.lemmas.List.{get_or_read, with_items_is}
use Rattle.std.proofs.lemmas.List.Elements.{Contains-get_or}
use Rattle.tcc_reads.specs.History.{Entry, count}
use Rattle.tcc_graph.specs.Keys.{IsWriter}
use Rattle.tcc_graph.specs.Tables.{row_of}
use Rattle.tcc_graph.proofs.NameLemmas.{has_name-contains}
use Rattle.tcc_watch.specs.declared.at.At.{At}
use Rattle.tcc_watch.specs.private.Rows.{AreStands, AreMembers, AreParents}
use Rattle.tcc_watch.specs.private.Links.{IsClosure, IsClock}
use Rattle.tcc_watch.specs.private.Tables.{after, parents_in, HasArrived}
use Rattle.tcc_watch.specs.private.Writers.{AreKeyWriters}
use Rattle.tcc_watch.specs.private.Delivering.{AreReadsLinked}
use Rattle.tcc_watch.proofs.Arrived.{count_more, new_entry}
use Rattle.tcc_watch.proofs.TableLemmas.{are_parents, clock_of, read_pair}
use Rattle.tcc_watch.proofs.Delivering.{still_writers, last_writes, written_by_last, contains_name, all_known}
use Rattle.tcc_watch.proofs.delivered.Delivered.deliver.Goals as goal

pub arrive-requires : goal.arrive-requires
arrive-requires g c =
    let r = c.requires in
    let h = g.arriving.history in
    let e = g.arriving.entry in
    let laid = r.state.tables.laid in
    let n : c.in-Ok.number ≡ length c.args.self.now.tables.stands.items = search rules in
    let parents : c.deref-2.result.now ≡ parents_in c.args.self.now.tables.members.items e.owner e.reads
    = c.deref-2.ensures.value ∙ c.in_ok-before.ensures ∙ (λ i. parents_in (c.deref.ensures.value i) (r.coming.session i) (r.coming.reads_are i)) in
    record {
      tables = r.state.tables;
      may = r.coming.may;
      numbered = n ∙ laid.placed.long;
      session = r.coming.session;
      place = r.coming.place;
      right = subst (λ (z : List ℕ). AreParents (after g.arriving) (count h) z) (sym parents)
          (are_parents h e c.args.self.now.tables.members.items laid.delivered r.coming.may laid.listed);
    }

pub link_reads-requires : goal.link_reads-requires
link_reads-requires g c =
    let r = c.requires in
    let h = g.arriving.history in
    let e = g.arriving.entry in
    let laid = r.state.tables.laid in
    let arrived : HasArrived g.arriving c.arrive.new.self = c.in_ok-arrive.ensures in
    let now = arrived.laid in
    let n : c.in-Ok.number ≡ length c.args.self.now.tables.stands.items = search rules in
    let number : c.in-Ok.number ≡ count h = n ∙ laid.placed.long in
    let inside : count h < count (after g.arriving) = omega (arith, count_more h e) in
    let held : c.in-Ok.number < length c.arrive.new.self.clocks.items = omega (arith, number, inside, now.clocked.ordered.held.long) in
    let row : c.index.result.now ≡ row_of c.arrive.new.self.clocks.items c.in-Ok.number
    = get_or_read c.arrive.new.self.clocks.items c.in-Ok.number c.index.result.now held c.index.ensures [] in
    let clock : c.index.result.now ≡ row_of c.arrive.new.self.clocks.items (count h) = row ∙ ap (λ k. row_of c.arrive.new.self.clocks.items k) number in
    record {
      delivered = now.delivered;
      closure = subst (λ (z : List (List ℕ)). IsClosure (after g.arriving) z) (sym c.deref_mut.ensures.value) now.closed;
      placed = subst (λ (z : List At). AreStands (after g.arriving) z) (sym c.deref-3.ensures.value) now.placed;
      listed = subst (λ (z : List (List ℕ)). AreMembers (after g.arriving) z) (sym c.deref-4.ensures.value) now.listed;
      clock_of = subst (λ (z : List ℕ). IsClock (after g.arriving) (count h) z) (sym clock)
          (clock_of (after g.arriving) c.arrive.new.self.clocks.items now.clocked (count h) inside);
      right = still_writers h e c.args.self.now.writers r.state.writers;
      pairs = λ i d low. read_pair h e c.args.self.now.tables.members.items laid.delivered r.coming.may laid.listed (get_or c.args.reads.now i d)
          (subst (λ (z : List (List ℕ × ℕ)). Contains z (get_or c.args.reads.now i d)) r.coming.reads_are (Contains-get_or c.args.reads.now i d low));
    }

pub note_writes-requires : goal.note_writes-requires
note_writes-requires g c =
    let r = c.requires in
    let h = g.arriving.history in
    let e = g.arriving.entry in
    let laid = r.state.tables.laid in
    let n : c.in-Ok.number ≡ length c.args.self.now.tables.stands.items = search rules in
    let number : c.in-Ok.number ≡ count h = n ∙ laid.placed.long in
    record {
      delivered = c.in_ok-arrive.ensures.laid.delivered;
      right = subst (λ (z : ℕ). AreKeyWriters (after g.arriving) z c.args.self.now.writers) (sym number) (still_writers h e c.args.self.now.writers r.state.writers);
      some = omega (arith, number, laid.delivered.some);
      below = omega (arith, number, count_more h e);
      owned = ap (λ (z : Entry). z.owner) (new_entry h e c.in-Ok.number number) ∙ sym r.coming.session;
      placed = ap (λ (z : Entry). z.place) (new_entry h e c.in-Ok.number number) ∙ sym r.coming.place;
      written = λ x there. subst (λ (z : ℕ). IsWriter (after g.arriving) z x) (sym number)
          (last_writes h e x laid.delivered.some (contains_name e.writes x (subst (λ (z : List (List ℕ)). Contains z x) r.coming.writes_are there)));
      all = λ x writes. subst (λ (z : List (List ℕ)). Contains z x) (sym r.coming.writes_are)
          (has_name-contains e.writes x (written_by_last h e x laid.delivered.some (subst (λ (z : ℕ). IsWriter (after g.arriving) z x) number writes)));
      once = r.coming.once;
    }

pub returns : goal.returns
returns g c =
    let r = c.requires in
    let h = g.arriving.history in
    let laid = r.state.tables.laid in
    let n : c.in-Ok.number ≡ length c.args.self.now.tables.stands.items = search rules in
    let number : c.in-Ok.number ≡ count h = n ∙ laid.placed.long in
    let t = c.arrive.new.self in
    let now = c.link_reads.new.closure in
    let right : AreKeyWriters (after g.arriving) (count h + 1) c.note_writes.new.writers
    = subst (λ (z : ℕ). AreKeyWriters (after g.arriving) (z + 1) c.note_writes.new.writers) number c.in_ok-note_writes.ensures in
    let linked : AreReadsLinked g.arriving t.closure.items now c.args.reads.now c.in_ok-in_order.in_order
    = subst (λ (z : List (List ℕ)). AreReadsLinked g.arriving z now c.args.reads.now c.in_ok-in_order.in_order) c.deref_mut.ensures.value c.in_ok-in_order.ensures in
    all_known g.arriving c.args.self.now.tables.members.items laid.listed t now c.note_writes.new.writers c.args.reads.now c.in_ok-in_order.in_order laid.delivered r.coming.may
    r.coming.reads_are c.in_ok-arrive.ensures right linked _ refl refl refl
    (with_items_is c.arrive.new.self.closure c.link_reads.new.closure (omega (arith, c.link_reads.auto.closure, c.deref_mut.ensures.len))) refl
