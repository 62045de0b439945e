use Rattle.std.proofs.Common.{ℕ, Bool, true, ◌≡◌, ◌<◌, ◌++◌, ◌∙◌, List, [], ◌∷◌, length, refl, sym, ap, subst, arith}
use Rattle.std.specs.Prelude.{All}
use Rattle.std.proofs.lemmas.List.{with_items_is}
use Rattle.tcc_watch.specs.private.Rows.{IsRowOver}
use Rattle.tcc_forget.specs.declared.at.SessionPlace.{SessionPlace}
use Rattle.tcc_forget.specs.Slots.{AreWide, SlotTables, tables_of}
use Rattle.tcc_forget.specs.private.Linking.{AreReadsDone, CanLinkReads, IsOutcome, parents_in}
use Rattle.tcc_forget.proofs.Arrivals.{arrived_as, can_link_reads, parents_below}
use Rattle.tcc_forget.proofs.slots.Slots.arrive.Goals as goal

pub row_over-requires-clause-inside : goal.row_over-requires-clause-inside
row_over-requires-clause-inside g c =
    let rows : List (List ℕ) = c.deref.result.now in
    let same : c.deref-2.result.now ≡ parents_in c.args.last c.args.reads.now = c.deref-2.ensures.value ∙ c.in_ok-before.ensures in
    let long : length rows ≡ length g.on.numbers = ap length c.deref.ensures.value ∙ c.requires.tables.observed.long in
    subst (λ (z : List ℕ). All (λ p. p < length rows) z) (sym same)
    (parents_below g.on (tables_of c.args.self.now) c.args.at c.args.last c.args.reads.now c.requires rows long)

pub link_reads-requires : goal.link_reads-requires
link_reads-requires g c =
    let t : SlotTables = tables_of c.args.self.now in
    let clock : List ℕ = c.in_ok-clock.clock in
    let parents = parents_in c.args.last c.args.reads.now in
    let same : c.deref-2.result.now ≡ parents = c.deref-2.ensures.value ∙ c.in_ok-before.ensures in
    let over : IsRowOver t.observed parents c.args.at.session c.args.at.place clock
    = subst (λ (z : List (List ℕ)). IsRowOver z parents c.args.at.session c.args.at.place clock) c.deref.ensures.value
    (subst (λ (z : List ℕ). IsRowOver c.deref.result.now z c.args.at.session c.args.at.place clock) same c.in_ok-clock.ensures.over) in
    subst (λ (z : List (List ℕ)). CanLinkReads g.on z c.deref-3.result.now clock c.args.reads.now) (sym c.deref_mut.ensures.value)
    (subst (λ (z : List SessionPlace). CanLinkReads g.on t.before z clock c.args.reads.now) (sym c.deref-3.ensures.value)
    (can_link_reads g.on t c.args.at c.args.last c.args.reads.now c.requires clock over))

pub row_over-requires-2-clause-inside : goal.row_over-requires-2-clause-inside
row_over-requires-2-clause-inside g c =
    let rows : List (List ℕ) = c.deref-4.result.now in
    let new : List (List ℕ) = c.link_reads.new.rows in
    let same : c.deref-5.result.now ≡ parents_in c.args.last c.args.reads.now = c.deref-5.ensures.value ∙ c.in_ok-before.ensures in
    let right : IsOutcome g.on c.deref_mut.result.now new (AreReadsDone g.on new) true
    = subst (λ (z : Bool). IsOutcome g.on c.deref_mut.result.now new (AreReadsDone g.on new) z) c.if-not-branch.false c.in_ok-link_reads.ensures.done in
    let back = with_items_is c.args.self.now.before new (omega (arith, c.link_reads.auto.rows, c.deref_mut.ensures.len)) in
    let is : rows ≡ new = c.deref-4.ensures.value ∙ back in
    let long : length rows ≡ length g.on.numbers = ap length is ∙ right.0.long in
    subst (λ (z : List ℕ). All (λ p. p < length rows) z) (sym same)
    (parents_below g.on (tables_of c.args.self.now) c.args.at c.args.last c.args.reads.now c.requires rows long)

pub returns-clause-arrived : goal.returns-clause-arrived
returns-clause-arrived g c =
    let t : SlotTables = tables_of c.args.self.now in
    let clock : List ℕ = c.in_ok-clock.clock in
    let row : List ℕ = c.in_ok-row.row in
    let new : List (List ℕ) = c.link_reads.new.rows in
    let parents = parents_in c.args.last c.args.reads.now in
    let same : c.deref-2.result.now ≡ parents = c.deref-2.ensures.value ∙ c.in_ok-before.ensures in
    let also : c.deref-5.result.now ≡ parents = c.deref-5.ensures.value ∙ c.in_ok-before.ensures in
    let over : IsRowOver t.observed parents c.args.at.session c.args.at.place clock
    = subst (λ (z : List (List ℕ)). IsRowOver z parents c.args.at.session c.args.at.place clock) c.deref.ensures.value
    (subst (λ (z : List ℕ). IsRowOver c.deref.result.now z c.args.at.session c.args.at.place clock) same c.in_ok-clock.ensures.over) in
    let back = with_items_is c.args.self.now.before new (omega (arith, c.link_reads.auto.rows, c.deref_mut.ensures.len)) in
    let is : c.deref-4.result.now ≡ new = c.deref-4.ensures.value ∙ back in
    let over_row : IsRowOver new parents c.args.at.session c.args.at.place row
    = subst (λ (z : List (List ℕ)). IsRowOver z parents c.args.at.session c.args.at.place row) is
    (subst (λ (z : List ℕ). IsRowOver c.deref-4.result.now z c.args.at.session c.args.at.place row) also c.in_ok-row.ensures.over) in
    let right : IsOutcome g.on c.deref_mut.result.now new (AreReadsDone g.on new) true
    = subst (λ (z : Bool). IsOutcome g.on c.deref_mut.result.now new (AreReadsDone g.on new) z) c.if-not-branch.false c.in_ok-link_reads.ensures.done in
    let wide : AreWide t.sessions new = subst (λ (n : ℕ). AreWide n new) c.requires.sessions c.in_ok-link_reads.ensures.wide in
    arrived_as g.on t c.args.at c.args.last c.args.reads.now c.requires clock over new right.0 right.2 row over_row wide c.in_ok-row.ensures.long
    c.in_ok-clock.ensures.long
    (tables_of (record { sessions = c.args.self.now.sessions; ats = c.push.new.self; observed = c.push-2.new.self; before = c.push-3.new.self })) refl
    c.in_ok-push.ensures.items c.in_ok-push-2.ensures.items (c.in_ok-push-3.ensures.items ∙ ap (λ (z : List (List ℕ)). z ++ row ∷ []) back)
