use Rattle.std.proofs.Common.{◌≡◌, sym, ap, ◌∙◌, map}
use Rattle.std.proofs.lemmas.Option.{none-some}
use Rattle.std.specs.FinMap.{from_entries}
use Rattle.indexmap.specs.IndexMap.{keys}
use Rattle.tcc_txn.specs.Snapshots.{parts_of, snapshot_fault}
use Rattle.tcc_book.specs.Books.{list_of}
use Rattle.tcc_book.specs.private.BookStorage.{part_at}
use Rattle.tcc_book.proofs.Positions.{is-book}
use Rattle.tcc_book.proofs.Copied.{no-fault, parts-shown, within}
use Rattle.tcc_book.proofs.state.BookState.copy.Goals as goal

pub parts-requires : goal.parts-requires
parts-requires c =
    rw (c.deref.ensures.value) (within c.self.inside.positions c.self.inside.journal.items c.self.invariant)

pub unreachable-requires : goal.unreachable-requires
unreachable-requires c =
    let journal = c.self.inside.journal.items in
    let shown : parts_of c.in_ok-parts.field-0.items ≡ map (λ session. (session, list_of session journal)) (keys c.self.inside.positions)
    = c.in_ok-parts.ensures ∙ ap (λ js. map (part_at js) c.self.inside.positions.entries) c.deref.ensures.value
    ∙ parts-shown c.self.inside.positions journal c.self.invariant in
    absurd (none-some c.in_default.field-0.0 (sym (ap snapshot_fault shown ∙ no-fault c.self.inside.positions journal c.self.invariant) ∙ c.in_default.ensures.0))

pub returns-clause-copy : goal.returns-clause-copy
returns-clause-copy c =
    let journal = c.self.inside.journal.items in
    let shown : parts_of c.in_ok-parts.field-0.items ≡ map (λ session. (session, list_of session journal)) (keys c.self.inside.positions)
    = c.in_ok-parts.ensures ∙ ap (λ js. map (part_at js) c.self.inside.positions.entries) c.deref.ensures.value
    ∙ parts-shown c.self.inside.positions journal c.self.invariant in
    rw (← c.self.view_is) (c.in-Ok.ensures.1 ∙ ap from_entries shown)

pub returns-clause-lawful : goal.returns-clause-lawful
returns-clause-lawful c = rw (← c.self.view_is) (is-book c.self.inside.positions c.self.inside.journal.items c.self.invariant)

pub returns-in_err-parts-clause-lawful : goal.returns-in_err-parts-clause-lawful
returns-in_err-parts-clause-lawful c = rw (← c.self.view_is) (is-book c.self.inside.positions c.self.inside.journal.items c.self.invariant)
