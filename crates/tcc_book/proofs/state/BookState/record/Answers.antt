use Rattle.std.proofs.Common.{◌≡◌, ◌<◌, sym, ap, ◌∙◌, subst, length, arith, ◌++◌, ◌∷◌, [], List, Err}
use Rattle.tcc_txn.specs.declared.limits.TheConstants.{MAX_TRANSACTIONS}
use Rattle.tcc_book.specs.Books.{Book, Matches, Records}
use Rattle.tcc_book.specs.private.BookStorage.{Relists}
use Rattle.tcc_book.specs.declared.entry.Entry.{Entry}
use Rattle.tcc_book.proofs.Positions.{is-book}
use Rattle.tcc_book.proofs.Recorded.{kept, matched, recorded, refusal-is, refusal-keeps, shown}
use Rattle.tcc_book.proofs.state.BookState.record.Goals as goal

pub invariant_of-self-in-Err : goal.invariant_of-self-in-Err
invariant_of-self-in-Err c =
    let old = c.self.inside.positions in
    let new = c.add_position.new.positions in
    rw (c.reserve.ensures.items) (kept old new c.self.inside.journal.items c.args.session.now c.self.invariant
    (refusal-keeps old new c.args.session.now c.args.held c.len-position.result c.in-Err.fault c.in-Err.ensures))

pub returns-in-Err-clause-records : goal.returns-in-Err-clause-records
returns-in-Err-clause-records c =
    let journal = c.self.inside.journal.items in
    let room : length journal < MAX_TRANSACTIONS = omega (arith, c.if-position-ge-MAX_TRANSACTIONS.false, c.len-position.ensures, c.self.inside.journal.ok.0) in
    let why =
    refusal-is c.self.inside.positions c.add_position.new.positions journal c.args.session.now c.args.held c.len-position.result c.args.txn c.in-Err.fault
    c.self.invariant room c.in-Err.ensures in
    let Is : Book → List Entry → Type 0 =
    λ old items. Records {U = Unit {0}} old c.args.session.now c.args.held c.args.txn (Err (c.in-Err.fault, c.args.txn))
    (shown c.add_position.new.positions items) in
    subst (λ items. Is c.args.self.now items) (sym c.reserve.ensures.items) (subst (λ old. Is old journal) c.self.view_is why)

pub invariant_of-self-2 : goal.invariant_of-self-2
invariant_of-self-2 c =
    let journal = c.self.inside.journal.items in
    let room : length journal < MAX_TRANSACTIONS = omega (arith, c.if-position-ge-MAX_TRANSACTIONS.false, c.len-position.ensures, c.self.inside.journal.ok.0) in
    let entry : Entry = record { session = c.args.session.now; txn = c.args.txn } in
    let all : c.push.new.self.items ≡ journal ++ entry ∷ [] = c.in-Ok.ensures.items ∙ ap (λ es. es ++ entry ∷ []) c.reserve.ensures.items in
    let is = c.in_default.ensures in
    let position : c.len-position.result ≡ length journal = c.len-position.ensures ∙ c.self.inside.journal.ok.0 in
    let changed = subst (λ n. Relists c.self.inside.positions c.args.session.now is.0 (is.0.items ++ n ∷ []) c.add_position.new.positions) position is.2 in
    rw all (recorded c.self.inside.positions c.add_position.new.positions journal entry is.0 c.self.invariant room changed)

pub returns-clause-records : goal.returns-clause-records
returns-clause-records c =
    let journal = c.self.inside.journal.items in
    let room : length journal < MAX_TRANSACTIONS = omega (arith, c.if-position-ge-MAX_TRANSACTIONS.false, c.len-position.ensures, c.self.inside.journal.ok.0) in
    let entry : Entry = record { session = c.args.session.now; txn = c.args.txn } in
    let all : c.push.new.self.items ≡ journal ++ entry ∷ [] = c.in-Ok.ensures.items ∙ ap (λ es. es ++ entry ∷ []) c.reserve.ensures.items in
    let is = c.in_default.ensures in
    subst (λ (old : Book). (length old.journal < MAX_TRANSACTIONS) × Matches old c.args.session.now c.args.held
    × (shown c.add_position.new.positions c.push.new.self.items ≡ record { names = old.names; journal = old.journal ++ entry ∷ [] }))
    c.self.view_is (
      room,
      matched c.self.inside.positions journal c.args.session.now is.0 c.args.held c.self.invariant is.2.found is.1,
      (λ i. record { names = is.2.names i; journal = all i }),
    )

pub returns-then-position-ge-MAX_TRANSACTIONS-clause-lawful : goal.returns-then-position-ge-MAX_TRANSACTIONS-clause-lawful
returns-then-position-ge-MAX_TRANSACTIONS-clause-lawful c = rw (← c.self.view_is) (is-book c.self.inside.positions c.self.inside.journal.items c.self.invariant)

pub returns-then-is_err-clause-lawful : goal.returns-then-is_err-clause-lawful
returns-then-is_err-clause-lawful c = rw (← c.self.view_is) (is-book c.self.inside.positions c.self.inside.journal.items c.self.invariant)

pub returns-in-Err-clause-lawful : goal.returns-in-Err-clause-lawful
returns-in-Err-clause-lawful c = rw (← c.self.view_is) (is-book c.self.inside.positions c.self.inside.journal.items c.self.invariant)

pub returns-clause-lawful : goal.returns-clause-lawful
returns-clause-lawful c = rw (← c.self.view_is) (is-book c.self.inside.positions c.self.inside.journal.items c.self.invariant)
