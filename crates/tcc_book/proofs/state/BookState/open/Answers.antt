use Rattle.std.proofs.Common.{rules, ◌≡◌, length, sym, ap, ◌∙◌, arith, is_some, None, Some, refl}
use Rattle.indexmap.specs.IndexMap.{get, Updates, insert_entry}
use Rattle.tcc_txn.specs.Bytes.{same}
use Rattle.tcc_book.proofs.Positions.{few-positions, is-book, length-positions, open-found, length-keys}
use Rattle.tcc_book.proofs.Opened.{opened, opened-names, unchanged}
use Rattle.tcc_book.proofs.state.BookState.open.Goals as goal

pub overflow_cast-result : goal.overflow_cast-result
overflow_cast-result c =
    let list = c.in-Some.positions.now in
    let items = c.self.invariant.each c.args.session list (sym c.in-Some.ensures.value) in
    omega (arith, c.len.ensures, list.ok.0, ap length items, few-positions c.args.session 0 c.self.inside.journal.items, c.self.invariant.short)

pub returns-in-Some-clause-opens : goal.returns-in-Some-clause-opens
returns-in-Some-clause-opens c =
    let list = c.in-Some.positions.now in
    let items = c.self.invariant.each c.args.session list (sym c.in-Some.ensures.value) in (
      rw (← c.self.view_is) (open-found c.self.inside.positions c.args.session ∙ ap is_some (sym c.in-Some.ensures.value)),
      rw (← c.self.view_is) (c.len.ensures ∙ list.ok.0 ∙ ap length items ∙ length-positions c.args.session 0 c.self.inside.journal.items),
      refl,
    )

pub returns-then-len-ge-MAX_SESSIONS-clause-opens : goal.returns-then-len-ge-MAX_SESSIONS-clause-opens
returns-then-len-ge-MAX_SESSIONS-clause-opens c =
    let none : get same c.self.inside.positions c.args.session ≡ None = search rules in
    let many = c.if-len-ge-MAX_SESSIONS.true in
    let names = length-keys c.self.inside.positions in (
      rw (← c.self.view_is) (open-found c.self.inside.positions c.args.session ∙ ap is_some none),
      rw (← c.self.view_is) (omega (arith, names, c.len-2.ensures.len, many, c.self.invariant.few)),
      omega (arith, names, c.len-2.ensures.len, c.len-then-len-ge-MAX_SESSIONS.ensures.len, many, c.self.invariant.few),
      refl,
    )

pub invariant_of-self : goal.invariant_of-self
invariant_of-self c =
    let kept : c.insert.new.self.entries ≡ c.self.inside.positions.entries = search rules in
    unchanged c.self.inside.positions c.insert.new.self c.self.inside.journal.items kept c.self.invariant

pub invariant_of-self-2 : goal.invariant_of-self-2
invariant_of-self-2 c =
    let none : get same c.self.inside.positions c.args.session ≡ None = search rules in
    let updates : Updates same c.self.inside.positions c.insert.new.self c.args.session (Some c.new.result) = search rules in
    let entries : c.insert.new.self.entries ≡ insert_entry same c.self.inside.positions.entries c.args.session c.new.result = search rules in
    opened c.self.inside.positions c.insert.new.self c.self.inside.journal.items c.args.session c.new.result c.self.invariant none
    (omega (arith, c.len-2.ensures.len, c.if-len-ge-MAX_SESSIONS.false)) c.new.ensures.items updates entries c.insert.ensures.unique

pub returns-clause-opens : goal.returns-clause-opens
returns-clause-opens c =
    let none : get same c.self.inside.positions c.args.session ≡ None = search rules in
    let entries : c.insert.new.self.entries ≡ insert_entry same c.self.inside.positions.entries c.args.session c.new.result = search rules in
    let names = length-keys c.self.inside.positions in (
      rw (← c.self.view_is) (open-found c.self.inside.positions c.args.session ∙ ap is_some none),
      rw (← c.self.view_is) (omega (arith, names, c.len-2.ensures.len, c.if-len-ge-MAX_SESSIONS.false)),
      rw (← c.self.view_is) (ap (λ names. record { names = names; journal = c.self.inside.journal.items })
          (opened-names c.self.inside.positions c.insert.new.self c.args.session c.new.result none entries)),
    )

pub returns-in-Some-clause-lawful : goal.returns-in-Some-clause-lawful
returns-in-Some-clause-lawful c = rw (← c.self.view_is) (is-book c.self.inside.positions c.self.inside.journal.items c.self.invariant)

pub returns-then-len-ge-MAX_SESSIONS-clause-lawful : goal.returns-then-len-ge-MAX_SESSIONS-clause-lawful
returns-then-len-ge-MAX_SESSIONS-clause-lawful c = rw (← c.self.view_is) (is-book c.self.inside.positions c.self.inside.journal.items c.self.invariant)

pub returns-then-is_err-clause-lawful : goal.returns-then-is_err-clause-lawful
returns-then-is_err-clause-lawful c = rw (← c.self.view_is) (is-book c.self.inside.positions c.self.inside.journal.items c.self.invariant)

pub returns-clause-lawful : goal.returns-clause-lawful
returns-clause-lawful c = rw (← c.self.view_is) (is-book c.self.inside.positions c.self.inside.journal.items c.self.invariant)
