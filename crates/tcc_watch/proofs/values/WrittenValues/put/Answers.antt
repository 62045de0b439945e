use Rattle.std.proofs.Common.{List, ℕ, sym, subst}
use Rattle.tcc_txn.specs.Symbols.{IsNumber, with_symbol}
use Rattle.tcc_watch.specs.private.Values.{AreValuesOf, Notes, ValueMap}
use Rattle.tcc_watch.proofs.ByNumber.{noted_value, values_kept, values_more}
use Rattle.tcc_watch.proofs.values.WrittenValues.put.Goals as goal

pub invariant_of-self-in_err-note_at : goal.invariant_of-self-in_err-note_at
invariant_of-self-in_err-note_at c =
    let key = c.args.key.now in
    let n : ℕ = c.in_ok-number.number in
    let once = c.in_ok-number.ensures.once in
    let number : IsNumber (with_symbol key c.self.inside.keys) key n = subst (λ (z : List (List ℕ)). IsNumber z key n) once c.in_ok-number.ensures.number in
    subst (λ (z : List (List ℕ)). AreValuesOf z c.note_at.new.numbers.entries) (sym once)
    (values_kept c.self.inside.keys c.self.inside.numbers c.note_at.new.numbers key n c.self.invariant number c.in_err-note_at.ensures.kept)

pub invariant_of-self-2 : goal.invariant_of-self-2
invariant_of-self-2 c =
    let key = c.args.key.now in
    let n : ℕ = c.in_ok-number.number in
    let once = c.in_ok-number.ensures.once in
    let number : IsNumber (with_symbol key c.self.inside.keys) key n = subst (λ (z : List (List ℕ)). IsNumber z key n) once c.in_ok-number.ensures.number in
    subst (λ (z : List (List ℕ)). AreValuesOf z c.note_at.new.numbers.entries) (sym once)
    (values_more c.self.inside.keys c.self.inside.numbers c.note_at.new.numbers key c.args.value n c.args.shown c.self.invariant number c.in_ok-note_at.ensures.noted)

pub returns : goal.returns
returns c =
    let key = c.args.key.now in
    let n : ℕ = c.in_ok-number.number in
    let once = c.in_ok-number.ensures.once in
    let number : IsNumber (with_symbol key c.self.inside.keys) key n = subst (λ (z : List (List ℕ)). IsNumber z key n) once c.in_ok-number.ensures.number in
    let old = c.self.inside.numbers in
    let new = c.note_at.new.numbers in
    subst (λ (z : ValueMap). Notes z (record { keys = c.number.new.self; entries = new.entries }) key c.args.value c.args.shown) c.self.view_is
    (subst
    (λ (z : List (List ℕ)).
    Notes (record { keys = c.self.inside.keys; entries = old.entries }) (record { keys = z; entries = new.entries }) key c.args.value c.args.shown)
    (sym once) (noted_value c.self.inside.keys old new key c.args.value n c.args.shown c.self.invariant number c.in_ok-note_at.ensures.noted))
