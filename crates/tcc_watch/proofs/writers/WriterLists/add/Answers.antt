use Rattle.std.proofs.Common.{◌≡◌, List, ℕ, sym, subst}
use Rattle.tcc_txn.specs.Symbols.{IsNumber, with_symbol}
use Rattle.tcc_watch.specs.declared.linking.SessionWriters.{SessionWriters}
use Rattle.tcc_watch.specs.private.Writers.{AreWritersOf, NotesWrite, WriterMap}
use Rattle.tcc_watch.proofs.ByNumber.{noted_key, writers_more}
use Rattle.tcc_watch.proofs.writers.WriterLists.add.Goals as goal

pub invariant_of-self-in_err-add_at : goal.invariant_of-self-in_err-add_at
invariant_of-self-in_err-add_at c =
    let key = c.args.key in
    let n : ℕ = c.in_ok-index.index in
    let once = c.in_ok-index.ensures.once in
    let number : IsNumber (with_symbol key c.self.inside.keys) key n = subst (λ (z : List (List ℕ)). IsNumber z key n) once c.in_ok-index.ensures.number in
    let new : List (List SessionWriters) = c.add_at.new.writers.items in
    subst (λ (z : List (List ℕ)). AreWritersOf z new) (sym once)
    (writers_more c.self.inside.keys c.self.inside.writers.items new key n c.self.invariant number c.add_at.ensures.others)

pub invariant_of-self-2 : goal.invariant_of-self-2
invariant_of-self-2 c =
    let key = c.args.key in
    let n : ℕ = c.in_ok-index.index in
    let once = c.in_ok-index.ensures.once in
    let number : IsNumber (with_symbol key c.self.inside.keys) key n = subst (λ (z : List (List ℕ)). IsNumber z key n) once c.in_ok-index.ensures.number in
    let new : List (List SessionWriters) = c.add_at.new.writers.items in
    subst (λ (z : List (List ℕ)). AreWritersOf z new) (sym once)
    (writers_more c.self.inside.keys c.self.inside.writers.items new key n c.self.invariant number c.add_at.ensures.others)

pub returns : goal.returns
returns c =
    let key = c.args.key in
    let n : ℕ = c.in_ok-index.index in
    let once = c.in_ok-index.ensures.once in
    let number : IsNumber (with_symbol key c.self.inside.keys) key n = subst (λ (z : List (List ℕ)). IsNumber z key n) once c.in_ok-index.ensures.number in
    let old : List (List SessionWriters) = c.self.inside.writers.items in
    let new : List (List SessionWriters) = c.add_at.new.writers.items in
    subst (λ (z : WriterMap). NotesWrite z (record { keys = c.number.new.self; writers = new }) c.args.at c.args.number key) c.self.view_is
    (subst (λ (z : List (List ℕ)). NotesWrite (record { keys = c.self.inside.keys; writers = old }) (record { keys = z; writers = new }) c.args.at c.args.number key)
    (sym once) (noted_key c.self.inside.keys old new key n c.self.invariant number c.add_at.ensures.others c.args.at c.args.number c.in_ok-add_at.ensures.here.here))
