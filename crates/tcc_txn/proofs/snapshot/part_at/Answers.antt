use Rattle.std.proofs.Common.{◌≡◌, ℕ, List, ap, sym, ◌∙◌, slice_get, length, Some, option_map, refl}
use Rattle.std.proofs.lemmas.Option.{slice_get-map, slice_get_read, slice_get_past}
use Rattle.std.specs.Global.{Vec}
use Rattle.tcc_txn.specs.Transactions.{Transaction}
use Rattle.tcc_txn.proofs.snapshot.part_at.Goals as goal

abbrev part_of : List ℕ × Vec Transaction → List ℕ × List Transaction
part_of part = (part.0, part.1.items)

pub returns-in-Some : goal.returns-in-Some
returns-in-Some c =
    let parts : List (List ℕ × Vec Transaction) = c.args.parts.now in
    let found = c.in-Some.ensures.lookup in
    let read : slice_get parts c.args.i ≡ Some c.in-Some.part.now = slice_get_read parts (length parts) c.args.i c.in-Some.part.now refl found.3.0 found.1 in
    sym (slice_get-map part_of parts c.args.i
    ∙ ap (λ o. option_map part_of o) read
    ∙ ap (λ txns. Some (c.in-Some.part.now.0, txns)) (sym c.deref.ensures.value))

pub returns-in-None : goal.returns-in-None
returns-in-None c =
    let parts : List (List ℕ × Vec Transaction) = c.args.parts.now in
    let none = c.in-None.ensures.lookup in
    sym (slice_get-map part_of parts c.args.i ∙ ap (λ o. option_map part_of o) (slice_get_past parts c.args.i none.3))
