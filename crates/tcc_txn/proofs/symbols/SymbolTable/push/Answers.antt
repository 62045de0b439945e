use Rattle.std.proofs.Common.{◌≡◌, ℕ, List, Some, length, sym, subst, arith}
use Rattle.std.specs.BTreeMap.{Updates}
use Rattle.tcc_txn.specs.private.Symbols.{HoldsNumbers}
use Rattle.tcc_txn.proofs.SortedParts.{name_cmp}
use Rattle.tcc_txn.proofs.NumberedNames.{numbers-grown}
use Rattle.tcc_txn.proofs.symbols.SymbolTable.push.Goals as goal

pub invariant_of-self-in-Ok : goal.invariant_of-self-in-Ok
invariant_of-self-in-Ok c =
    let names = c.self.inside.names.items in
    let old = c.self.inside.numbers in
    let new = c.insert.new.self in
    let last : c.in_ok-number.number ≡ length names = omega (arith, c.in_ok-number.ensures, c.len.ensures, c.self.inside.names.ok.0) in
    subst (λ (all : List (List ℕ)). HoldsNumbers all new) (sym c.in_ok-push.ensures.items)
    (numbers-grown names c.args.name old new c.self.invariant
    (subst (λ (n : ℕ). Updates name_cmp old new c.args.name (Some n)) last c.in-Ok.ensures.updates))
