use Rattle.std.proofs.Common.{◌≡◌, ℕ, List, length, drop, refl, ap, sym, ◌∙◌, None, Some, Ok}
use Rattle.std.proofs.lemmas.List.{take_at}
use Rattle.std.specs.Prelude.{replicate, Err}
use Rattle.std.specs.Option.{option_map_or}
use Rattle.tcc_txn.specs.Names.{name_fault}
use Rattle.tcc_txn.specs.private.Stored.{stored_in_front}
use Rattle.tcc_txn.proofs.name.Name.read.Goals as goal
use Rattle.tcc_txn.specs.declared.limits.TheConstants.{MAX_NAME_BYTES}

pub returns-in-Some : goal.returns-in-Some
returns-in-Some c =
    let bytes : List ℕ = c.args.bytes.now in
    let found : name_fault bytes ≡ Some c.in-Some.fault = sym c.fault_of.ensures ∙ c.in-Some.is in
    sym (ap (λ fault. option_map_or Err fault (Ok bytes)) found)

pub invariant_of-result : goal.invariant_of-result
invariant_of-result c =
    let bytes : List ℕ = c.args.bytes.now in
    rw (c.copy_from_slice.ensures.after) (stored_in_front bytes (sym c.fault_of.ensures ∙ c.in_default.is))

pub returns : goal.returns
returns c =
    let bytes : List ℕ = c.args.bytes.now in
    let none : name_fault bytes ≡ None = sym c.fault_of.ensures ∙ c.in_default.is in
    rw (c.copy_from_slice.ensures.after)
    (ap Ok (take_at bytes (drop (length bytes) (replicate MAX_NAME_BYTES 0)) (length bytes) refl)
    ∙ sym (ap (λ fault. option_map_or Err fault (Ok bytes)) none))
