-- Worked texts agree with the definitions.
use Rattle.std.proofs.Common.{◌≡◌, [], ◌∷◌, refl, codes, lit<}
use Rattle.std.proofs.lemmas.Fmt.{decimal_digit}
use Rattle.tcc_rows.specs.declared.fault.RowFaultKind.TheVariants.{Unfinished, BadValue}
use Rattle.tcc_reads.specs.declared.fault.ReadFaultKind.TheVariants.{ThinAir, Aborted}
use Rattle.tcc_print.specs.Texts.{row_fault_text, unresolved_text}

-- an input that ends inside a transaction
unfinished : row_fault_text (record { row = 2; kind = Unfinished (codes "a") }) ≡ codes "row 2: Unfinished a\n"
unfinished = rw (decimal_digit 2 (lit< tt)) refl

bad_value : row_fault_text (record { row = 2; kind = BadValue }) ≡ codes "row 2: BadValue\n"
bad_value = rw (decimal_digit 2 (lit< tt)) refl

-- reads of an aborted write and of a value that nobody wrote
two_faults : unresolved_text (
    record { session = codes "b"; place = 1; op = 1; key = codes "x"; value = 1; kind = Aborted }
    ∷ record { session = codes "b"; place = 1; op = 2; key = codes "z"; value = 7; kind = ThinAir } ∷ [])
    ≡ codes "unresolved: 2 faults\nAborted b/1 op 1 x 1\nThinAir b/1 op 2 z 7\n"
two_faults = rw (decimal_digit 1 (lit< tt), decimal_digit 2 (lit< tt), decimal_digit 7 (lit< tt)) refl
