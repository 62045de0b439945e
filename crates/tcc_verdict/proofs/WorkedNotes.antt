-- Worked notes agree with the definitions.
use Rattle.std.proofs.Common.{◌≡◌, List, [], ◌∷◌, refl, codes, lit<}
use Rattle.std.proofs.lemmas.Fmt.{decimal_digit}
use Rattle.tcc_txn.specs.declared.limits.Limits.TheVariants.{Small}
use Rattle.tcc_rows.specs.Lines.{Record}
use Rattle.tcc_rows.specs.Reached.{record_at}
use Rattle.tcc_rows.specs.declared.fault.RowFaultKind.TheVariants.{BadValue, Unfinished}
use Rattle.tcc_verdict.specs.Stopping.{stop_note}

abbrev three : List Record
three =
    (codes "a" ∷ codes "begin" ∷ []) ∷ (codes "a" ∷ codes "r" ∷ codes "x" ∷ codes "01" ∷ []) ∷ (codes "b" ∷ codes "r" ∷ codes "y" ∷ codes "02" ∷ []) ∷ []

-- a field of the record at the row of the fault, and of no other
bad_value : stop_note Small (record { row = 2; kind = BadValue }) (record_at 2 three)
    ≡ codes "row 2: \"01\" of session \"a\": expected a whole number up to 18446744073709551615, in digits without a leading 0\n"
bad_value = rw (decimal_digit 2 (lit< tt)) refl

-- at the end of the input no record
unfinished : stop_note Small (record { row = 3; kind = Unfinished (codes "a") }) (record_at 3 three)
    ≡ codes "row 3: the input ends: expected commit, abort or unknown of the session\n"
unfinished = rw (decimal_digit 3 (lit< tt)) refl
