-- Parts that are passed over.
use Rattle.std.proofs.Common.{◌≡◌, ℕ, List, Option, Ok, ◌∙◌}
use Rattle.tcc_cert.specs.Ahead.{IsAhead}
use Rattle.tcc_cert.specs.Parts.{Parts}
use Rattle.tcc_cert.specs.declared.part.Part.{Part}
use Rattle.tcc_cert.specs.declared.reading.parts.CertReader.{CertReader}
use Rattle.tcc_check.specs.private.Coming.{Takes}
use Rattle.tcc_check.proofs.ComingFacts.{first-fault, first-line}

-- what is left of the parts of the first reader is what the second has
abbrev pub EndsAlike : {R : Type 0} → (R → Option (List ℕ)) → CertReader R → CertReader R → Type 0
EndsAlike remaining from to =
    (ahead : Parts) → IsAhead remaining from ahead → (rest : Parts) × (rest.line ≡ ahead.line) × (rest.fault ≡ ahead.fault) × IsAhead remaining to rest

pub passed-over : {R : Type 0} (remaining : R → Option (List ℕ)) (given : Part) (from now next : CertReader R) → EndsAlike remaining from now
    → ((ahead : Parts) → IsAhead remaining now ahead → Takes remaining ahead next (Ok given)) → EndsAlike remaining from next
passed-over remaining given from now next behind takes ahead is =
    let here = behind ahead is in
    let taken = takes here.0 here.3 in
    (taken.0, first-line given here.0 taken.0 taken.1 ∙ here.1, first-fault given here.0 taken.0 taken.1 ∙ here.2, taken.2)
