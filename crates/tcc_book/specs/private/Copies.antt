-- What is returned for a copy of the book.
use Rattle.std.specs.Prelude.{◌≡◌, List, None, Some, Result, Ok, Err}
use Rattle.tcc_txn.specs.Snapshots.{Sessions}
use Rattle.tcc_book.specs.Passes.{Agrees, LeastTorn, Passed, first_missing, recorded_by}
use Rattle.tcc_book.specs.declared.fault.SealFault.{SealFault}
use Rattle.tcc_book.specs.declared.fault.SealFault.TheVariants as unsealed
use Rattle.tcc_book.specs.declared.fault.WholeFault.{WholeFault}
use Rattle.tcc_book.specs.declared.fault.WholeFault.TheVariants as unwhole

-- the copy itself, if it has exactly what the pass recorded; else the name of the pass
abbrev pub IsSealedCopy : Sessions → Passed → Result Sessions SealFault → Type 0
IsSealedCopy copy pass (Ok sessions) = (sessions ≡ copy) × Agrees copy pass
IsSealedCopy copy pass (Err (unsealed.Torn session)) = (session ≡ pass.session) × (Agrees copy pass → ⊥)
IsSealedCopy copy pass (Err unsealed.NoMemory) = ⊥

-- the copy itself, if it is exactly what the passes recorded; else its first session that has no pass, or the least name of a
-- pass with which it doesn't agree
abbrev pub IsWholeCopy : Sessions → List Passed → Result Sessions WholeFault → Type 0
IsWholeCopy copy passes (Ok sessions) = (sessions ≡ copy) × (copy ≡ recorded_by passes)
IsWholeCopy copy passes (Err (unwhole.MissingPass session)) = first_missing copy passes ≡ Some session
IsWholeCopy copy passes (Err (unwhole.Torn session)) = (first_missing copy passes ≡ None) × LeastTorn copy passes (Some session)
IsWholeCopy copy passes (Err unwhole.NoMemory) = ⊥
