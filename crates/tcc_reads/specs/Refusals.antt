-- Why a snapshot isn't resolved.
use Rattle.std.specs.Prelude.{◌≡◌, ◌≢◌, []}
use Rattle.tcc_txn.specs.Snapshots.{Sessions}
use Rattle.tcc_reads.specs.declared.fault.ResolveFault.{ResolveFault}
use Rattle.tcc_reads.specs.declared.fault.ResolveFault.TheVariants.{Reads, NoMemory}
use Rattle.tcc_reads.specs.Faults.{read_faults}

-- the list has exactly the faults of the snapshot, at least one; or memory is out
abbrev pub IsRefusal : Sessions → ResolveFault → Type 0
IsRefusal s (Reads faults) = (faults.items ≡ read_faults s) × (faults.items ≢ [])
IsRefusal s NoMemory = Unit {0}
