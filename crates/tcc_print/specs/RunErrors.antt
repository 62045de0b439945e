-- Why a run ends by the fault of a record.
use Rattle.std.specs.Prelude.{Bool, true, false, if◌then◌else◌}
use Rattle.tcc_rows.specs.declared.fault.RowFault.{RowFault}
use Rattle.tcc_rows.specs.declared.fault.RowFaultKind.{RowFaultKind}
use Rattle.tcc_rows.specs.declared.fault.RowFaultKind.TheVariants as row_kind
use Rattle.tcc_print.specs.declared.run_error.RunError.{RunError}
use Rattle.tcc_print.specs.declared.run_error.RunError.TheVariants.{Row, NoMemory}

-- memory was refused
abbrev pub is_memory : RowFaultKind → Bool
is_memory row_kind.NoMemory = true
is_memory _ = false

-- `NoMemory` is by itself, and other faults have their rows
abbrev pub by_row : RowFault → RunError
by_row fault = if is_memory fault.kind then NoMemory else Row fault
