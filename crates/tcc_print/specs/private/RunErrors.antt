-- Why there is no answer or no verdict, by the fault that was met.
use Rattle.tcc_reads.specs.declared.fault.ResolveFault.{ResolveFault}
use Rattle.tcc_reads.specs.declared.fault.ResolveFault.TheVariants as unresolved
use Rattle.tcc_rules.specs.declared.stream_fault.StreamFault.{StreamFault}
use Rattle.tcc_rules.specs.declared.stream_fault.StreamFault.TheVariants as stream
use Rattle.tcc_print.specs.declared.run_error.RunError.{RunError}
use Rattle.tcc_print.specs.declared.run_error.RunError.TheVariants.{Reads, Text, NoMemory}

-- `NoMemory` is by itself, and other faults have their lines
abbrev pub by_stream : StreamFault → RunError
by_stream (stream.Text fault) = Text fault
by_stream stream.NoMemory = NoMemory

-- all read faults, or `NoMemory`
abbrev pub unresolved_by : ResolveFault → RunError
unresolved_by (unresolved.Reads faults) = Reads faults
unresolved_by unresolved.NoMemory = NoMemory
