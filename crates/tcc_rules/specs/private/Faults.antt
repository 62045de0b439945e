-- Which fault of a text says that memory was refused.
use Rattle.std.specs.Prelude.{Bool, true, false, if◌then◌else◌}
use Rattle.tcc_cert.specs.declared.fault.CertFault.{CertFault}
use Rattle.tcc_cert.specs.declared.fault.CertFaultKind.TheVariants as kind
use Rattle.tcc_cert.specs.declared.fault.CertFaultKind.{CertFaultKind}
use Rattle.tcc_rules.specs.declared.stream_fault.StreamFault.{StreamFault}
use Rattle.tcc_rules.specs.declared.stream_fault.StreamFault.TheVariants.{Text, NoMemory}

abbrev pub is_want_of_memory : CertFaultKind → Bool
is_want_of_memory kind.NoMemory = true
is_want_of_memory _ = false

-- `NoMemory` is a fault of its own, and other faults come with their lines
abbrev pub fault_of : CertFault → StreamFault
fault_of fault = if is_want_of_memory fault.kind then NoMemory else Text fault
