-- What the parts of an answer ensure to one another.
use Rattle.std.specs.Prelude.{ℕ, ◌≡◌, List, []}
use Rattle.tcc_txn.specs.Snapshots.{Sessions}
use Rattle.tcc_reads.specs.Faults.{read_faults}
use Rattle.tcc_reads.specs.History.{History}
use Rattle.tcc_reads.specs.Sources.{history}
use Rattle.tcc_graph.specs.Labels.{labels_of}
use Rattle.tcc_reads.specs.declared.fault.ResolveFault.{ResolveFault}
use Rattle.tcc_reads.specs.declared.fault.ResolveFault.TheVariants as whole
use Rattle.tcc_explain.specs.declared.fault.NextFault.{NextFault}
use Rattle.tcc_explain.specs.declared.fault.NextFault.TheVariants as refusal

-- the history of a snapshot, where all its reads have sources, and its labels
abbrev pub IsLabelledHistory : Sessions → History → List (List ℕ) → Type 0
IsLabelledHistory s h labels = (read_faults s ≡ []) × (h ≡ history s) × (labels ≡ labels_of h)

-- the refusal of an answer on its own, as one after an earlier anomaly
abbrev pub next_fault : ResolveFault → NextFault
next_fault (whole.Reads faults) = refusal.Reads faults
next_fault whole.NoMemory = refusal.NoMemory
