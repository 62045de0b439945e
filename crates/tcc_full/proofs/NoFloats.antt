-- No object has floats.
use Rattle.std.proofs.Common.{◌≡◌, ℕ, ◌-◌, false, List, Option, None, Some, refl}
use Rattle.serde_json.specs.Data.{Data}
use Rattle.serde_json.specs.Written.{has_float, members_have_float}
use Rattle.tcc_reads.specs.declared.fault.ReadFault.{ReadFault}
use Rattle.tcc_rows.specs.declared.fault.RowFault.{RowFault}
use Rattle.tcc_rows.specs.declared.fault.RowFaultKind.{RowFaultKind}
use Rattle.tcc_rows.specs.declared.fault.RowFaultKind.TheVariants as row
use Rattle.tcc_graph.specs.declared.step.Step.{Step}
use Rattle.tcc_graph.specs.declared.step.Step.TheVariants as step
use Rattle.tcc_print.specs.Json.{row_fault_json, row_session_json}
use Rattle.tcc_print.specs.declared.status.Status.{Status}
use Rattle.tcc_full.specs.Links.{reads_json, row_json, step_json}
use Rattle.tcc_full.specs.Objects.{fault_json, field_name, name_json, none_json}
use Rattle.tcc_full.specs.Records.{Records, read_row, write_row}
use Rattle.tcc_full.specs.Rows.{row_of}
use Rattle.tcc_full.specs.private.Framing.{walk_after, walk_before}
use Rattle.tcc_full.specs.declared.objects.ReportOptions.{ReportOptions}

in_row : (found : Option ℕ) → has_float (row_json found) ≡ false
in_row None = refl
in_row (Some n) = refl

pub in_reads : (r : Records) (u v : ℕ) (key : List ℕ) → has_float (reads_json r u v key) ≡ false
in_reads r u v key = rw (in_row (read_row r u v key), in_row (write_row r u key)) refl

pub in_step : (r : Records) (one : Step) → has_float (step_json r one) ≡ false
in_step r (step.Session u v) = refl
in_step r (step.Reads u v key) = in_reads r u v key

-- what a derived link has before its walk, and what it has after it
pub in_walk_before : (from key reader to : List ℕ) (missed read : Option ℕ) (value : ℕ)
    → has_float (walk_before from key reader to (row_json missed) (row_json read) value) ≡ false
in_walk_before from key reader to missed read value = rw (in_row missed, in_row read) refl

pub in_walk_after : (written : Option ℕ) → has_float (walk_after (row_json written)) ≡ false
in_walk_after written = rw (in_row written) refl

in_name : (name : Option (List ℕ)) → has_float (name_json name) ≡ false
in_name None = refl
in_name (Some name) = refl

pub in_fault : (r : Records) (fault : ReadFault) → has_float (fault_json r fault) ≡ false
in_fault r fault = rw (in_name (field_name fault.kind), in_row (row_of r.rows fault.session fault.place (fault.op - 1))) refl

pub in_none : (asked : ReportOptions) (fault : Data) (status : Status) → has_float fault ≡ false → has_float (none_json asked fault status) ≡ false
in_none asked fault status plain = rw plain refl

in_session : (k : RowFaultKind) → members_have_float (row_session_json k) ≡ false
in_session (row.Unfinished session) = refl
in_session row.FieldCount = refl
in_session row.BadSession = refl
in_session row.UnknownWord = refl
in_session row.BadKey = refl
in_session row.BadValue = refl
in_session row.WriteOfZero = refl
in_session row.SessionEnded = refl
in_session row.NotBegun = refl
in_session row.AlreadyBegun = refl
in_session row.TooManyOps = refl
in_session row.TooManySessions = refl
in_session row.TooManyTransactions = refl
in_session row.TooManyKeys = refl
in_session row.TooManySeals = refl
in_session row.Read = refl
in_session row.NoMemory = refl

pub in_row_fault : (fault : RowFault) → has_float (row_fault_json fault) ≡ false
in_row_fault fault = rw (in_session fault.kind) refl
