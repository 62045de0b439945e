-- The kinds of faults that end a run: the word for each, and how the run ends.
use Rattle.std.specs.Prelude.{ℕ, List, codes}
use Rattle.tcc_rows.specs.declared.fault.RowFaultKind.{RowFaultKind}
use Rattle.tcc_rows.specs.declared.fault.RowFaultKind.TheVariants as row_kind
use Rattle.tcc_cert.specs.declared.fault.CertFaultKind.{CertFaultKind}
use Rattle.tcc_cert.specs.declared.fault.CertFaultKind.TheVariants as text_kind
use Rattle.tcc_print.specs.declared.status.Status.{Status}
use Rattle.tcc_print.specs.declared.status.Status.TheVariants.{RowFault, Limit, Memory, Device, CertificateFault}

-- how a kind of fault is reported: its word, and the status of a run that it ended
pub record KindReport : Type 0 where
  pub word : List ℕ
  pub status : Status

-- a limit of the records that is passed
abbrev passed_limit : List ℕ → KindReport
passed_limit word = record { word = word; status = Limit }

-- a kind of row fault
abbrev pub row_told : RowFaultKind → KindReport
row_told row_kind.FieldCount = record { word = codes "FieldCount"; status = RowFault }
row_told row_kind.BadSession = record { word = codes "BadSession"; status = RowFault }
row_told row_kind.UnknownWord = record { word = codes "UnknownWord"; status = RowFault }
row_told row_kind.BadKey = record { word = codes "BadKey"; status = RowFault }
row_told row_kind.BadValue = record { word = codes "BadValue"; status = RowFault }
row_told row_kind.WriteOfZero = record { word = codes "WriteOfZero"; status = RowFault }
row_told row_kind.SessionEnded = record { word = codes "SessionEnded"; status = RowFault }
row_told row_kind.NotBegun = record { word = codes "NotBegun"; status = RowFault }
row_told row_kind.AlreadyBegun = record { word = codes "AlreadyBegun"; status = RowFault }
row_told row_kind.TooManyOps = passed_limit (codes "TooManyOps")
row_told row_kind.TooManySessions = passed_limit (codes "TooManySessions")
row_told row_kind.TooManyTransactions = passed_limit (codes "TooManyTransactions")
row_told row_kind.TooManyKeys = passed_limit (codes "TooManyKeys")
row_told row_kind.TooManySeals = passed_limit (codes "TooManySeals")
row_told (row_kind.Unfinished session) = record { word = codes "Unfinished"; status = RowFault }
row_told row_kind.Read = record { word = codes "Read"; status = Device }
row_told row_kind.NoMemory = record { word = codes "NoMemory"; status = Memory }

-- a certificate whose text is wrong
abbrev wrong_text : List ℕ → KindReport
wrong_text word = record { word = word; status = CertificateFault }

-- a kind of fault in the text of a certificate
abbrev pub certificate_told : CertFaultKind → KindReport
certificate_told text_kind.Header = wrong_text (codes "Header")
certificate_told text_kind.Word = wrong_text (codes "Word")
certificate_told text_kind.Number = wrong_text (codes "Number")
certificate_told text_kind.Count = wrong_text (codes "Count")
certificate_told text_kind.TooLarge = wrong_text (codes "TooLarge")
certificate_told text_kind.Truncated = wrong_text (codes "Truncated")
certificate_told text_kind.Trailing = wrong_text (codes "Trailing")
certificate_told text_kind.Read = record { word = codes "Read"; status = Device }
certificate_told text_kind.NoMemory = record { word = codes "NoMemory"; status = Memory }
