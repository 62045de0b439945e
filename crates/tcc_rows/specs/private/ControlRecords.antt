-- The lines that are not operations, by what is read of their records.
use Rattle.std.specs.Prelude.{Result, Ok, Err}
use Rattle.tcc_rows.specs.Line.{Line}
use Rattle.tcc_rows.specs.Line as line
use Rattle.tcc_rows.specs.declared.fault.RowFaultKind.{RowFaultKind}
use Rattle.tcc_rows.specs.declared.rows.line.ControlRecord.{ControlRecord}
use Rattle.tcc_rows.specs.declared.rows.line.ControlRecord.TheVariants as turn

-- the line of such a record
abbrev pub line_by : ControlRecord → Line
line_by turn.Seal = line.Seal
line_by (turn.Begin session) = line.Begin session
line_by (turn.Finish session committed) = line.Finish session committed
line_by (turn.Unknown session) = line.Unknown session

-- the line of a record, or what is wrong with it
abbrev pub read_as : Result ControlRecord RowFaultKind → Result Line RowFaultKind
read_as (Ok turn) = Ok (line_by turn)
read_as (Err k) = Err k
