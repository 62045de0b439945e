-- How far into its bytes a reader's input is.
use Rattle.std.specs.Prelude.{ℕ, ◌≡◌, List, drop, Option, Some, IsTrue}
use Rattle.std.specs.Io.KnownBytes.{prepend_known}
use Rattle.tcc_cert.specs.declared.reading.input.Input.{Input}
use Rattle.tcc_cert.specs.WindowBytes.{window_bytes}
use Rattle.tcc_cert.specs.Reading.{Position}

-- a read of the input's reader has failed
abbrev pub HasFailed : {R : Type 0} → Input R → Type 0
HasFailed input = IsTrue input.source.failed

-- after the last line the input has these bytes, from the line with this number on
pub record IsAt {R : Type 0} (remaining : R → Option (List ℕ)) (input : Input R) (at : Position) : Type 0 where
  pub number : input.number ≡ at.line
  pub bytes : prepend_known (drop input.passed (window_bytes input.window)) (remaining input.source.reader) ≡ Some at.bytes
