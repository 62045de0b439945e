-- What a writer of a claim of a cycle was given so far.
use Rattle.std.specs.Prelude.{ℕ, ◌≡◌, List, [], Option, ◌++◌}
use Rattle.tcc_cert.specs.declared.cycle_writer.CycleWriter.{CycleWriter}
use Rattle.tcc_cert.specs.declared.cycle_writer.TableStage.TheVariants.{Failed}
use Rattle.tcc_cert.specs.declared.certificate.CycleClaim.{CycleClaim}
use Rattle.tcc_cert.specs.Texts.{lines_text}
use Rattle.tcc_cert.specs.Begun.{given_lines, stage_of}
use Rattle.std.specs.Io.KnownBytes.{Appends}

-- the bytes that were held were written, and then the text, up to the bytes that are left
pub record Sends (before : Option (List ℕ)) (held : List ℕ) (after : Option (List ℕ)) (left : List ℕ) (text : List ℕ) : Type 0 where
  pub sent : List ℕ
  pub appended : Appends before after sent
  pub whole : held ++ text ≡ sent ++ left

-- a write has failed
abbrev pub HasFailed : {W : Type 0} → CycleWriter W → Type 0
HasFailed writer = writer.stage ≡ Failed

-- it was given these rows of a claim about this many transactions: their lines were written after what its output had before, or wait to be
pub record HasTaken {W : Type 0} (contents : W → Option (List ℕ)) (before : Option (List ℕ)) (count : ℕ) (k : CycleClaim)
    (writer : CycleWriter W) : Type 0 where
  pub lines : Sends before [] (contents writer.out.now) writer.outgoing (lines_text (given_lines count k))
  pub stage : writer.stage ≡ stage_of k.far
