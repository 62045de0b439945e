-- Two inputs with the same records of each session, interleaved anyhow.
use Rattle.std.specs.Prelude.{ℕ, List}
use Rattle.tcc_rows.specs.Answers.{records_of}
use Rattle.tcc_rows.specs.Interleaved.{AreSealedAlike}

-- each session has the same records in both inputs, in the same order, and the seals come after the same records of each session
abbrev pub AreInterleaved : List ℕ → List ℕ → Type 0
AreInterleaved some other = AreSealedAlike (records_of some) (records_of other)
