-- Bytes on their way out: some were written, some are gathered.
use Rattle.std.specs.Prelude.{ℕ, List, Option, Result, MatchResult, [], ◌∷◌, codes}
use Rattle.tcc_cert.specs.Given.{Sends}
use Rattle.tcc_cert.specs.Texts.{line_text}
use Rattle.tcc_cert.specs.declared.cycle_writer.CycleTable.{CycleTable}
use Rattle.tcc_cert.specs.declared.cycle_writer.CycleTable.TheVariants as table
use Rattle.tcc_cert.specs.declared.cycle_writer.TableStage.TheVariants.{Near, Far, Failed}
use Rattle.tcc_cert.specs.declared.cycle_writer.TableStage.{TableStage}

-- the line that has to be written before a row of `far` or the end
abbrev pub far_mark : TableStage → List ℕ
far_mark Near = line_text (codes "far" ∷ [])
far_mark Far = []
far_mark Failed = []

-- the line that has to be written before a row of a table, and where the writing is then
abbrev pub mark_before : CycleTable → TableStage → List ℕ
mark_before table.Near stage = []
mark_before table.Far stage = far_mark stage

abbrev pub stage_behind : CycleTable → TableStage → TableStage
stage_behind table.Near stage = stage
stage_behind table.Far stage = Far

-- a part of the bytes that were held and of the text was written, from the front
abbrev pub Stops : Option (List ℕ) → List ℕ → Option (List ℕ) → List ℕ → Type 0
Stops before held after text = (left : List ℕ) × Sends before held after left text

-- the text is on its way as a whole, or only a part of it was written
abbrev pub IsSent : {X E : Type 0} → Result X E → Option (List ℕ) → List ℕ → Option (List ℕ) → List ℕ → List ℕ → Type 0
IsSent result before held after left text =
    MatchResult result (λ _. Sends before held after left text) (λ _. Stops before held after text)
