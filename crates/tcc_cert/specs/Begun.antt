-- The lines of a claim of a cycle whose rows have not all come yet.
use Rattle.std.specs.Prelude.{ℕ, ◌≡◌, List, [], ◌∷◌, ◌++◌, length, codes, decimal, flat_map}
use Rattle.tcc_graph.specs.declared.link.Link.{Link}
use Rattle.tcc_graph.specs.declared.level.Level.{Level}
use Rattle.tcc_cert.specs.declared.version.Version.{Version}
use Rattle.tcc_cert.specs.declared.cycle_writer.CycleTable.{CycleTable}
use Rattle.tcc_cert.specs.declared.cycle_writer.CycleTable.TheVariants as table
use Rattle.tcc_cert.specs.declared.cycle_writer.TableStage.{TableStage}
use Rattle.tcc_cert.specs.declared.cycle_writer.TableStage.TheVariants.{Near, Far}
use Rattle.tcc_cert.specs.declared.certificate.CycleClaim.{CycleClaim}
use Rattle.tcc_cert.specs.Texts.{Words, header_words, link_lines, table_lines}

-- the lines before the rows
abbrev pub begun_lines : Version → Level → ℕ → List Link → ℕ → List Words
begun_lines version level count links least =
    header_words version level
    ∷ (codes "cycle" ∷ decimal count ∷ decimal (length links) ∷ decimal least ∷ [])
    ∷ (flat_map link_lines links ++ (codes "near" ∷ []) ∷ [])

-- the rows of `far`, and the line with its name before the first of them
abbrev pub far_lines : List (List ℕ) → List Words
far_lines [] = []
far_lines (row ∷ rows) = (codes "far" ∷ []) ∷ table_lines (row ∷ rows)

-- the lines up to the last row that has come, of a claim about this many transactions
abbrev pub given_lines : ℕ → CycleClaim → List Words
given_lines count k = begun_lines k.version k.level count k.links k.least ++ (table_lines k.near ++ far_lines k.far)

-- more rows of a table
abbrev pub with_rows : CycleTable → CycleClaim → List (List ℕ) → CycleClaim
with_rows table.Near k rows = record k { near = k.near ++ rows }
with_rows table.Far k rows = record k { far = k.far ++ rows }

-- there may be more rows of the table: none of `near` comes after one of `far`
abbrev pub MayTake : CycleTable → CycleClaim → Type 0
MayTake table.Near k = k.far ≡ []
MayTake table.Far k = Unit {0}

-- rows of `far` come after those of `near`
abbrev pub stage_of : List (List ℕ) → TableStage
stage_of [] = Near
stage_of (row ∷ rows) = Far
