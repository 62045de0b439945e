-- The tables of a claim, whose rows come one at a time.
use Rattle.std.specs.Prelude.{ℕ, ◌+◌, ◌-◌, List, codes}
use Rattle.tcc_cert.specs.declared.version.Version.{Version}
use Rattle.tcc_cert.specs.declared.part.Part.{Part}
use Rattle.tcc_cert.specs.declared.part.Part.TheVariants as part
use Rattle.tcc_cert.specs.declared.reading.shape.TableShape.{TableShape}
use Rattle.tcc_cert.specs.declared.reading.shape.TableShape.TheVariants as shape
use Rattle.tcc_cert.specs.declared.ranges.TextFormat.TheVariants.{Small}
use Rattle.tcc_cert.specs.Ranges.{ranges_of}
use Rattle.tcc_cert.specs.Tables.{lowest}
use Rattle.tcc_cert.specs.Reading.{Position, numbers_line, word_line, words}
use Rattle.tcc_cert.specs.Parts.{◌>>>◌, Parts, end_parts, far_parts, rows_then}

-- the word of the line before its rows
abbrev pub word_before : TableShape → List ℕ
word_before (shape.Clocks transactions sessions) = codes "clocks"
word_before (shape.Near transactions) = codes "near"
word_before (shape.Far transactions) = codes "far"

-- how many rows it has
abbrev pub height : TableShape → ℕ
height (shape.Clocks transactions sessions) = transactions
height (shape.Near transactions) = transactions
height (shape.Far transactions) = transactions

-- how many numbers a row has
abbrev pub columns_in : Version → TableShape → ℕ → ℕ
columns_in version (shape.Clocks transactions sessions) row = sessions
columns_in version (shape.Near transactions) row = transactions
columns_in version (shape.Far transactions) row = transactions - lowest version row

-- the greatest number that may be in it
abbrev pub most_in : Version → TableShape → ℕ
most_in version (shape.Clocks transactions sessions) = (ranges_of version).number
most_in version (shape.Near transactions) = (ranges_of version).cost
most_in version (shape.Far transactions) = (ranges_of version).cost

-- a row of it as a part of the text
abbrev pub part_of : TableShape → List ℕ → Part
part_of (shape.Clocks transactions sessions) row = part.Clocks row
part_of (shape.Near transactions) row = part.Near row
part_of (shape.Far transactions) row = part.Far row

-- what comes after its last row
abbrev pub behind_table : Version → TableShape → Position → Parts
behind_table version (shape.Clocks transactions sessions) at = end_parts version at
behind_table version (shape.Near transactions) at = far_parts version transactions at
behind_table version (shape.Far transactions) at = end_parts version at

-- its rows from a row on, of which this many are left, and what comes after them
abbrev pub table_rows : Version → TableShape → ℕ → ℕ → Position → Parts
table_rows version table from left at =
    rows_then (part_of table) (λ row. words (Small version) (numbers_line (columns_in version table row) (most_in version table)))
    (behind_table version table) from left at

-- the line before its rows, and these
abbrev pub table_parts : Version → TableShape → Position → Parts
table_parts version table at = words (Small version) (word_line (word_before table)) at >>> λ mark. table_rows version table 0 (height table) mark.1

-- how many rows come before the end where this many of the table are left
abbrev pub rows_from : TableShape → ℕ → ℕ
rows_from (shape.Clocks transactions sessions) left = left
rows_from (shape.Near transactions) left = left + transactions
rows_from (shape.Far transactions) left = left

-- how many links and rows come before the end where this many links are left
abbrev pub links_from : ℕ → ℕ → ℕ
links_from transactions left = left + (transactions + transactions)
