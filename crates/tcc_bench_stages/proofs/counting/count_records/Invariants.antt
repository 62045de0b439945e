use Rattle.std.proofs.Common.{◌≡◌, ℕ, List, Some, length}
use Rattle.csv.specs.Reading.{Reached, Ready, default_config, source_of, strip_bom}
use Rattle.csv.specs.declared.parser.State.TheVariants as st
use Rattle.csv.specs.declared.reader.Trim.TheVariants as trim
use Rattle.tcc_bench_stages.proofs.counting.count_records.Given as goal

abbrev pub invariant-loop-count : goal.invariant-loop-count
invariant-loop-count g l = (l.rows.trim ≡ trim.None) × Ready l.rows × (l.rows.config ≡ default_config)
    × ((text : List ℕ) → g.R.Read.remaining l.fn.source ≡ Some text → (seen : List (List (List ℕ))) × (left : List ℕ)
    × (source_of g.R.Read.remaining l.rows ≡ Some left) × Reached default_config st.StartRecord (strip_bom text) seen l.rows.state left
    × (length seen ≡ l.count))
