-- The words by which stages are asked for.
use Rattle.std.specs.Prelude.{ℕ, List, codes}
use Rattle.tcc_bench_stages.specs.declared.TimedStage.{TimedStage}
use Rattle.tcc_bench_stages.specs.declared.TimedStage.TheVariants.{Csv, Rows, Snapshot, Resolve, Graph, Order, Near, Derive}
use Rattle.tcc_bench_stages.specs.declared.TimedStage.TheVariants.{LargeSnapshot, LargeResolve, LargeGraph, LargeOrder, LargeCycle, LargeSlice, LargeAnswer, LargeSurvey, SurveyAnswer}

abbrev pub word_of : TimedStage → List ℕ
word_of Csv = codes "csv"
word_of Rows = codes "rows"
word_of Snapshot = codes "snapshot"
word_of Resolve = codes "resolve"
word_of Graph = codes "graph"
word_of Order = codes "order"
word_of Near = codes "near"
word_of Derive = codes "derive"
word_of LargeSnapshot = codes "large-snapshot"
word_of LargeResolve = codes "large-resolve"
word_of LargeGraph = codes "large-graph"
word_of LargeOrder = codes "large-order"
word_of LargeCycle = codes "large-cycle"
word_of LargeSlice = codes "large-slice"
word_of LargeAnswer = codes "large-answer"
word_of LargeSurvey = codes "large-survey"
word_of SurveyAnswer = codes "survey-answer"
