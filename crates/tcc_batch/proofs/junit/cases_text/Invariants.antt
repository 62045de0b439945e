-- the text has the test cases so far
use Rattle.std.proofs.Common.{◌≡◌, map, take, flat_map}
use Rattle.tcc_batch.specs.Junit.{case_text}
use Rattle.tcc_batch.proofs.junit.cases_text.Given as goal

abbrev pub invariant-loop-history : goal.invariant-loop-history
invariant-loop-history g l =
    l.text.items ≡ flat_map case_text (map (λ history. history.report) (take l.history-index l.histories))
