-- the text has the lines so far
use Rattle.std.proofs.Common.{◌≡◌, map, take}
use Rattle.tcc_batch.specs.Lines.{lines_text}
use Rattle.tcc_batch.proofs.lines.lines_text.Given as goal

abbrev pub invariant-loop-history : goal.invariant-loop-history
invariant-loop-history g l =
    l.text.items ≡ lines_text l.options (map (λ history. history.report) (take l.history-index l.histories))
