-- the labels so far
use Rattle.std.proofs.Common.{◌≡◌, take}
use Rattle.tcc_answer.specs.Texts.{labels_text}
use Rattle.tcc_answer.proofs.text.labels_text.Given as goal

abbrev pub invariant-loop-number : goal.invariant-loop-number
invariant-loop-number l = l.text.items ≡ labels_text l.labels (take l.number-index l.numbers)
