-- the steps so far are at the end
use Rattle.std.proofs.Common.{◌≡◌, ◌++◌, take}
use Rattle.tcc_answer.specs.Texts.{walk_text}
use Rattle.tcc_answer.proofs.text.push_walk.Given as goal

abbrev pub invariant-loop-step : goal.invariant-loop-step
invariant-loop-step l = l.text.items ≡ l.initial.text.items ++ walk_text l.labels (take l.step-index l.walk)
