-- it is the last one so far
use Rattle.std.proofs.Common.{◌≡◌, map, take}
use Rattle.tcc_batch.specs.Headlines.{last_beginning}
use Rattle.tcc_batch.proofs.headline.last_beginning.Given as goal

abbrev pub invariant-loop-line : goal.invariant-loop-line
invariant-loop-line l = l.found ≡ last_beginning (map (λ line. line.now) (take l.line-index l.lines))
