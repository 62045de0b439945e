use Rattle.std.proofs.Common.{◌≡◌, length}
use Rattle.tcc_order.proofs.ShareLemmas.{JoinedBelow}
use Rattle.tcc_order.proofs.shares.join.Given as goal

abbrev pub invariant-loop-number : goal.invariant-loop-number
invariant-loop-number l = (length l.joined ≡ l.number) × JoinedBelow l.kept l.part l.joined l.number
