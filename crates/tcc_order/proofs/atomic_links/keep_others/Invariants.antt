use Rattle.std.proofs.Common.{◌≡◌, length, take}
use Rattle.tcc_order.proofs.Stepped.{Adds}
use Rattle.tcc_order.proofs.atomic_links.keep_others.Given as goal

abbrev pub invariant-loop-number : goal.invariant-loop-number
invariant-loop-number l =
    (length l.places ≡ length l.initial.places)
    × Adds l.writers l.a l.initial.kept (take l.number-index l.numbers) l.kept
