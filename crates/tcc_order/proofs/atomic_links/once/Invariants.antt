use Rattle.std.proofs.Common.{◌≡◌, ◌↔◌, ℕ, length, take}
use Rattle.std.specs.Prelude.{Contains}
use Rattle.tcc_order.proofs.atomic_links.once.Given as goal

abbrev pub invariant-loop-number : goal.invariant-loop-number
invariant-loop-number l =
    (length l.places ≡ length l.initial.places) × ((b : ℕ) → Contains l.row b ↔ Contains (take l.number-index l.numbers) b)
