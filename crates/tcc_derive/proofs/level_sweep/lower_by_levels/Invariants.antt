use Rattle.std.proofs.Common.{◌≡◌, ◌≤◌, ℕ, length, slice_index}
use Rattle.tcc_near.specs.declared.walk_lengths.TheConstants.{NONE}
use Rattle.tcc_bits.specs.Bits.{words_for}
use Rattle.tcc_derive.specs.private.Sources.{IsCovered, LowersUpTo}
use Rattle.tcc_derive.proofs.level_sweep.lower_by_levels.Given as goal

abbrev pub invariant-loop-distance : goal.invariant-loop-distance
invariant-loop-distance l =
    (length l.seen.items ≡ words_for (length l.steps))
    × (length l.nearest ≡ length l.initial.nearest)
    × IsCovered l.seen.items l.nearest l.distance
    × LowersUpTo l.reads l.steps l.distance 0 l.initial.nearest l.nearest
    × ((a : ℕ) → slice_index l.initial.nearest a ≤ NONE)
