use Rattle.std.proofs.Common.{◌≡◌, ℕ, List, length}
use Rattle.tcc_derive.specs.private.Sources.{AreSources, IsCovered, LowersUpTo}
use Rattle.tcc_derive.specs.declared.read.Read.{Read}
use Rattle.tcc_derive.proofs.level_sweep.take_level.Given as goal

abbrev pub invariant-loop-reader : goal.invariant-loop-reader
invariant-loop-reader l =
    (length l.seen ≡ length l.initial.seen)
    × (length l.nearest ≡ length l.initial.nearest)
    × IsCovered l.seen l.nearest l.distance
    × ((reads : List Read) (old : List ℕ) → AreSources (length l.steps) reads l.rows → LowersUpTo reads l.steps l.distance 0 old l.initial.nearest
    → LowersUpTo reads l.steps l.distance l.reader old l.nearest)
