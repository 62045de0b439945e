-- How large the ranges of the versions are.
use Rattle.std.proofs.Common.{◌≤◌, lit≤}
use Rattle.tcc_cert.specs.declared.version.Version.{Version}
use Rattle.tcc_cert.specs.declared.version.Version.TheVariants.{One, Two}
use Rattle.tcc_cert.specs.declared.ranges.TextFormat.{TextFormat}
use Rattle.tcc_cert.specs.declared.ranges.TextFormat.TheVariants.{Small, Large}
use Rattle.tcc_cert.specs.Ranges.{ranges_at, ranges_of}

pub costs : (v : Version) → (ranges_of v).cost ≤ 16781312
costs One = lit≤ tt
costs Two = lit≤ tt

pub numbers : (v : TextFormat) → (ranges_at v).number ≤ 16777215
numbers (Small One) = lit≤ tt
numbers (Small Two) = lit≤ tt
numbers Large = lit≤ tt

pub counts : (v : TextFormat) → (ranges_at v).count ≤ 16777216
counts (Small One) = lit≤ tt
counts (Small Two) = lit≤ tt
counts Large = lit≤ tt

pub lines : (v : TextFormat) → 127 ≤ (ranges_at v).line_bytes
lines (Small One) = lit≤ tt
lines (Small Two) = lit≤ tt
lines Large = lit≤ tt

pub numbers_costs : (v : Version) → (ranges_of v).number ≤ (ranges_of v).cost
numbers_costs One = lit≤ tt
numbers_costs Two = lit≤ tt

pub sessions_are : (v : Version) → (ranges_of v).sessions ≤ 64
sessions_are One = lit≤ tt
sessions_are Two = lit≤ tt

pub sessions_counts : (v : Version) → (ranges_of v).sessions ≤ (ranges_of v).count
sessions_counts One = lit≤ tt
sessions_counts Two = lit≤ tt
