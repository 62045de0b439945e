use Rattle.std.proofs.Common.{◌≡◌, ◌<◌, ℕ, length, get_or}
use Rattle.tcc_derive.specs.Prices.{IsEnd}
use Rattle.tcc_derive.proofs.others.session_ends.Given as goal

abbrev pub invariant-loop-u : goal.invariant-loop-u
invariant-loop-u l = (length l.ends.items ≡ l.u) × ((w d : ℕ) → w < l.u → IsEnd l.graph w (get_or l.ends.items w d))
