use Rattle.std.proofs.Common.{◌≡◌, ◌<◌, Contains}
use Rattle.tcc_bench_shared.specs.declared.bounds.Call.TheVariants.{Offer}
use Rattle.tcc_bench_shared.proofs.bounds.call_often.Given as goal

-- counting down, the cost is that of the last call
abbrev pub invariant-loop-cost : goal.invariant-loop-cost
invariant-loop-cost l = (l.seat.bound ≡ l.bound) × (l.seat.known.floor ≡ 0)
    × (l.fn.call ≡ Offer → l.cost < l.fn.times → Contains l.seat.known.offers l.cost)
