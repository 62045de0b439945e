use Rattle.std.proofs.Common.{◌≡◌, ◌≤◌, ◌++◌, length, reverse}
use Rattle.tcc_order.specs.private.Chains.{chain}
use Rattle.tcc_order.proofs.chains.Chains.append_to.Given as goal

abbrev pub invariant-loop-start : goal.invariant-loop-start
invariant-loop-start g l =
    (l.start ≤ length l.self-inside.links.items)
    × (l.list.items ++ chain (reverse l.self-inside.links.items) l.start ≡ l.initial.list.items ++ chain (reverse l.self-inside.links.items) l.initial.start)

abbrev pub decreases-loop-start : goal.decreases-loop-start
decreases-loop-start g l = l.start
