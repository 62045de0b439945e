-- the rows and starts of those before
use Rattle.std.proofs.Common.{◌≡◌, map}
use Rattle.tcc_core.specs.Shares.{capped}
use Rattle.tcc_steal.proofs.branch_and_bound.found.Given as goal

abbrev pub invariant-loop-searched : goal.invariant-loop-searched
invariant-loop-searched l =
    (l.rows.items ≡ map (λ e. map (capped l.least) e.row) l.yielded)
    × (l.starts.items ≡ map (λ e. (e.worker, e.start)) l.yielded)
