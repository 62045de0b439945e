use Rattle.std.proofs.Common.{ℕ, ◌≡◌, ◌||◌, List, drop}
use Rattle.std.specs.BTreeSet.{contains}
use Rattle.std.specs.List.{list_any}
use Rattle.tcc_reads.specs.Sources.{pair_cmp}
use Rattle.tcc_reads.specs.Traced.{is_rewrite}
use Rattle.tcc_reads.proofs.tracing.rewrites.Given as goal

abbrev pub invariant-loop-fault : goal.invariant-loop-fault
invariant-loop-fault l =
    (r : List ℕ × ℕ) → (contains pair_cmp l.found r || list_any (is_rewrite r.0 r.1) (drop l.fault-index l.faults)) ≡ list_any (is_rewrite r.0 r.1) l.faults
