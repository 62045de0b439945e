-- A snapshot has only one verdict at a level.
use Rattle.std.proofs.Common.{◌≡◌, refl}
use Rattle.tcc_txn.specs.Snapshots.{Sessions}
use Rattle.tcc_graph.specs.declared.level.Level.{Level}
use Rattle.tcc_watch.specs.Verdicts.{IsVerdict}
use Rattle.tcc_watch.specs.declared.verdict.WatchVerdict.{WatchVerdict}
use Rattle.tcc_watch.specs.declared.verdict.WatchVerdict.TheVariants as verdict

pub one_verdict : (s : Sessions) (level : Level) (v : WatchVerdict) (w : WatchVerdict) → IsVerdict s level v → IsVerdict s level w → v ≡ w
one_verdict s level verdict.Consistent verdict.Consistent a b = refl
one_verdict s level verdict.Consistent verdict.Anomaly a b = absurd (a.1 b.1)
one_verdict s level verdict.Consistent verdict.Unresolved a b = absurd (b a.0)
one_verdict s level verdict.Anomaly verdict.Consistent a b = absurd (b.1 a.1)
one_verdict s level verdict.Anomaly verdict.Anomaly a b = refl
one_verdict s level verdict.Anomaly verdict.Unresolved a b = absurd (b a.0)
one_verdict s level verdict.Unresolved verdict.Consistent a b = absurd (a b.0)
one_verdict s level verdict.Unresolved verdict.Anomaly a b = absurd (a b.0)
one_verdict s level verdict.Unresolved verdict.Unresolved a b = refl
