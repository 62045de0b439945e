use Rattle.std.proofs.Common.{◌≡◌, ◌<◌, ◌++◌, ℕ, true, List, All, length, take, drop}
use Rattle.std.specs.Prelude.{filter_map}
use Rattle.tcc_reads.specs.Indexed.{named}
use Rattle.tcc_reads.specs.Sites.{Site, sites_from}
use Rattle.tcc_reads.specs.private.Verdicts.{writers_in, AreOwnIn, fault_found, source_found, faults_found, sources_found}
use Rattle.tcc_reads.proofs.judging.judge.Given as goal

abbrev pub invariant-loop-before : goal.invariant-loop-before
invariant-loop-before l =
    let ahead : List Site = sites_from l.located.stand (take l.before l.ops) (drop l.before l.ops) in
    record {
      writes : l.distinct ≡ true → AreOwnIn (writers_in l.writers) l.located (take l.before l.ops) (drop l.before l.ops);
      faults : l.faults.items ++ filter_map (fault_found (writers_in l.writers) l.located) ahead ≡ l.initial.faults.items
          ++ faults_found (writers_in l.writers) l.located;
      reads : named l.writers.keys l.reads.items ++ filter_map (source_found (writers_in l.writers) l.located) ahead
          ≡ sources_found (writers_in l.writers) l.located;
      within : All (λ (read : ℕ × ℕ). read.0 < length l.writers.keys) l.reads.items;
    }
