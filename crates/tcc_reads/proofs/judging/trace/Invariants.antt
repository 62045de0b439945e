use Rattle.std.proofs.Common.{◌≡◌, ◌<◌, ◌++◌, ℕ, List, All, length, take, drop}
use Rattle.std.specs.Prelude.{filter_map}
use Rattle.tcc_reads.specs.Indexed.{named}
use Rattle.tcc_reads.specs.Sites.{Site, sites_from}
use Rattle.tcc_reads.specs.private.Verdicts.{writers_in}
use Rattle.tcc_reads.specs.private.Tracings.{is_outside, source_traced, sources_traced}
use Rattle.tcc_reads.proofs.judging.trace.Given as goal

abbrev pub invariant-loop-before : goal.invariant-loop-before
invariant-loop-before l =
    let ahead : List Site = sites_from l.located.stand (take l.before l.ops) (drop l.before l.ops) in
    record {
      reads : named l.writers.keys l.reads.items ++ filter_map (source_traced (writers_in l.writers) (is_outside l.rewrites) l.located) ahead
          ≡ sources_traced (writers_in l.writers) (is_outside l.rewrites) l.located;
      within : All (λ (read : ℕ × ℕ). read.0 < length l.writers.keys) l.reads.items;
    }
