use Rattle.std.proofs.Common.{◌≡◌, ◌++◌, take, ap}
use Rattle.std.proofs.lemmas.List.{take_all}
use Rattle.tcc_clocks.proofs.LatestLemmas.{sources_of_reads, sources_inside}
use Rattle.tcc_clocks.proofs.parents.add_sources.Goals as goal

pub returns-clause-found : goal.returns-clause-found
returns-clause-found c =
    let reads = c.reads_at-read-items.result.now in
    let all : take c.loop-read.read-index reads ≡ reads = take_all c.loop-read.read-index reads c.loop-read-test.false in
    rw (c.loop-read.invariant, all) (ap (λ s. c.args.found.now.items ++ s) (sources_of_reads c.args.graph.now c.args.c reads c.reads_at-read-items.ensures.value))

pub returns-clause-sources : goal.returns-clause-sources
returns-clause-sources c =
    sources_inside c.args.graph.now c.args.c c.reads_at-read-items.result.now c.reads_at-read-items.ensures.value c.reads_at-read-items.ensures.within
