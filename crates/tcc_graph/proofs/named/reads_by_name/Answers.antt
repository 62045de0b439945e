use Rattle.std.proofs.Common.{ℕ, ◌≡◌, ◌<◌, List, ap, ◌∙◌}
use Rattle.std.proofs.lemmas.List.{take_all}
use Rattle.std.proofs.lemmas.List.Elements.{All-map}
use Rattle.tcc_reads.specs.History.{count}
use Rattle.tcc_graph.specs.KeyIndices.{name_of}
use Rattle.tcc_graph.specs.Keys.{keys}
use Rattle.tcc_reads.specs.Indexed.{named}
use Rattle.tcc_graph.proofs.named.reads_by_name.Goals.{After-loop-key_index}
use Rattle.tcc_graph.proofs.named.reads_by_name.Goals as goal

all_named : (c : After-loop-key_index) → c.loop-key_index.names.items ≡ named (keys c.args.graph.now) c.reads_at-reads.result.now
all_named c =
    let reads : List (ℕ × ℕ) = c.reads_at-reads.result.now in
    c.loop-key_index.invariant ∙ ap (named c.keys-keys.result.now) (take_all c.loop-key_index.key_index-index reads c.loop-key_index-test.false)
    ∙ ap (λ (names : List (List ℕ)). named names reads) c.keys-keys.ensures

pub returns-clause-value : goal.returns-clause-value
returns-clause-value c = all_named c ∙ c.reads_at-reads.ensures.value

pub returns-clause-sources : goal.returns-clause-sources
returns-clause-sources c =
    rw (all_named c) (All-map (λ read. read.1 < count c.args.graph.now) (λ read. (name_of (keys c.args.graph.now) read.0, read.1)) c.reads_at-reads.result.now
    (λ k d within. (c.reads_at-reads.ensures.within k d within).1))
