use Rattle.std.proofs.Common.{ℕ, ◌≡◌, ◌∙◌, List, map, ap, rules}
use Rattle.tcc_reads.specs.History.{entry_at}
use Rattle.tcc_graph.specs.KeyIndices.{name_of}
use Rattle.tcc_graph.specs.Keys.{has_name}
use Rattle.tcc_graph.proofs.NamedLemmas.{write_found, found_write}
use Rattle.tcc_graph.proofs.validity.is_writer.Goals as goal

pub returns-else-writer-eq0 : goal.returns-else-writer-eq0
returns-else-writer-eq0 c =
    let h = c.args.graph.now in
    let x = c.args.key.now in
    let is : c.has_key.result ≡ has_name (entry_at h c.args.writer).writes x
    =
    c.has_key.ensures ∙ ap (λ (ns : List (List ℕ)). has_name (map (name_of ns) c.writes_at.result.now) x) c.keys.ensures
    ∙ ap (λ (ns : List (List ℕ)). has_name ns x) c.writes_at.ensures.value in (
      write_found h c.args.writer x c.has_key.result (search rules) c.if-writer-eq0.false is,
      found_write h c.args.writer x c.has_key.result (search rules) c.if-writer-eq0.false is,
    )
