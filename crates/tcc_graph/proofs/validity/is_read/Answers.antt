use Rattle.std.proofs.Common.{ℕ, ◌≡◌, ◌∙◌, List, map, ap, rules}
use Rattle.tcc_graph.specs.KeyIndices.{name_of}
use Rattle.tcc_graph.specs.Keys.{has_name}
use Rattle.tcc_graph.specs.Relations.{reads_from}
use Rattle.tcc_graph.proofs.NamedLemmas.{read_found, found_read}
use Rattle.tcc_graph.proofs.validity.is_read.Goals as goal

pub returns-then-to-count : goal.returns-then-to-count
returns-then-to-count c =
    let h = c.args.graph.now in
    let indices = c.reads_from_at.result.now in
    let x = c.args.key.now in
    let is : c.has_key.result ≡ has_name (reads_from h c.args.from c.args.to) x
    =
    c.has_key.ensures ∙ ap (λ (ns : List (List ℕ)). has_name (map (name_of ns) indices) x) c.keys.ensures
    ∙ ap (λ (ns : List (List ℕ)). has_name ns x) c.reads_from_at.ensures.value in (
      read_found h c.args.from c.args.to x c.has_key.result (search rules) (search rules) is,
      found_read h c.args.from c.args.to x c.has_key.result (search rules) (search rules) is,
    )
