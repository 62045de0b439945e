use Rattle.std.proofs.Common.{List, ℕ, sym, subst, ◌∙◌}
use Rattle.std.specs.List.{Contains}
use Rattle.std.specs.List.Sorted.{IsNonDecreasing}
use Rattle.std.proofs.lemmas.Bool.{false≢true}
use Rattle.tcc_graph.specs.Keys.{key_at, writers}
use Rattle.tcc_graph.proofs.Pairs.{pair_kinds, pair_from_kinds}
use Rattle.tcc_graph.proofs.WriterLemmas.{writer_writes, writer_listed}
use Rattle.tcc_least.proofs.Within.{writers_rise}
use Rattle.tcc_first.proofs.cheapest_links.is_contradicted.Goals as goal

pub has_number-requires : goal.has_number-requires
has_number-requires c = subst (λ (z : List ℕ). IsNonDecreasing z) (sym c.writers_at.ensures) (writers_rise c.args.graph.now (key_at c.args.graph.now c.args.key_index))

pub returns-then-has_number : goal.returns-then-has_number
returns-then-has_number c =
    let h = c.args.graph.now in
    let x : List ℕ = key_at h c.args.key_index in
    let listed : Contains (writers h x) c.args.from
    = subst (λ (z : List ℕ). Contains z c.args.from) c.writers_at.ensures (c.has_number.ensures.0 c.if-has_number.true) in (
      (λ e. ((c.requires.other, c.requires.read, writer_writes h x c.args.from listed), pair_kinds h c.args.from c.args.reader (sym c.causal.ensures ∙ e))),
      (λ w. c.causal.ensures ∙ pair_from_kinds h c.args.from c.args.reader w.1),
    )

pub returns-else-has_number : goal.returns-else-has_number
returns-else-has_number c =
    let h = c.args.graph.now in
    let x : List ℕ = key_at h c.args.key_index in (
      (λ e. absurd (false≢true (sym c.if-has_number.false ∙ e))),
      (λ w.
          let listed : Contains c.writers_at.result.now c.args.from
          = subst (λ (z : List ℕ). Contains z c.args.from) (sym c.writers_at.ensures) (writer_listed h x c.args.source c.args.reader c.args.from c.requires.read w.0.2) in
          absurd (false≢true (sym c.if-has_number.false ∙ c.has_number.ensures.1 listed))),
    )
