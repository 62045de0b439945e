use Rattle.std.proofs.Common.{ℕ, List, sym, subst, ◌∙◌}
use Rattle.std.specs.List.{Contains}
use Rattle.std.specs.List.Sorted.{IsNonDecreasing}
use Rattle.std.proofs.lemmas.Bool.{false≢true}
use Rattle.tcc_graph.specs.Keys.{key_at, writers}
use Rattle.tcc_graph.proofs.Pairs.{pair_kinds, pair_from_kinds}
use Rattle.tcc_graph.proofs.WriterLemmas.{writer_writes, writer_listed}
use Rattle.tcc_least.proofs.Within.{writers_rise}
use Rattle.tcc_least.proofs.returning.is_through.Goals as goal

pub is_among-requires : goal.is_among-requires
is_among-requires c = subst (λ (z : List ℕ). IsNonDecreasing z) (sym c.writers_at.ensures) (writers_rise c.args.graph.now (key_at c.args.graph.now c.args.read.0))

pub returns-then-not-is_among : goal.returns-then-not-is_among
returns-then-not-is_among c = λ d read. (
  (λ e. absurd (false≢true e)),
  (λ w.
      let x : List ℕ = key_at c.args.graph.now c.args.read.0 in
      let listed : Contains c.writers_at.result.now c.args.writer
      = subst (λ (z : List ℕ). Contains z c.args.writer) (sym c.writers_at.ensures) (writer_listed c.args.graph.now x c.args.read.1 d c.args.writer read w.0.2) in
      absurd (false≢true (sym c.if-not-is_among.true ∙ c.is_among.ensures.1 listed))),
)

pub returns : goal.returns
returns c = λ d read.
    let h = c.args.graph.now in
    let x : List ℕ = key_at h c.args.read.0 in
    let listed : Contains (writers h x) c.args.writer
    = subst (λ (z : List ℕ). Contains z c.args.writer) c.writers_at.ensures (c.is_among.ensures.0 c.if-not-is_among.false) in (
      (λ e. ((c.if-writer-read.false, read, writer_writes h x c.args.writer listed), pair_kinds h c.args.read.1 c.args.writer (sym c.causal.ensures ∙ e))),
      (λ w. c.causal.ensures ∙ pair_from_kinds h c.args.read.1 c.args.writer w.1),
    )
