use Rattle.std.proofs.Common.{ℕ, List, sym, subst, ◌∙◌, arith, inr}
use Rattle.std.specs.List.{Contains}
use Rattle.std.specs.List.Sorted.{IsNonDecreasing}
use Rattle.std.proofs.lemmas.Bool.{false≢true}
use Rattle.tcc_graph.specs.Keys.{key_at}
use Rattle.tcc_graph.proofs.Pairs.{pair_kinds, pair_from_kinds}
use Rattle.tcc_graph.proofs.WriterLemmas.{writer_writes, writer_listed}
use Rattle.tcc_least.proofs.Within.{writers_rise}
use Rattle.tcc_first.proofs.WayLemmas.{read_down}
use Rattle.tcc_first.proofs.stale_sources.overwrites_source.Goals as goal

pub has_number-requires : goal.has_number-requires
has_number-requires c =
    subst (λ (z : List ℕ). IsNonDecreasing z) (sym c.writers_at.ensures) (writers_rise c.args.graph.now (key_at c.args.graph.now c.args.read.0))

pub returns-then-read-start : goal.returns-then-read-start
returns-then-read-start c = ((λ e. absurd (false≢true e)), (λ found. absurd (omega (arith, found.0, c.if-read-start.true))))

pub returns-then-has_number : goal.returns-then-has_number
returns-then-has_number c =
    let h = c.args.graph.now in
    let x : List ℕ = key_at h c.args.read.0 in (
      (λ e. (
        omega (arith, c.if-read-start.false),
        writer_writes h x c.args.start (subst (λ (z : List ℕ). Contains z c.args.start) c.writers_at.ensures (c.has_number.ensures.0 c.if-has_number.true)),
        read_down h c.numbered.ensures.numbered c.args.read.1 c.args.start (omega (arith, c.if-read-start.false))
            (pair_kinds h c.args.read.1 c.args.start (sym c.causal.ensures ∙ e)),
      )),
      (λ found. c.causal.ensures ∙ pair_from_kinds h c.args.read.1 c.args.start (inr found.2)),
    )

pub returns-else-has_number : goal.returns-else-has_number
returns-else-has_number c =
    let h = c.args.graph.now in
    let x : List ℕ = key_at h c.args.read.0 in (
      (λ e. absurd (false≢true (sym c.if-has_number.false ∙ e))),
      (λ found. absurd (false≢true (sym c.if-has_number.false ∙ c.has_number.ensures.1
          (subst (λ (z : List ℕ). Contains z c.args.start) (sym c.writers_at.ensures)
          (writer_listed h x c.args.read.1 c.args.reader c.args.start c.requires.is found.1))))),
    )
