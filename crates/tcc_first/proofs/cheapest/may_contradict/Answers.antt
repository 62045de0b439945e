use Rattle.std.proofs.Common.{List, ℕ, sym, subst}
use Rattle.std.specs.List.{Contains}
use Rattle.std.specs.List.Sorted.{IsNonDecreasing}
use Rattle.tcc_graph.specs.Keys.{key_at}
use Rattle.tcc_graph.proofs.WriterLemmas.{writer_writes, writer_listed}
use Rattle.tcc_least.proofs.Within.{writers_rise}
use Rattle.tcc_first.proofs.cheapest.may_contradict.Goals as goal

pub has_number-requires : goal.has_number-requires
has_number-requires c = subst (λ (z : List ℕ). IsNonDecreasing z) (sym c.writers_at.ensures) (writers_rise c.args.graph.now (key_at c.args.graph.now c.args.key_index))

pub returns-then-from-source : goal.returns-then-from-source
returns-then-from-source c =
    let h = c.args.graph.now in
    let x : List ℕ = key_at h c.args.key_index in (
      (λ e. (
        c.if-from-source.true,
        c.requires.read,
        writer_writes h x c.args.from (subst (λ (z : List ℕ). Contains z c.args.from) c.writers_at.ensures (c.has_number.ensures.0 e)),
      )),
      (λ against.
          c.has_number.ensures.1 (subst (λ (z : List ℕ). Contains z c.args.from) (sym c.writers_at.ensures)
          (writer_listed h x c.args.source c.args.reader c.args.from c.requires.read against.2))),
    )
