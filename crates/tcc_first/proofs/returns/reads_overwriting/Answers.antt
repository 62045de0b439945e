use Rattle.std.proofs.Common.{rules, ℕ, ◌≡◌, ◌<◌, true, List, sym, subst, ◌∙◌, arith}
use Rattle.std.specs.Prelude.{slice_index_or}
use Rattle.std.specs.List.{Contains}
use Rattle.std.specs.List.Sorted.{IsNonDecreasing}
use Rattle.std.proofs.lemmas.Bool.{false≢true}
use Rattle.tcc_graph.specs.Keys.{key_at}
use Rattle.tcc_graph.specs.Relations.{causal_pair}
use Rattle.tcc_graph.proofs.Pairs.{pair_kinds, pair_from_kinds}
use Rattle.tcc_graph.proofs.WriterLemmas.{writer_writes, writer_listed}
use Rattle.tcc_least.proofs.Within.{writers_rise}
use Rattle.tcc_least.proofs.ReadLemmas.{AreReadsAt}
use Rattle.tcc_least.proofs.ReturnLemmas.{read_at, place_of}
use Rattle.tcc_first.proofs.returns.reads_overwriting.Goals as goal

pub has_number-requires : goal.has_number-requires
has_number-requires c =
    subst (λ (z : List ℕ). IsNonDecreasing z) (sym c.writers_at-writers.ensures) (writers_rise c.args.graph.now (key_at c.args.graph.now c.args.key_index))

pub returns-then-has_number : goal.returns-then-has_number
returns-then-has_number c =
    let h = c.args.graph.now in
    let x : List ℕ = key_at h c.args.key_index in
    let reads = c.reads_at-read-items.result.now in
    let are : AreReadsAt h c.args.reader reads = record { value = c.reads_at-read-items.ensures.value; within = c.reads_at-read-items.ensures.within } in
    let k : ℕ = c.loop-read.read-index in
    let b : ℕ = (slice_index_or reads k (0, 0)).1 in (
      (λ _. (
        b,
        writer_writes h x b (subst (λ (z : List ℕ). Contains z b) c.writers_at-writers.ensures (c.has_number.ensures.0 c.if-has_number.true)),
        c.if-from-read.true,
        pair_kinds h c.args.from b (sym c.causal.ensures ∙ c.if-causal.true),
        (key_at h (slice_index_or reads k (0, 0)).0, read_at h c.args.reader reads are c.requires.reader k c.loop-read-test.true),
      )),
      (λ _. search rules),
    )

pub returns : goal.returns
returns c =
    let h = c.args.graph.now in
    let x : List ℕ = key_at h c.args.key_index in
    let reads = c.reads_at-read-items.result.now in
    let are : AreReadsAt h c.args.reader reads = record { value = c.reads_at-read-items.ensures.value; within = c.reads_at-read-items.ensures.within } in (
      (λ e. absurd (false≢true e)),
      (λ (b, writer, low, p, (y, read)).
          let w = place_of h c.args.reader reads are c.requires.reader b y read in
          let listed : Contains c.writers_at-writers.result.now b
          = subst (λ (z : List ℕ). Contains z b) (sym c.writers_at-writers.ensures) (writer_listed h x c.args.from c.args.reader b c.requires.read writer) in
          absurd (c.loop-read.invariant w.0 (omega (arith, w.1, c.loop-read-test.false))
          (subst (λ (z : ℕ). c.args.from < z) (sym w.2) low)
          (subst (λ (z : ℕ). causal_pair h c.args.from z ≡ true) (sym w.2) (pair_from_kinds h c.args.from b p))
          (subst (λ (z : ℕ). Contains c.writers_at-writers.result.now z) (sym w.2) listed))),
    )
