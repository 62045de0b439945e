use Rattle.std.proofs.Common.{◌≡◌, ◌<◌, ℕ, List, [], length, subst, sym, arith, ◌∙◌}
use Rattle.std.specs.Prelude.{All}
use Rattle.std.specs.List.Sorted.{IsNonDecreasing}
use Rattle.std.proofs.lemmas.List.{get_or_default}
use Rattle.tcc_reads.specs.History.{count}
use Rattle.tcc_graph.specs.Keys.{key_at}
use Rattle.tcc_graph.specs.declared.level.Level.TheVariants.{Causal}
use Rattle.tcc_cert.specs.Tables.{row_of}
use Rattle.tcc_check.specs.private.Latest.{StandAllBefore}
use Rattle.tcc_graph.proofs.WriterLemmas.{writers_below}
use Rattle.tcc_check.proofs.Sessions.{writers_rise, kept_by_last, kept_by_reached}
use Rattle.tcc_check.proofs.latest.is_read_kept.Goals as goal

pub stand_before-requires-clause-writers : goal.stand_before-requires-clause-writers
stand_before-requires-clause-writers c = record {
  rising = subst IsNonDecreasing (sym c.writers_at-writers.ensures) (writers_rise c.args.graph.now (key_at c.args.graph.now c.args.key));
  below =
      subst (λ (bs : List ℕ). All (λ b. b < count c.args.graph.now) bs) (sym c.writers_at-writers.ensures) (writers_below c.args.graph.now (key_at c.args.graph.now c.args.key));
}

pub reached_before-requires-clause-below : goal.reached_before-requires-clause-below
reached_before-requires-clause-below c =
    subst (λ (bs : List ℕ). All (λ b. b < count c.args.graph.now) bs) (sym c.writers_at-writers.ensures) (writers_below c.args.graph.now (key_at c.args.graph.now c.args.key))

pub returns-then-writers-clock : goal.returns-then-writers-clock
returns-then-writers-clock c = λ t.
    kept_by_reached c.args.graph.now c.args.positions.now c.args.clocks.now (key_at c.args.graph.now c.args.key) c.args.source c.args.c Causal
    (rw (← c.writers_at-writers.ensures) (c.reached_before.ensures t))

pub returns-else-writers-clock : goal.returns-else-writers-clock
returns-else-writers-clock c = λ t.
    let h = c.args.graph.now in
    let positions = c.args.positions.now in
    let clocks = c.args.clocks.now in
    let size = c.requires.order.sized in
    let inside : c.args.c < length clocks = omega (arith, size.long, c.requires.reader) in
    let row : c.as_slice-clock.result.now ≡ row_of clocks c.args.c =
    c.as_slice-clock.ensures ∙ c.index-clocks-c.is ∙ get_or_default clocks c.args.c c.index-clocks-c.result [] inside in
    let stand : StandAllBefore h positions (row_of clocks c.args.c) c.writers_at-writers.result.now c.args.source =
    subst (λ (r : List ℕ). StandAllBefore h positions r c.writers_at-writers.result.now c.args.source) row (c.stand_before.ensures t) in
    kept_by_last h positions clocks (key_at c.args.graph.now c.args.key) c.args.source c.args.c c.requires.order c.requires.owners (size.wide c.args.c [] inside)
    (subst (λ (bs : List ℕ). StandAllBefore h positions (row_of clocks c.args.c) bs c.args.source) c.writers_at-writers.ensures stand)
