use Rattle.std.proofs.Common.{rules, ◌≡◌, ℕ, [], ◌∷◌, ◌++◌, length, slice_index, ◌∙◌, arith}
use Rattle.tcc_near.specs.private.Breadth.{IsPairsFrom}
use Rattle.tcc_near.proofs.RowLemmas.{rows_pushed}
use Rattle.tcc_near.proofs.adjacency.readers_apart.Goals as goal

pub loop-from-preserved : goal.loop-from-preserved
loop-from-preserved c =
    let pushed : c.push.new.self.items ≡ c.loop-from.readers.items ++ c.in_ok-other_readers.field-0 ∷ [] = search rules in
    rw pushed (rows_pushed (λ (u : ℕ) row. IsPairsFrom c.args.graph.now u (slice_index c.args.ends.now u) row) c.loop-from.readers.items
    c.in_ok-other_readers.field-0 c.loop-from.from c.loop-from.invariant c.in_ok-other_readers.ensures)

pub returns : goal.returns
returns c =
    let inv = c.loop-from.invariant in
    let all : c.loop-from.from ≡ length c.args.ends.now = omega (arith, c.loop-from-test.false, c.loop-from.auto.from-end) in
    record {
      long = inv.0 ∙ (all ∙ c.requires.ends.long);
      each = λ u from. inv.1 u [] (omega (arith, all, from, c.requires.ends.long));
    }
