use Rattle.std.proofs.Common.{rules, ◌≡◌, ℕ, [], ◌∷◌, ◌++◌, length, get_or, refl, arith}
use Rattle.tcc_near.proofs.RowLemmas.{rows_pushed}
use Rattle.tcc_derive.specs.declared.read.Read.{Read}
use Rattle.tcc_derive.proofs.TableLemmas.{reads_listed, reads_below}
use Rattle.tcc_derive.proofs.read_table.reads_at.Goals as goal

pub overflow_cast-source : goal.overflow_cast-source
overflow_cast-source c =
    let below = reads_below c.args.graph.now _ _ _ c.readings_of.ensures.long c.readings_of.ensures.each c.loop-number.number c.loop-number-test.true in
    omega (arith, below.0, c.requires.few)

pub overflow_cast-readers : goal.overflow_cast-readers
overflow_cast-readers c =
    let below = reads_below c.args.graph.now _ _ _ c.readings_of.ensures.long c.readings_of.ensures.each c.loop-number.number c.loop-number-test.true in
    omega (arith, below.1, c.requires.few)

pub loop-number-preserved : goal.loop-number-preserved
loop-number-preserved c =
    let n = c.loop-number.number in
    let sources = c.readings_of.result.0.now in
    let readers = c.readings_of.result.1.now in
    let rows = c.loop-number.reads.items in
    let made : Read = record { source = get_or sources n 0; reader = get_or readers n 0 } in
    let pushed : c.push.new.self.items ≡ rows ++ made ∷ [] = search rules in
    rw pushed
    (rows_pushed (λ (i : ℕ) (r : Read). r ≡ record { source = get_or sources i 0; reader = get_or readers i 0 }) rows made n c.loop-number.invariant refl)

pub returns : goal.returns
returns c =
    let inv = c.loop-number.invariant in
    let sources = c.readings_of.result.0.now in
    let readers = c.readings_of.result.1.now in
    let all : c.loop-number.number ≡ length sources = search rules in
    let same : c.in-Ok.key_index ≡ c.args.key_index = search rules in
    rw (c.new.ensures, ← same) (reads_listed c.args.graph.now c.in-Ok.key_index sources readers c.loop-number.reads.items c.readings_of.ensures.long
    c.readings_of.ensures.each (omega (arith, inv.0, all)) (λ i d l. inv.1 i d (omega (arith, l, all))))
