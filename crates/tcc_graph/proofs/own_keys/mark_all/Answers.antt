use Rattle.std.proofs.Common.{ℕ, ◌<◌, ◌≡◌, Bool, true, List, length, subst, ◌∙◌, arith}
use Rattle.std.specs.Prelude.{All}
use Rattle.std.proofs.lemmas.List.{take_all}
use Rattle.std.proofs.lemmas.List.Elements.{All-weaker}
use Rattle.tcc_reads.specs.Indexed.{Indexed, IsWithin, indexed_of, unindexed}
use Rattle.tcc_graph.specs.private.Marks.{is_marked}
use Rattle.tcc_graph.specs.private.ReadTables.{UsesOnly}
use Rattle.tcc_graph.proofs.KeptKeys.{one_taken, uses_kept}
use Rattle.tcc_graph.proofs.own_keys.mark_all.Goals as goal

pub mark_written-requires : goal.mark_written-requires
mark_written-requires c =
    let within : IsWithin (length c.args.marks.now) (indexed_of c.args.transactions.now c.loop-number.number)
    = c.requires c.loop-number.number unindexed (omega (arith, c.loop-number-test.true, c.len-number-end.ensures)) in
    rw (c.writes.ensures, c.loop-number.invariant.long) within.writes

pub mark_read-requires : goal.mark_read-requires
mark_read-requires c =
    let within : IsWithin (length c.args.marks.now) (indexed_of c.args.transactions.now c.loop-number.number)
    = c.requires c.loop-number.number unindexed (omega (arith, c.loop-number-test.true, c.len-number-end.ensures)) in
    rw (c.reads.ensures, c.mark_written.ensures.long, c.loop-number.invariant.long) within.reads

pub loop-number-preserved : goal.loop-number-preserved
loop-number-preserved c =
    let old : List Bool = c.loop-number.marks in
    let new : List Bool = c.mark_read.new.marks in
    let i : ℕ = c.loop-number.number in
    let item : Indexed = indexed_of c.args.transactions.now i in
    let inside : i < length c.args.transactions.now = omega (arith, c.loop-number-test.true, c.len-number-end.ensures) in
    let more : (k : ℕ) → is_marked old k ≡ true → is_marked new k ≡ true = λ k at. c.mark_read.ensures.kept k (c.mark_written.ensures.kept k at) in
    let written : All (λ (k : ℕ). is_marked c.mark_written.new.marks k ≡ true) item.writes = rw c.writes.ensures at c.mark_written.ensures.all in
    let read : All (λ (r : ℕ × ℕ). is_marked new r.0 ≡ true) item.reads = rw c.reads.ensures at c.mark_read.ensures.all in
    let here : UsesOnly (is_marked new) item = record {
      writes = All-weaker (λ (k : ℕ). is_marked c.mark_written.new.marks k ≡ true) (λ (k : ℕ). is_marked new k ≡ true) c.mark_read.ensures.kept item.writes written;
      reads = read;
    } in
    record {
      long = c.mark_read.ensures.long ∙ c.mark_written.ensures.long ∙ c.loop-number.invariant.long;
      only = λ passes all before.
          let uses : UsesOnly passes item = all i unindexed inside in
          c.mark_read.ensures.only passes (rw c.reads.ensures uses.reads)
          (c.mark_written.ensures.only passes (rw c.writes.ensures uses.writes) (c.loop-number.invariant.only passes all before));
      all = one_taken (UsesOnly (is_marked old)) (UsesOnly (is_marked new)) (λ p uses. uses_kept old new more p uses) c.args.transactions.now i unindexed inside
          c.loop-number.invariant.all here;
    }

pub returns-clause-all : goal.returns-clause-all
returns-clause-all c =
    subst (All (UsesOnly (is_marked c.loop-number.marks)))
    (take_all c.loop-number.number c.args.transactions.now (omega (arith, c.loop-number-test.false, c.len-number-end.ensures))) c.loop-number.invariant.all
