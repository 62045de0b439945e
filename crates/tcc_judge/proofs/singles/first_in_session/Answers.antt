use Rattle.std.proofs.Common.{rules, ◌≡◌, true, false, arith}
use Rattle.std.specs.List.Sorted.{IsPartitionPoint}
use Rattle.std.proofs.lemmas.List.Sorted.{IsPartitionPoint-from_clause}
use Rattle.tcc_judge.specs.private.Singles.{is_passed}
use Rattle.tcc_judge.proofs.SingleLemmas.{parted, no_writer, none_in_session, one_in_session}
use Rattle.tcc_judge.proofs.singles.first_in_session.Goals.{After-partition_point-index}
use Rattle.tcc_judge.proofs.singles.first_in_session.Goals as goal

point : (c : After-partition_point-index)
    → IsPartitionPoint (λ b. is_passed c.args.positions.now c.args.begin c.args.reader c.args.position b ≡ true)
    (λ b. is_passed c.args.positions.now c.args.begin c.args.reader c.args.position b ≡ false) c.args.writers.now c.partition_point-index.result
point c =
    IsPartitionPoint-from_clause (is_passed c.args.positions.now c.args.begin c.args.reader c.args.position) c.args.writers.now c.partition_point-index.result
    c.partition_point-index.ensures.partitioned
    (parted c.args.positions.now c.args.writers.now c.args.begin c.args.reader c.args.position c.requires.writers c.requires.rise) (λ a r f' k. search rules)

pub returns-then-index-writers : goal.returns-then-index-writers
returns-then-index-writers c =
    no_writer c.args.positions.now c.args.writers.now c.args.begin c.args.reader c.args.position c.requires.writers c.requires.rise
    c.partition_point-index.result (point (goal.at.returns-then-index-writers c).After-partition_point-index) (omega (arith, c.if-index-writers.true))

pub returns-then-writer-reader : goal.returns-then-writer-reader
returns-then-writer-reader c =
    one_in_session c.args.positions.now c.args.writers.now c.args.begin c.args.reader c.args.position c.requires.writers c.requires.rise
    c.partition_point-index.result (point (goal.at.returns-then-writer-reader c).After-partition_point-index) (omega (arith, c.if-index-writers.false))
    c.if-writer-reader.true

pub returns-else-writer-reader : goal.returns-else-writer-reader
returns-else-writer-reader c =
    none_in_session c.args.positions.now c.args.writers.now c.args.begin c.args.reader c.args.position c.requires.writers c.requires.rise
    c.partition_point-index.result (point (goal.at.returns-else-writer-reader c).After-partition_point-index) (omega (arith, c.if-index-writers.false))
    c.if-writer-reader.false
