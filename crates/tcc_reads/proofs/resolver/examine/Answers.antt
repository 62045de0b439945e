use Rattle.std.proofs.Common.{ℕ, ◌++◌, List, length, drop, take, refl, ap, ◌∙◌, arith}
use Rattle.tcc_reads.specs.History.{Entry}
use Rattle.tcc_reads.specs.Indexed.{entries_of}
use Rattle.tcc_reads.specs.private.Numbers.{Numbered, numbered}
use Rattle.tcc_reads.specs.private.Verdicts.{writers_in, entries_found}
use Rattle.tcc_reads.proofs.KeyNumbers.{enough, mine, theirs}
use Rattle.tcc_reads.proofs.Steps.{entries_taken, faults_taken, own_later}
use Rattle.tcc_reads.proofs.resolver.examine.Goals as goal

pub split_at-requires : goal.split_at-requires
split_at-requires g c =
    let same = c.in_ok-located.ensures.ops ∙ ap (λ (n : Numbered). n.stand.txn.ops) c.in_ok-located.ensures.located in
    omega (
      arith,
      c.len.ensures,
      enough c.args.snapshot.now c.args.places.now c.loop-place.place-index _ c.loop-place-test.true c.args.first.now.writers.keys c.loop-place.left.now
          c.loop-place.invariant.indices c.unpack_txn.new.ops.items same,
    )

pub examine_one-requires-clause-indices : goal.examine_one-requires-clause-indices
examine_one-requires-clause-indices g c =
    let same = c.in_ok-located.ensures.ops ∙ ap (λ (n : Numbered). n.stand.txn.ops) c.in_ok-located.ensures.located in
    rw c.deref.ensures.value
    (mine c.args.snapshot.now c.args.places.now c.loop-place.place-index _ c.loop-place-test.true c.args.first.now.writers.keys c.loop-place.left.now
    c.loop-place.invariant.indices c.unpack_txn.new.ops.items same c.split_at.result.0.now
    (c.split_at.ensures.front ∙ ap (λ (k : ℕ). take k c.loop-place.left.now) (c.len.ensures ∙ c.unpack_txn.new.ops.ok.0)))

pub loop-place-init : goal.loop-place-init
loop-place-init g c =
    let keys = c.args.first.now.writers.keys in
    let found = entries_found (writers_in c.args.first.now.writers) (numbered c.args.snapshot.now c.args.places.now) in
    record {
      indices = rw c.as_slice-left.ensures.value c.requires.indices;
      own = c.requires.own;
      transactions = ap (λ (es : List Entry). es ++ found) (c.in_ok-transactions.ensures.entry keys);
      within = c.in_ok-transactions.ensures.within (length keys);
      faults = rw c.new-faults.ensures.items refl;
    }

pub loop-place-preserved : goal.loop-place-preserved
loop-place-preserved g c =
    let s = c.args.snapshot.now in
    let places = c.args.places.now in
    let i : ℕ = c.loop-place.place-index in
    let table = writers_in c.args.first.now.writers in
    let located = c.in_ok-located.ensures.located in
    let same = c.in_ok-located.ensures.ops ∙ ap (λ (n : Numbered). n.stand.txn.ops) located in
    record {
      indices = theirs s places i _ c.loop-place-test.true c.args.first.now.writers.keys c.loop-place.left.now c.loop-place.invariant.indices
          c.unpack_txn.new.ops.items same c.split_at.result.1.now (c.split_at.ensures.back ∙ ap (λ (k : ℕ). drop k c.loop-place.left.now) (c.len.ensures ∙ c.unpack_txn.new.ops.ok.0));
      own = λ distinct. own_later s places i _ c.loop-place-test.true c.in_ok-located.located located table (c.loop-place.invariant.own distinct);
      transactions = entries_taken s places i _ c.loop-place-test.true c.in_ok-located.located located table
          (entries_of c.args.first.now.writers.keys c.loop-place.transactions)
          (entries_of c.args.first.now.writers.keys c.in_ok-transactions-2.transactions) _ c.in_ok-transactions-2.ensures.transactions
          c.loop-place.invariant.transactions;
      within = c.in_ok-transactions-2.ensures.within c.loop-place.invariant.within;
      faults = faults_taken s places i _ c.loop-place-test.true c.in_ok-located.located located table c.loop-place.faults.items
          c.examine_one.new.faults.items _ c.in_ok-transactions-2.ensures.faults c.loop-place.invariant.faults;
    }
