use Rattle.std.proofs.Common.{ℕ, ◌++◌, List, length, drop, take, ap, ◌∙◌, arith}
use Rattle.tcc_reads.specs.History.{Entry}
use Rattle.tcc_reads.specs.Indexed.{entries_of}
use Rattle.tcc_reads.specs.private.Numbers.{Numbered, numbered}
use Rattle.tcc_reads.specs.private.Tracings.{is_outside, entries_traced}
use Rattle.tcc_reads.specs.private.Verdicts.{writers_in}
use Rattle.tcc_reads.proofs.KeyNumbers.{enough, mine, theirs}
use Rattle.tcc_reads.proofs.Steps.{traced_taken}
use Rattle.tcc_reads.proofs.tracing.trace_all.Goals as goal

pub split_at-requires : goal.split_at-requires
split_at-requires g c =
    let same = c.in_ok-located.ensures.ops ∙ ap (λ (n : Numbered). n.stand.txn.ops) c.in_ok-located.ensures.located in
    omega (
      arith,
      c.len.ensures,
      enough c.args.snapshot.now c.args.places.now c.loop-place.place-index _ c.loop-place-test.true c.args.first.now.writers.keys c.loop-place.left.now
          c.loop-place.invariant.indices c.unpack_txn.new.ops.items same,
    )

pub trace_one-requires-clause-indices : goal.trace_one-requires-clause-indices
trace_one-requires-clause-indices g c =
    let same = c.in_ok-located.ensures.ops ∙ ap (λ (n : Numbered). n.stand.txn.ops) c.in_ok-located.ensures.located in
    rw c.deref.ensures.value
    (mine c.args.snapshot.now c.args.places.now c.loop-place.place-index _ c.loop-place-test.true c.args.first.now.writers.keys c.loop-place.left.now
    c.loop-place.invariant.indices c.unpack_txn.new.ops.items same c.split_at.result.0.now
    (c.split_at.ensures.front ∙ ap (λ (k : ℕ). take k c.loop-place.left.now) (c.len.ensures ∙ c.unpack_txn.new.ops.ok.0)))

pub loop-place-init : goal.loop-place-init
loop-place-init g c =
    let keys = c.args.first.now.writers.keys in
    let traced = entries_traced (writers_in c.args.first.now.writers) (is_outside c.args.rewrites.now) (numbered c.args.snapshot.now c.args.places.now) in
    record {
      indices = rw c.as_slice-left.ensures.value c.requires.indices;
      traced = ap (λ (es : List Entry). es ++ traced) (c.in_ok-transactions.ensures.entry keys);
      within = c.in_ok-transactions.ensures.within (length keys);
    }

pub loop-place-preserved : goal.loop-place-preserved
loop-place-preserved g c =
    let s = c.args.snapshot.now in
    let places = c.args.places.now in
    let i : ℕ = c.loop-place.place-index in
    let located = c.in_ok-located.ensures.located in
    let same = c.in_ok-located.ensures.ops ∙ ap (λ (n : Numbered). n.stand.txn.ops) located in
    record {
      indices = theirs s places i _ c.loop-place-test.true c.args.first.now.writers.keys c.loop-place.left.now c.loop-place.invariant.indices
          c.unpack_txn.new.ops.items same c.split_at.result.1.now (c.split_at.ensures.back ∙ ap (λ (k : ℕ). drop k c.loop-place.left.now) (c.len.ensures ∙ c.unpack_txn.new.ops.ok.0));
      traced = traced_taken s places i _ c.loop-place-test.true c.in_ok-located.located located (writers_in c.args.first.now.writers)
          (is_outside c.args.rewrites.now) (entries_of c.args.first.now.writers.keys c.loop-place.transactions)
          (entries_of c.args.first.now.writers.keys c.in_ok-transactions-2.transactions) _ c.in_ok-transactions-2.ensures.transactions
          c.loop-place.invariant.traced;
      within = c.in_ok-transactions-2.ensures.within c.loop-place.invariant.within;
    }
