use Rattle.std.proofs.Common.{ℕ, ◌≡◌, ◌++◌, List, length, take, false}
use Rattle.std.specs.Prelude.{All}
use Rattle.tcc_txn.specs.Transactions.{writes_zero}
use Rattle.tcc_forget.specs.Counters.{AreHighest, CountUpBelow, values_written}
use Rattle.tcc_forget.proofs.counters.Counters.take.Given as goal

abbrev pub invariant-loop-before : goal.invariant-loop-before
invariant-loop-before l = record {
  long : length l.next ≡ length l.fn.self;
  so_far : (written : List ℕ) → AreHighest written l.fn.self → All (λ op. writes_zero op ≡ false) l.ops
      → CountUpBelow (length l.fn.self) written l.ops l.before × AreHighest (written ++ values_written (take l.before l.ops)) l.next;
}
