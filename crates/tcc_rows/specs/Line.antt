-- What a lawful record says.
use Rattle.std.specs.Prelude.{ℕ, Bool, List}
use Rattle.tcc_txn.specs.declared.op.Op.{Op}

-- an answer is wanted; a transaction of the session begins; it is finished; it ends with unknown outcome; or it reads or
-- writes
pub data Line : Type 0 where
  Seal : Line
  Begin : List ℕ → Line
  Finish : List ℕ → Bool → Line
  Unknown : List ℕ → Line
  Operation : List ℕ → Op → Line
