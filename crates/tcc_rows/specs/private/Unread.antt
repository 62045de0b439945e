-- Values of pending transactions from one step to the next.
use Rattle.std.specs.Prelude.{ℕ, ◌≡◌, Bool, false, not, ◌&&◌, ◌||◌, List}
use Rattle.tcc_rows.specs.Followed.{WrittenSet, holds}
use Rattle.tcc_rows.specs.declared.pending.PendingValues.{PendingValues}
use Rattle.tcc_txn.specs.declared.op.Op.{Op}
use Rattle.tcc_txn.specs.declared.op.Op.TheVariants.{Get, Put}

-- the unread values that pass a test are found
pub record Strikes (is_struck : List ℕ × ℕ → Bool) (old new : PendingValues) : Type 0 where
  pub unread : (written : List ℕ × ℕ) → holds new.unread written ≡ (holds old.unread written && not (is_struck written))
  pub found : (written : List ℕ × ℕ) → holds new.found written ≡ (holds old.found written || (holds old.unread written && is_struck written))

-- of all the values that pass a test, the rest is still to be struck out
pub record LeavesRest (all rest : List ℕ × ℕ → Bool) (old now : PendingValues) : Type 0 where
  pub unread : (written : List ℕ × ℕ) → (holds now.unread written && not (rest written)) ≡ (holds old.unread written && not (all written))
  pub found : (written : List ℕ × ℕ) → (holds now.found written || (holds now.unread written && rest written))
      ≡ (holds old.found written || (holds old.unread written && all written))

-- the operation writes a value that is in the set
abbrev pub is_among : WrittenSet → Op → Bool
is_among found (Get key value) = false
is_among found (Put key value) = holds found (key, value)
