-- How much of each session reaches a transaction.
use Rattle.std.specs.Prelude.{ℕ, ◌<◌, ◌≤◌, ◌≡◌, ◌⊎◌, List, length, All, slice_index}
use Rattle.tcc_reads.specs.History.{History, count, owner, place}
use Rattle.tcc_graph.specs.Walks.{IsReached}
use Rattle.tcc_graph.specs.Tables.{row_of}

-- b is a committed transaction of the session, and t is reached from it
pub record IsBehind (h : History) (t : ℕ) (session : ℕ) (b : ℕ) : Type 0 where
  pub committed : 0 < b
  pub below : b < count h
  pub owned : owner h b ≡ session
  pub reached : IsReached h b t

-- the greatest place of a transaction of the session from which t is reached, or 0 if there is none
pub record IsLast (h : History) (t : ℕ) (session : ℕ) (last : ℕ) : Type 0 where
  pub attained : (last ≡ 0) ⊎ ((b : ℕ) × IsBehind h t session b × (place h b ≡ last))
  pub greatest : (b : ℕ) → IsBehind h t session b → place h b ≤ last

-- a row for each transaction, with the last place of each session
pub record IsClocksOf (h : History) (table : List (List ℕ)) : Type 0 where
  pub long : length table ≡ count h
  pub wide : All (λ row. length row ≡ length h.sessions) table
  pub exact : (t : ℕ) (session : ℕ) → t < count h → session < length h.sessions → IsLast h t session (slice_index (row_of table t) session)
