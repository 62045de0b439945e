-- The clocks row by row, and places so far.
use Rattle.std.specs.Prelude.{ℕ, ◌<◌, ◌≤◌, ◌≡◌, ◌⊎◌, ◌==◌, if◌then◌else◌, max, List, length, slice_index}
use Rattle.tcc_reads.specs.History.{History, count, place}
use Rattle.tcc_graph.specs.Tables.{row_of}
use Rattle.tcc_graph.specs.Clocks.{IsBehind, IsLast}
use Rattle.tcc_near.specs.declared.walk_lengths.TheConstants.{NONE}

-- the greatest place of a transaction below n of the session from which t is reached, or 0 if there is none
pub record IsLastBelow (h : History) (t : ℕ) (session : ℕ) (n : ℕ) (last : ℕ) : Type 0 where
  pub attained : (last ≡ 0) ⊎ ((b : ℕ) × IsBehind h t session b × (place h b ≡ last))
  pub greatest : (b : ℕ) → b < n → IsBehind h t session b → place h b ≤ last

-- the last place, raised if a walk leads from this one
abbrev pub raised : ℕ → ℕ → ℕ → ℕ
raised place steps last = if steps == NONE then last else max place last

-- the last place of a session below n that reaches each transaction
pub record AreLastsBelow (h : History) (session : ℕ) (n : ℕ) (row : List ℕ) : Type 0 where
  pub long : length row ≡ count h
  pub exact : (t : ℕ) → t < count h → IsLastBelow h t session n (slice_index row t)

-- the last place of a session that reaches each transaction
pub record AreLasts (h : History) (session : ℕ) (row : List ℕ) : Type 0 where
  pub long : length row ≡ count h
  pub exact : (t : ℕ) → t < count h → IsLast h t session (slice_index row t)

-- a row of last places for each session
pub record HaveLasts (h : History) (rows : List (List ℕ)) : Type 0 where
  pub long : length rows ≡ length h.sessions
  pub each : (session : ℕ) → session < length h.sessions → AreLasts h session (row_of rows session)
